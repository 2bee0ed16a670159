use Rattle.std.proofs.Common.{◌≡◌, drop, None}
use Rattle.tel_rule.specs.declared.statements.Signature.{Signature}
use Rattle.rule_binding.specs.Heads.{known_of}
use Rattle.fact_rows.specs.Forms.{said, AreNamed}
use Rattle.fact_rows.proofs.numbers.PredicateNumbers.of.Given as goal

abbrev pub invariant-loop-statement : goal.invariant-loop-statement
invariant-loop-statement l = record {
  named : AreNamed l.numbers.names.keys l.numbers.forms;
  known : (predicate : Signature) → known_of (drop l.statement-index l.statements) predicate (said l.numbers.names.keys l.numbers.forms predicate) ≡ known_of l.statements predicate None;
}
