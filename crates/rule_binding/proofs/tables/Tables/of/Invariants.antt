use Rattle.std.proofs.Common.{◌≡◌, drop, None}
use Rattle.tel_rule.specs.declared.statements.Signature.{Signature}
use Rattle.rule_binding.specs.Heads.{known_of, said}
use Rattle.rule_binding.proofs.tables.Tables.of.Given as goal

abbrev pub invariant-loop-statement : goal.invariant-loop-statement
invariant-loop-statement l = (predicate : Signature) → known_of (drop l.statement-index l.statements) predicate (said l.names predicate) ≡ known_of l.statements predicate None
