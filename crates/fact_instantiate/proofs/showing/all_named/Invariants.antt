use Rattle.std.proofs.Common.{◌≡◌, ◌||◌, drop}
use Rattle.std.specs.List.{list_any}
use Rattle.tel_rule.specs.declared.statements.Signature.{Signature}
use Rattle.tel_semantics.specs.Tables.{same_predicate}
use Rattle.fact_instantiate.specs.Shown.{all_named}
use Rattle.fact_instantiate.specs.Named.{has_key}
use Rattle.fact_instantiate.proofs.showing.all_named.Given as goal

abbrev pub invariant-loop-statement : goal.invariant-loop-statement
invariant-loop-statement l = (predicate : Signature) →
    (has_key l.named predicate || list_any (same_predicate predicate) (all_named (drop l.statement-index l.statements))) ≡ list_any (same_predicate predicate) (all_named l.statements)
