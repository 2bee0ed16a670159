use Rattle.std.proofs.Common.{◌≡◌, suc, length, ◌∷◌, [], map, Some}
use Rattle.std.specs.Prelude.{if◌then◌else◌}
use Rattle.tel_rule.specs.declared.statements.Signature.{Signature}
use Rattle.tel_semantics.specs.Tables.{choices}
use Rattle.rule_goals.specs.Said.{Numbers}
use Rattle.fact_rows.specs.Walking.{all_of, rows_behind}
use Rattle.fact_rows.specs.Filling.{rows_stated}
use Rattle.fact_rows.proofs.Held.{Leads}
use Rattle.fact_rows.proofs.filling.Filling.add_rows.Given as goal

abbrev pub invariant-rows : goal.invariant-rows
invariant-rows l = record {
  long : length l.row.items ≡ length l.columns;
  leads : (number : Numbers) (predicate : Signature) → number predicate ≡ Some l.table
      → Leads number (rows_stated (Some l.table) predicate (if l.more then l.row.items ∷ rows_behind l.columns l.row.items else [])) (rows_stated (Some l.table) predicate (choices (map all_of l.columns))) l.initial.self l.self;
}

abbrev pub decreases-rows : goal.decreases-rows
decreases-rows l = if l.more then suc (length (rows_behind l.columns l.row.items)) else 0
