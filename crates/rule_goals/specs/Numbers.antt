-- Numbers of tables that fit a program.
use Rattle.std.specs.Prelude.{◌≡◌, ℕ, Bool, true, false, List, Option, Some, None}
use Rattle.tel_rule.specs.declared.statements.Signature.{Signature}
use Rattle.tel_rule.specs.declared.statements.Statement.{Statement}
use Rattle.tel_semantics.specs.Tables.{is_table}
use Rattle.fact_table.specs.Rows.{rows_of}
use Rattle.rule_plans.specs.Goals.{Rows}
use Rattle.plan_search.specs.Steps.{Tables}
use Rattle.rule_goals.specs.Said.{Numbers}

abbrev pub has_number : Option ℕ → Bool
has_number None = false
has_number (Some number) = true

-- exactly the tables of a program have numbers, and by its number a table has its rows
pub record AreNumbered (number : Numbers) (statements : List Statement) (rows : Rows) (tables : Tables) : Type 0 where
  pub tables_have : (predicate : Signature) → has_number (number predicate) ≡ is_table statements predicate
  pub rows_are : (predicate : Signature) (table : ℕ) → number predicate ≡ Some table → rows predicate ≡ rows_of tables table
