-- What the tables of a program are, and when it has too many rows.
use Rattle.std.specs.Prelude.{ℕ, ◌<◌, List, [], length, Option, Some, None, IsTrue}
use Rattle.std.specs.List.{flat_map}
use Rattle.tel_base.specs.Members.{In}
use Rattle.tel_term.specs.declared.terms.Term.{Term}
use Rattle.tel_term.specs.declared.terms.Value.{Value}
use Rattle.tel_term.specs.declared.exprs.Expr.{Expr}
use Rattle.tel_rule.specs.declared.statements.Signature.{Signature}
use Rattle.tel_rule.specs.declared.statements.Kind.{Kind}
use Rattle.tel_rule.specs.declared.statements.Kind.TheVariants as kinds
use Rattle.tel_rule.specs.declared.statements.Statement.{Statement}
use Rattle.tel_semantics.specs.Tables.{is_table, is_row}
use Rattle.join_plans.specs.Once.{IsOnce}
use Rattle.fact_table.specs.Rows.{rows_of}
use Rattle.rule_plans.specs.Goals.{Rows}
use Rattle.rule_plans.specs.Within.{tuple_exprs, AreWithin}
use Rattle.plan_search.specs.Steps.{Tables}
use Rattle.rule_goals.specs.Said.{Numbers}

-- ---- rows by predicate

abbrev pub rows_at : Option ℕ → Tables → List (List Value)
rows_at None tables = []
rows_at (Some table) tables = rows_of tables table

-- the rows of each predicate, by the number of its table; one that is no table has none
abbrev pub rows_by : Numbers → Tables → Rows
rows_by number tables predicate = rows_at (number predicate) tables

-- ---- the limit

-- a predicate that is a table, and a row of it
pub record IsRowOf (statements : List Statement) (predicate : Signature) (row : List Value) : Type 0 where
  pub table : IsTrue (is_table statements predicate)
  pub has : IsTrue (is_row statements predicate row)

-- more rows in all than so many: some tables and rows of them, all different, are more
pub record HaveMoreRows (statements : List Statement) (most : ℕ) : Type 0 where
  pub rows : List (Signature × List Value)
  pub are_rows : (predicate : Signature) (row : List Value) → In (predicate, row) rows → IsRowOf statements predicate row
  pub once : IsOnce rows
  pub more : most < length rows

-- ---- what facts are made of

-- the expressions in the arguments of a fact
abbrev pub fact_exprs : Kind → List Expr
fact_exprs (kinds.Facts fact) = flat_map tuple_exprs fact.tuples
fact_exprs (kinds.Rule head body) = []
fact_exprs (kinds.Const name value) = []
fact_exprs (kinds.Show shown) = []

-- the arguments of facts are made of terms of the program and of variables of their statements
abbrev pub FactsAreWithin : List Term → List Statement → Type 0
FactsAreWithin symbols statements = (statement : Statement) → In statement statements → AreWithin symbols (length statement.vars) (fact_exprs statement.kind)
