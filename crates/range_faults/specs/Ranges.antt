-- Which of some statements of a program leaves the range of numbers first, and of which programs that can be found.
use Rattle.std.specs.Prelude.{◌≡◌, ℕ, ◌<◌, List, Option, Some, None, slice_get}
use Rattle.tel_base.specs.Members.{In}
use Rattle.tel_base.specs.declared.places.Place.{Place}
use Rattle.tel_term.specs.declared.terms.Term.{Term}
use Rattle.tel_term.specs.Symbols.{IsTable}
use Rattle.tel_rule.specs.declared.statements.Statement.{Statement}
use Rattle.tel_semantics.specs.Tables.{is_table}
use Rattle.rule_binding.specs.Binding.{IsFirstUnbound}
use Rattle.live_instances.specs.Reached.{LeavesRange}
use Rattle.rule_plans.specs.Goals.{Rows}
use Rattle.rule_plans.specs.Within.{StatementsAreWithin, AreRowsOf}
use Rattle.plan_search.specs.Steps.{Tables, RowsHaveTerms}
use Rattle.rule_goals.specs.Said.{Numbers}
use Rattle.rule_goals.specs.Numbers.{AreNumbered}

-- no statement of a program with these statements and symbols leaves the range
abbrev pub NoneLeavesRange : List Statement → List Term → Type 0
NoneLeavesRange statements symbols = (statement : Statement) → In statement statements → LeavesRange statements symbols statement → ⊥

-- the first one that does stands here
pub record IsFirstLeaving (statements : List Statement) (symbols : List Term) (place : Place) : Type 0 where
  pub number : ℕ
  pub statement : Statement
  pub at : slice_get statements number ≡ Some statement
  pub leaves : LeavesRange statements symbols statement
  pub before : (other : ℕ) (earlier : Statement) → other < number → slice_get statements other ≡ Some earlier → LeavesRange statements symbols earlier → ⊥
  pub stands : place ≡ statement.place

abbrev pub LeavesFirst : List Statement → List Term → Option Place → Type 0
LeavesFirst statements symbols None = NoneLeavesRange statements symbols
LeavesFirst statements symbols (Some place) = IsFirstLeaving statements symbols place

-- a program of terms of its own whose variables are all bound, and its tables with the rows that its facts state, under the numbers of their predicates
pub record IsBoundProgram (number : Numbers) (statements : List Statement) (rows : Rows) (tables : Tables) (symbols : List Term) : Type 0 where
  pub table : IsTable symbols
  pub rows_are : AreRowsOf statements symbols rows
  pub numbered : AreNumbered number statements rows tables
  pub within : StatementsAreWithin symbols statements
  pub bound : (statement : Statement) → In statement statements → IsFirstUnbound (is_table statements) statement None
  pub terms : RowsHaveTerms symbols tables
