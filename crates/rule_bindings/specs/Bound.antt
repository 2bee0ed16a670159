-- Rules of a program whose variables are all bound, and plans for them.
use Rattle.std.specs.Prelude.{◌≡◌, ℕ, List, length, None}
use Rattle.tel_term.specs.declared.terms.Term.{Term}
use Rattle.tel_term.specs.Symbols.{IsTable}
use Rattle.tel_rule.specs.declared.statements.Head.{Head}
use Rattle.tel_rule.specs.declared.statements.Literal.{Literal}
use Rattle.tel_rule.specs.declared.statements.Kind.TheVariants as kinds
use Rattle.tel_rule.specs.declared.statements.Statement.{Statement}
use Rattle.tel_semantics.specs.Tables.{is_table}
use Rattle.rule_binding.specs.Binding.{IsFirstUnbound}
use Rattle.live_instances.specs.Instances.{rule_exprs}
use Rattle.rule_plans.specs.Goals.{Rows}
use Rattle.rule_plans.specs.Within.{AreWithin, AreRowsOf}
use Rattle.plan_search.specs.declared.steps.Step.{Step}
use Rattle.plan_search.specs.Steps.{Tables, HaveTerms}
use Rattle.rule_goals.specs.Said.{Numbers}
use Rattle.rule_goals.specs.Numbers.{AreNumbered}
use Rattle.live_bindings.specs.Planned.{IsPlanned}

-- A rule with this head and body, of terms of the program, whose variables are all bound where these are the statements; the tables hold the rows that
-- the statements state, under the numbers of their predicates.
pub record IsBoundRule (number : Numbers) (statements : List Statement) (rows : Rows) (tables : Tables) (symbols : List Term) (rule : Statement) (head : Head) (body : List Literal) : Type 0 where
  pub table : IsTable symbols
  pub rows_are : AreRowsOf statements symbols rows
  pub numbered : AreNumbered number statements rows tables
  pub is : rule.kind ≡ kinds.Rule head body
  pub within : AreWithin symbols (length rule.vars) (rule_exprs head body)
  pub bound : IsFirstUnbound (is_table statements) rule None

-- these steps are a plan of a rule, and of terms of the program
pub record IsPlanFor (statements : List Statement) (rows : Rows) (tables : Tables) (symbols : List Term) (vars : ℕ) (head : Head) (body : List Literal) (steps : List Step) (places : ℕ) : Type 0 where
  pub planned : IsPlanned tables symbols steps places vars head body statements rows
  pub terms : HaveTerms symbols steps
