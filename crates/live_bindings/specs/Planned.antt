-- Steps that are a plan of a rule, over tables that hold the rows of its program.
use Rattle.std.specs.Prelude.{◌≡◌, ℕ, List}
use Rattle.tel_term.specs.declared.terms.Term.{Term}
use Rattle.tel_term.specs.Symbols.{IsTable}
use Rattle.tel_rule.specs.declared.statements.Head.{Head}
use Rattle.tel_rule.specs.declared.statements.Literal.{Literal}
use Rattle.tel_rule.specs.declared.statements.Statement.{Statement}
use Rattle.live_instances.specs.Instances.{rule_exprs}
use Rattle.rule_plans.specs.Goals.{Rows, place_count, IsRulePlan}
use Rattle.rule_plans.specs.Within.{AreWithin, AreRowsOf}
use Rattle.plan_search.specs.declared.steps.Step.{Step}
use Rattle.plan_search.specs.Steps.{Tables, plan_of}

-- these steps are a plan, with so many places, of a rule of so many variables, and the rows are those that the statements state
pub record IsPlanned (tables : Tables) (symbols : List Term) (steps : List Step) (places vars : ℕ) (head : Head) (body : List Literal) (statements : List Statement) (rows : Rows) : Type 0 where
  pub table : IsTable symbols
  pub rows_are : AreRowsOf statements symbols rows
  pub within : AreWithin symbols vars (rule_exprs head body)
  pub plan : IsRulePlan statements symbols rows vars body (plan_of tables symbols steps)
  pub places_are : places ≡ place_count statements rows vars body
