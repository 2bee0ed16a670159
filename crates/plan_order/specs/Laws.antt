-- Goals of a rule.
use Rattle.std.specs.Prelude.{◌≡◌, ◌⊎◌, ℕ, List, map}
use Rattle.tel_base.specs.Members.{In}
use Rattle.tel_term.specs.declared.terms.Term.{Term}
use Rattle.tel_rule.specs.declared.statements.Literal.{Literal}
use Rattle.tel_rule.specs.declared.statements.Statement.{Statement}
use Rattle.join_plans.specs.Goals as plans
use Rattle.rule_plans.specs.Goals.{Rows, place_count, row_goals, body_goals, IsRulePlan}
use Rattle.plan_search.specs.declared.steps.Step.{Step}
use Rattle.plan_search.specs.Steps.{Tables, plan_of}
use Rattle.plan_order.specs.declared.goals.Goal.{Goal}
use Rattle.plan_order.specs.Goals.{meant}
use Rattle.plan_order.specs.Passing.{IsOrdered}

-- these goals say that the table atoms of a body are rows, and besides only what its equations and comparisons say
pub record AreRuleGoals (statements : List Statement) (symbols : List Term) (rows : Rows) (vars : ℕ) (body : List Literal) (tables : Tables) (places : ℕ) (goals : List Goal) : Type 0 where
  pub places_are : places ≡ place_count statements rows vars body
  pub all : (goal : plans.Goal) → In goal (row_goals statements rows vars body) → In goal (map (meant tables symbols) goals)
  pub only : (goal : plans.Goal) → In goal (map (meant tables symbols) goals) → In goal (row_goals statements rows vars body) ⊎ In goal (body_goals symbols body)

-- steps that ask for the goals of a rule are a plan of it
abbrev pub OrderedGoalsAreRulePlans : Type 0
OrderedGoalsAreRulePlans =
    (statements : List Statement) (symbols : List Term) (rows : Rows) (vars : ℕ) (body : List Literal) (tables : Tables) (places : ℕ) (goals : List Goal) (steps : List Step)
    → AreRuleGoals statements symbols rows vars body tables places goals → IsOrdered tables symbols places goals steps → IsRulePlan statements symbols rows vars body (plan_of tables symbols steps)
