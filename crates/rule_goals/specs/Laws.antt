-- What the goals of a body are, and that an order for them is found.
use Rattle.std.specs.Prelude.{◌≡◌, ℕ, List, ◌++◌, map, length, None}
use Rattle.std.specs.List.{flat_map}
use Rattle.tel_base.specs.Members.{In}
use Rattle.tel_term.specs.declared.terms.Term.{Term}
use Rattle.tel_term.specs.declared.exprs.Expr.{Expr}
use Rattle.tel_rule.specs.declared.statements.Literal.{Literal}
use Rattle.tel_rule.specs.declared.statements.Statement.{Statement}
use Rattle.tel_semantics.specs.Tables.{is_table}
use Rattle.rule_binding.specs.Binding.{body_of, IsFirstUnbound}
use Rattle.live_instances.specs.Instances.{item_exprs}
use Rattle.rule_plans.specs.Goals.{Rows, place_count, row_goals, body_goals}
use Rattle.rule_plans.specs.Within.{AreWithin}
use Rattle.plan_search.specs.Steps.{Tables}
use Rattle.plan_order.specs.declared.goals.Goal.{Goal}
use Rattle.plan_order.specs.Goals.{meant, IsSound, GoalsHaveTerms}
use Rattle.plan_order.specs.Passing.{IsStuck}
use Rattle.plan_order.specs.Laws.{AreRuleGoals}

-- the goals say that the table atoms of a body are rows and then what its equations and its comparisons say, and have so many places
pub record AreGoalsOf (statements : List Statement) (symbols : List Term) (rows : Rows) (tables : Tables) (vars : ℕ) (body : List Literal) (places : ℕ) (list : List Goal) : Type 0 where
  pub places_are : places ≡ place_count statements rows vars body
  pub goals_are : map (meant tables symbols) list ≡ row_goals statements rows vars body ++ body_goals symbols body

-- the goals say that the table atoms of a body are rows, and have so many places
pub record AreRowGoalsOf (statements : List Statement) (symbols : List Term) (rows : Rows) (tables : Tables) (vars : ℕ) (body : List Literal) (places : ℕ) (list : List Goal) : Type 0 where
  pub places_are : places ≡ place_count statements rows vars body
  pub goals_are : map (meant tables symbols) list ≡ row_goals statements rows vars body

-- the expressions of a body, from left to right
abbrev pub body_exprs : List Literal → List Expr
body_exprs body = flat_map (λ (literal : Literal). item_exprs literal.item) body

-- each goal has its places among so many, reads the variables of its expressions, and is of terms of the program
pub record AreFit (symbols : List Term) (places : ℕ) (list : List Goal) : Type 0 where
  pub sound : (goal : Goal) → In goal list → IsSound places goal
  pub terms : GoalsHaveTerms symbols list

-- the goals of a body are those of the rule
abbrev pub GoalsOfBodiesAreRuleGoals : Type 0
GoalsOfBodiesAreRuleGoals =
    (statements : List Statement) (symbols : List Term) (rows : Rows) (tables : Tables) (vars : ℕ) (body : List Literal) (places : ℕ) (list : List Goal)
    → AreGoalsOf statements symbols rows tables vars body places list → AreRuleGoals statements symbols rows vars body tables places list

-- where all variables of a rule are bound there is an order of its goals
abbrev pub BoundRulesHaveOrders : Type 0
BoundRulesHaveOrders =
    (statements : List Statement) (symbols : List Term) (rows : Rows) (tables : Tables) (rule : Statement) (places : ℕ) (list : List Goal)
    → AreGoalsOf statements symbols rows tables (length rule.vars) (body_of rule.kind) places list → AreFit symbols places list
    → AreWithin symbols (length rule.vars) (body_exprs (body_of rule.kind)) → IsFirstUnbound (is_table statements) rule None → IsStuck places list → ⊥
