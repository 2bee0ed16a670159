-- What plans of rules find.
use Rattle.std.specs.Prelude.{◌≡◌, ◌↔◌, ℕ, List, take, length, IsTrue}
use Rattle.tel_base.specs.Members.{In}
use Rattle.tel_term.specs.declared.terms.Term.{Term}
use Rattle.tel_term.specs.declared.terms.Value.{Value}
use Rattle.tel_term.specs.Symbols.{IsTable}
use Rattle.tel_rule.specs.declared.statements.Head.{Head}
use Rattle.tel_rule.specs.declared.statements.Literal.{Literal}
use Rattle.tel_rule.specs.declared.statements.Statement.{Statement}
use Rattle.live_instances.specs.Bindings.{is_binding}
use Rattle.live_instances.specs.Instances.{rule_exprs, makes_instance, is_live}
use Rattle.join_plans.specs.Join.{Step, answers}
use Rattle.join_plans.specs.Once.{IsOnce}
use Rattle.rule_plans.specs.Goals.{Rows, place_count, IsRulePlan}
use Rattle.rule_plans.specs.Within.{AreWithin, AreRowsOf}

-- some of these goes on with the binding
pub record IsFront (binding : List Value) (found : List (List Value)) : Type 0 where
  pub whole : List Value
  pub there : In whole found
  pub begins : take (length binding) whole ≡ binding

-- the first places of what was found are bindings of so many variables; those that make an instance are exactly the live ones, each found once
pub record AreTheLive (statements : List Statement) (symbols : List Term) (count : ℕ) (head : Head) (body : List Literal) (found : List (List Value)) : Type 0 where
  pub bindings : (whole : List Value) → In whole found → IsTrue (is_binding symbols count (take count whole))
  pub live : (binding : List Value) → IsTrue (is_binding symbols count binding)
      → IsTrue (is_live statements symbols head body binding) ↔ (IsTrue (makes_instance symbols head body binding) × IsFront binding found)
  pub once : IsOnce found
  pub apart : (a b : List Value) → In a found → In b found → take count a ≡ take count b → a ≡ b

abbrev pub RulePlansFindTheLive : Type 0
RulePlansFindTheLive =
    (statements : List Statement) (symbols : List Term) (rows : Rows) (count : ℕ) (head : Head) (body : List Literal) (steps : List Step) (env : List Value)
    → IsTable symbols → AreRowsOf statements symbols rows → AreWithin symbols count (rule_exprs head body)
    → IsRulePlan statements symbols rows count body steps → length env ≡ place_count statements rows count body
    → AreTheLive statements symbols count head body (answers steps env)
