-- Goals that are left, and the steps so far.
use Rattle.std.specs.Prelude.{◌≡◌, ◌↔◌, ◌⊎◌, ℕ, ◌<◌, ◌≤◌, Bool, false, List, ◌++◌, map, length, replicate, slice_get, Some, IsTrue, IsFalse}
use Rattle.tel_base.specs.Members.{In}
use Rattle.tel_term.specs.declared.terms.Term.{Term}
use Rattle.join_plans.specs.Join as plans
use Rattle.join_plans.specs.Join.{is_known, IsPlan}
use Rattle.join_plans.specs.Goals as plans_goals
use Rattle.join_plans.specs.Goals.{goal_of}
use Rattle.plan_search.specs.declared.steps.Step.{Step}
use Rattle.plan_search.specs.Steps.{Tables, plan_of, HaveTerms}
use Rattle.plan_order.specs.declared.goals.Goal.{Goal}
use Rattle.plan_order.specs.Goals.{meant, GoalsHaveTerms, ready, IsDone}
use Rattle.plan_order.specs.Taking.{TakesOr}

-- the steps lead from no marks to these, ask for goals alone, and for all but those that are left
pub record IsDraft (tables : Tables) (symbols : List Term) (places : ℕ) (goals : List Goal) (left : List ℕ) (known : List Bool) (steps : List Step) : Type 0 where
  pub leads : (more : List plans.Step) → IsPlan known more → IsPlan (replicate places false) (plan_of tables symbols steps ++ more)
  pub only : (goal : plans_goals.Goal) → In goal (map goal_of (plan_of tables symbols steps)) → In goal (map (meant tables symbols) goals)
  pub each : (n : ℕ) (goal : Goal) → slice_get goals n ≡ Some goal → In n left ⊎ (In (meant tables symbols goal) (map goal_of (plan_of tables symbols steps)) × IsDone known goal)
  pub terms : GoalsHaveTerms symbols goals → HaveTerms symbols steps

-- a draft before is a draft after
abbrev pub Keeps : List Goal → List ℕ → List ℕ → List Bool → List Bool → List Step → List Step → Type 0
Keeps goals left next old new before after =
    (tables : Tables) (symbols : List Term) (places : ℕ) → IsDraft tables symbols places goals left old before → IsDraft tables symbols places goals next new after

abbrev pub AreInside : List Goal → List ℕ → Type 0
AreInside goals left = (n : ℕ) → In n left → n < length goals

-- none of these goals is ready
abbrev pub AreUnready : List Goal → List ℕ → List Bool → Type 0
AreUnready goals left known = (n : ℕ) (goal : Goal) → In n left → slice_get goals n ≡ Some goal → IsFalse (ready known goal)

-- each goal that was left was offered once
pub record Passes (goals : List Goal) (left next : List ℕ) (old new : List Bool) (before after : List Step) : Type 0 where
  pub keeps : Keeps goals left next old new before after
  pub inside : AreInside goals next
  pub long : length new ≡ length old
  pub fewer : length next ≤ length left
  pub quiet : length next ≡ length left → AreUnready goals next new

-- some goals were taken: these are left, and each is one
pub record Drafts (goals : List Goal) (left next : List ℕ) (old new : List Bool) (before after : List Step) : Type 0 where
  pub keeps : Keeps goals left next old new before after
  pub inside : AreInside goals next
  pub long : length new ≡ length old

-- ---- the whole order

-- the steps are a plan with so many places, and ask for exactly these goals
pub record IsOrdered (tables : Tables) (symbols : List Term) (places : ℕ) (goals : List Goal) (steps : List Step) : Type 0 where
  pub runs : IsPlan (replicate places false) (plan_of tables symbols steps)
  pub asks : (goal : plans_goals.Goal) → In goal (map goal_of (plan_of tables symbols steps)) ↔ In goal (map (meant tables symbols) goals)
  pub terms : GoalsHaveTerms symbols goals → HaveTerms symbols steps

-- some places have values, every goal that is ready with these gives no other one, and some place has none
pub record IsStuck (places : ℕ) (goals : List Goal) : Type 0 where
  pub known : List Bool
  pub long : length known ≡ places
  pub closed : (goal : Goal) → In goal goals → IsTrue (ready known goal) → IsDone known goal
  pub misses : (v : ℕ) × (v < places) × IsFalse (is_known known v)
