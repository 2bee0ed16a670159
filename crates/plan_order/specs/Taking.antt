-- A goal becomes a step.
use Rattle.std.specs.Prelude.{◌≡◌, ℕ, Bool, true, false, List, [], ◌∷◌, ◌++◌, map, length, IsTrue}
use Rattle.tel_term.specs.declared.terms.Term.{Term}
use Rattle.join_plans.specs.declared.columns.Column.{Column}
use Rattle.join_plans.specs.Join as plans
use Rattle.join_plans.specs.Join.{place, is_known, AreRight, learn_all, IsPlan}
use Rattle.join_plans.specs.Goals.{goal_of}
use Rattle.plan_search.specs.declared.steps.Step.{Step}
use Rattle.plan_search.specs.Steps.{Tables, step_of, HasTerms}
use Rattle.plan_order.specs.declared.goals.Goal.{Goal}
use Rattle.plan_order.specs.Goals.{meant, GoalHasTerms, ready, IsDone}

-- these columns go to these places
pub record AreColumns (places : List ℕ) (old new : List Bool) (columns : List Column) : Type 0 where
  pub same : map place columns ≡ places
  pub right : AreRight old columns
  pub learnt : new ≡ learn_all old columns

-- the step asks for the goal and can be run where the old marks stand; the new ones are those behind it
pub record Takes (goal : Goal) (old new : List Bool) (step : Step) : Type 0 where
  pub asks : (tables : Tables) (symbols : List Term) → goal_of (step_of tables symbols step) ≡ meant tables symbols goal
  pub runs : (tables : Tables) (symbols : List Term) (more : List plans.Step) → IsPlan new more → IsPlan old (step_of tables symbols step ∷ more)
  pub done : IsDone new goal
  pub grows : (v : ℕ) → IsTrue (is_known old v) → IsTrue (is_known new v)
  pub long : length new ≡ length old
  pub terms : (symbols : List Term) → GoalHasTerms symbols goal → HasTerms symbols step

-- a goal that was ready was taken, by one step more
abbrev pub TakesOr : Goal → Bool → List Bool → List Bool → List Step → List Step → Type 0
TakesOr goal true old new before after = (step : Step) × Takes goal old new step × (after ≡ before ++ step ∷ [])
TakesOr goal false old new before after = (new ≡ old) × (after ≡ before)

pub record Offers (goal : Goal) (took : Bool) (old new : List Bool) (before after : List Step) : Type 0 where
  pub where_ready : took ≡ ready old goal
  pub taken : TakesOr goal took old new before after
