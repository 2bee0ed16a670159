-- The step at a level.
use Rattle.std.proofs.Common.{◌≡◌, ℕ, ◌<◌, List, length, get_or, ap, ◌∙◌, subst}
use Rattle.std.specs.Prelude.{Some, slice_get}
use Rattle.tel_term.specs.declared.terms.Term.{Term}
use Rattle.plan_search.specs.declared.steps.Step.{Step}
use Rattle.plan_search.specs.Steps.{Tables, step_of, plan_of, HasTerms, HaveTerms}
use Rattle.plan_search.proofs.Dropping.{get_at, In-get}
use Rattle.plan_search.proofs.Entering.{get_map}

pub plan_step : (tables : Tables) (symbols : List Term) (steps : List Step) (level : ℕ) (step is : Step) → level < length steps → step ≡ get_or steps level step → step ≡ is → slice_get (plan_of tables symbols steps) level ≡ Some (step_of tables symbols is)
plan_step tables symbols steps level step is less at same = get_map (step_of tables symbols) steps level is (get_at steps level step less at ∙ ap Some same)

pub step_terms : (symbols : List Term) (steps : List Step) (level : ℕ) (step is : Step) → HaveTerms symbols steps → level < length steps → step ≡ get_or steps level step → step ≡ is → HasTerms symbols is
step_terms symbols steps level step is have less at same = subst (HasTerms symbols) same (have step (In-get steps level step (get_at steps level step less at)))
