-- A search that is at a length stays at one.
use Rattle.std.proofs.Common.{◌≡◌, ℕ, true, ap, ◌∙◌}
use Rattle.std.specs.Prelude.{Option, Some, None, is_some}
use Rattle.std.proofs.lemmas.Bool.{false≢true}
use Rattle.cdcl_search.specs.declared.steps.Step.{Step}
use Rattle.cdcl_search.specs.declared.steps.Step.TheVariants as steps
use Rattle.cdcl_search.specs.Searches.{Begun, View}
use Rattle.cdcl_search.specs.Steps.{Steps, AtLength}

same_begun : (old new : View) → new.begun ≡ old.begun → is_some old.begun ≡ true → is_some new.begun ≡ true
same_begun old new same is = ap (λ (b : Option Begun). is_some b) same ∙ is

one_step : (old new : View) (begun : Begun) (budget : Option ℕ) (step : Step) → is_some old.begun ≡ true → Steps old new begun budget step → is_some new.begun ≡ true
one_step old new begun budget (steps.Added id) is h = ap (λ (b : Option Begun). is_some b) h.0.count
one_step old new begun budget steps.Found is h = same_begun old new h.0.begun is
one_step old new begun budget steps.Closed is h = same_begun old new h.0.begun is
one_step old new begun budget steps.Spent is h = same_begun old new h.0.begun is

at_one : (old new : View) (budget : Option ℕ) (step : Step) (at : Option Begun) → is_some at ≡ true → is_some old.begun ≡ true → AtLength at (λ begun. Steps old new begun budget step) → is_some new.begun ≡ true
at_one old new budget step None some is h = absurd (false≢true some)
at_one old new budget step (Some begun) some is h = one_step old new begun budget step is h

pub still_begun : (old new : View) (budget : Option ℕ) (step : Step) → is_some old.begun ≡ true → AtLength old.begun (λ begun. Steps old new begun budget step) → is_some new.begun ≡ true
still_begun old new budget step is h = at_one old new budget step old.begun is is h
