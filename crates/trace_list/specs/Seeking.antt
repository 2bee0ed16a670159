-- The steps of a listing to its next answer.
use Rattle.std.specs.Prelude.{◌≡◌, ℕ, List, [], ◌∷◌, ◌++◌}
use Rattle.tel_rule.specs.Ground.{Ground, IsGround}
use Rattle.search_laws.specs.Origins.{Kept}
use Rattle.cdcl_search.specs.Searches as searches
use Rattle.cdcl_search.specs.declared.steps.Step.{Step}
use Rattle.cdcl_search.specs.declared.steps.Step.TheVariants as steps
use Rattle.trace_list.specs.declared.stages.Stage.{Stage}
use Rattle.trace_list.specs.declared.stages.Stage.TheVariants as stages
use Rattle.trace_list.specs.declared.stages.Next.{Next}
use Rattle.trace_list.specs.declared.stages.Next.TheVariants as nexts
use Rattle.trace_list.specs.Reading.{trace_of}
use Rattle.trace_list.specs.Listing.{View, IsListing}

-- where a listing stands once the trace that it found is blocked
abbrev pub left : Stage → Stage
left stages.Found = stages.Seeking
left stages.Seeking = stages.Seeking
left stages.Complete = stages.Complete
left stages.Spent = stages.Spent

-- where it stands behind a step of the search
abbrev pub after_step : Step → Stage
after_step (steps.Added id) = stages.Seeking
after_step steps.Found = stages.Found
after_step steps.Closed = stages.Complete
after_step steps.Spent = stages.Spent

-- what holds where the next trace is still to be found
abbrev pub OnSeeking : Stage → Type 0 → Type 0
OnSeeking stages.Seeking P = P
OnSeeking stages.Found P = Unit {0}
OnSeeking stages.Complete P = Unit {0}
OnSeeking stages.Spent P = Unit {0}

-- the traces with that of the trail, where one was found
abbrev pub come : Stage → List (List (List ℕ)) → List (List ℕ) → List (List (List ℕ))
come stages.Found traces trace = traces ++ trace ∷ []
come stages.Seeking traces trace = traces
come stages.Complete traces trace = traces
come stages.Spent traces trace = traces

-- for each program, length and traces, they stay those of the listing
abbrev pub Keeps : View → searches.View → View → searches.View → Type 0
Keeps old before new after =
    (program : Ground) (n : ℕ) (start : List Kept) (traces : List (List (List ℕ))) → IsGround program → IsListing program n start old before traces → IsListing program n start new after traces

-- or one comes, where the listing stands at it
abbrev pub Seeks : View → searches.View → View → searches.View → Type 0
Seeks old before new after =
    (program : Ground) (n : ℕ) (start : List Kept) (traces : List (List (List ℕ))) → IsGround program → IsListing program n start old before traces
    → IsListing program n start new after (come new.stage traces (trace_of after.trail.entries new.space.counts new.n))

-- the same length and budget
pub record IsSame (old new : View) : Type 0 where
  pub space : new.space ≡ old.space
  pub n : new.n ≡ old.n
  pub conflicts : new.conflicts ≡ old.conflicts

-- what is answered where the listing stands
abbrev pub Tells : View → searches.View → Next → Type 0
Tells listing search (nexts.Trace trace) = (listing.stage ≡ stages.Found) × (trace ≡ trace_of search.trail.entries listing.space.counts listing.n)
Tells listing search nexts.Complete = listing.stage ≡ stages.Complete
Tells listing search nexts.Spent = listing.stage ≡ stages.Spent
