-- The listing of the traces of a length.
use Rattle.std.specs.Prelude.{◌≡◌, ℕ, suc, ◌+◌, ◌^◌, ◌<◌, ◌≤◌, List, [], ◌∷◌, ◌++◌, map, reverse, Option, Some, None}
use Rattle.std.specs.List.{filter}
use Rattle.tel_rule.specs.Ground.{Ground, IsGround}
use Rattle.tel_semantics.specs.Equilibrium.{list_of}
use Rattle.atom_space.specs.Numbers.{Space}
use Rattle.normal_program.specs.StableSets.{Set}
use Rattle.clause_store.specs.declared.store.ClauseKind.TheVariants as kinds
use Rattle.clause_store.specs.Held.{is_clause}
use Rattle.clause_store.specs.Closure.{Absorbed}
use Rattle.clause_store.specs.Counts.{left_over}
use Rattle.formula_unfold.specs.Nodes.{counts_of}
use Rattle.step_module.specs.Modules.{module_of}
use Rattle.stable_models.specs.Values.{read_trace}
use Rattle.search_laws.specs.Walks.{IsClosedWalk}
use Rattle.search_laws.specs.Lengths.{length_of}
use Rattle.search_laws.specs.Origins.{Kept, lits_of}
use Rattle.search_laws.specs.Needed.{Needed}
use Rattle.cdcl_search.specs.Searches as searches
use Rattle.cdcl_search.specs.Searches.{Begun, clauses_of}
use Rattle.cdcl_search.specs.Steps.{IsAtFound}
use Rattle.search_log.specs.Held.{Came}
use Rattle.trace_list.specs.declared.stages.Stage.{Stage}
use Rattle.trace_list.specs.declared.stages.Stage.TheVariants as stages
use Rattle.trace_list.specs.declared.stages.Next.{Next}
use Rattle.trace_list.specs.declared.stages.Next.TheVariants as nexts
use Rattle.trace_list.specs.Reading.{trace_of}
use Rattle.trace_list.specs.Lengths.{HasLength}

-- what contracts see of a listing: the variables of the states, the length, the budget of clauses, and where it stands
pub record View : Type 0 where
  pub space : Space
  pub n : ℕ
  pub conflicts : Option ℕ
  pub stage : Stage

-- ---- the clauses that come

-- further clauses stand behind these, this many loop clauses and learnt ones, none absorbed by the clauses before it, and blocking clauses
pub data Adds (old : List Kept) : List Kept → ℕ → Type 0 where
  nothing : (held : List Kept) (count : ℕ) → held ≡ old → count ≡ 0 → Adds old held count
  counting : (held before : List Kept) (one : Kept) (count less : ℕ) → held ≡ before ++ one ∷ [] → count ≡ suc less → Adds old before less → (one.kind ≡ kinds.Block → ⊥) → (Absorbed (lits_of before) one.lits → ⊥) → Adds old held count
  blocking : (held before : List Kept) (one : Kept) (count : ℕ) → held ≡ before ++ one ∷ [] → Adds old before count → one.kind ≡ kinds.Block → Adds old held count

-- some clauses came so
abbrev pub AddsSome : List Kept → List Kept → Type 0
AddsSome old new = (count : ℕ) × Adds old new count

-- the budget isn't exceeded
abbrev pub IsWithin : Option ℕ → ℕ → Type 0
IsWithin None counted = Unit {0}
IsWithin (Some budget) counted = counted ≤ budget

-- how many clauses can still come, of different variables of the search, that those before them don't absorb
abbrev pub left_of : searches.View → ℕ
left_of search = left_over search.vars (filter (is_clause search.vars) (reverse (clauses_of search)))

-- ---- where a listing stands

-- a length that the search is at, with so many clauses counted
abbrev pub begun_as : Space → ℕ → ℕ → Begun
begun_as space n counted = record { space = space; n = n; counted = counted }

-- what holds where a trace was found that isn't blocked yet
abbrev pub OnFound : Stage → Type 0 → Type 0
OnFound stages.Found P = P
OnFound stages.Seeking P = Unit {0}
OnFound stages.Complete P = Unit {0}
OnFound stages.Spent P = Unit {0}

-- what holds where the listing has ended
abbrev pub OnEnded : Stage → Type 0 → Type 0
OnEnded stages.Complete P = P
OnEnded stages.Spent P = P
OnEnded stages.Seeking P = Unit {0}
OnEnded stages.Found P = Unit {0}

-- the search is at the length of the listing, and above level 0 where a trace was found
pub record Fits (listing : View) (search : searches.View) : Type 0 where
  pub within : listing.n ≤ listing.space.greatest
  pub counted : ℕ
  pub begun : search.begun ≡ Some (begun_as listing.space listing.n counted)
  pub level : OnFound listing.stage (0 < search.trail.level)

-- the budget is used up since the clauses `start`, and a further clause is needed; there are more over the variables of the search than the budget
pub record IsSpent (program : Ground) (n : ℕ) (start : List Kept) (conflicts : Option ℕ) (search : searches.View) : Type 0 where
  pub counted : ℕ
  pub budget : conflicts ≡ Some counted
  pub added : Adds start search.kept counted
  pub needed : Needed (length_of (module_of program) n) (clauses_of search)
  pub few : counted < 3 ^ search.vars

-- these are the traces of the sets that were found and blocked, and behind them that of the trail where it was found and isn't blocked yet; where the
-- walk is closed, they are all
abbrev pub Stands : Ground → ℕ → List Kept → View → Stage → searches.View → ℕ → List Set → List (List (List ℕ)) → Type 0
Stands program n start listing stages.Seeking search counted sets traces = map (read_trace program n) sets ≡ traces
Stands program n start listing stages.Found search counted sets traces =
    IsAtFound search (begun_as listing.space listing.n counted) × (map (read_trace program n) sets ++ trace_of search.trail.entries listing.space.counts listing.n ∷ [] ≡ traces)
Stands program n start listing stages.Complete search counted sets traces = (map (read_trace program n) sets ≡ traces) × (list_of program n ≡ traces) × IsClosedWalk (clauses_of search) (length_of (module_of program) n).ending
Stands program n start listing stages.Spent search counted sets traces = (map (read_trace program n) sets ≡ traces) × (spent : IsSpent program n start listing.conflicts search) × (spent.counted ≡ counted)

-- the listing of the length n of the program over a search, which held the clauses `start` when it began, has come to these traces
pub record IsListing (program : Ground) (n : ℕ) (start : List Kept) (listing : View) (search : searches.View) (traces : List (List (List ℕ))) : Type 0 where
  pub fits : Fits listing search
  pub number : listing.n ≡ n
  pub counts : listing.space.counts ≡ counts_of program
  pub sets : List Set
  pub length : HasLength program n search sets
  pub added : Adds start search.kept fits.counted
  pub came : Came (length_of (module_of program) n) start search.kept sets fits.counted
  pub budget : IsWithin listing.conflicts fits.counted
  pub few : fits.counted + left_of search ≤ 3 ^ search.vars
  pub stands : Stands program n start listing listing.stage search fits.counted sets traces

-- ---- the answers

-- the first list is a front of the second one
abbrev pub IsFront : List (List (List ℕ)) → List (List (List ℕ)) → Type 0
IsFront traces all = (rest : List (List (List ℕ))) × (all ≡ traces ++ rest)

-- one trace more of the list; or these are all; or the budget is used up
abbrev pub Goes : Ground → ℕ → List Kept → List (List (List ℕ)) → View → searches.View → Next → Type 0
Goes program n start traces listing search (nexts.Trace trace) = IsListing program n start listing search (traces ++ trace ∷ []) × IsFront (traces ++ trace ∷ []) (list_of program n)
Goes program n start traces listing search nexts.Complete = IsListing program n start listing search traces × (list_of program n ≡ traces)
Goes program n start traces listing search nexts.Spent = IsListing program n start listing search traces × IsSpent program n start listing.conflicts search

-- where a listing stands behind an answer
abbrev pub stage_of : Next → Stage
stage_of (nexts.Trace trace) = stages.Found
stage_of nexts.Complete = stages.Complete
stage_of nexts.Spent = stages.Spent

-- a listing that has ended stays as it is, and so does its search
abbrev pub StaysEnded : View → searches.View → View → searches.View → Type 0
StaysEnded old before new after = OnEnded old.stage ((new ≡ old) × (after ≡ before))

-- whatever the search does, for each program, length and traces
abbrev pub GoesOn : View → searches.View → View → searches.View → Next → Type 0
GoesOn old before new after next =
    (program : Ground) (n : ℕ) (start : List Kept) (traces : List (List (List ℕ))) → IsGround program → IsListing program n start old before traces → Goes program n start traces new after next

-- what was listed is a front of the list
abbrev pub ListedIsFront : Type 0
ListedIsFront =
    (program : Ground) (n : ℕ) (start : List Kept) (listing : View) (search : searches.View) (traces : List (List (List ℕ))) → IsGround program → IsListing program n start listing search traces → IsFront traces (list_of program n)

-- the clauses that were counted are fewer than there are over the variables of the search
abbrev pub ListedIsSmall : Type 0
ListedIsSmall =
    (program : Ground) (n : ℕ) (start : List Kept) (listing : View) (search : searches.View) (traces : List (List (List ℕ))) (is : IsListing program n start listing search traces) → is.fits.counted < 3 ^ search.vars
