-- What a listing has logged: the lines of the clauses that came, and the line of its end.
use Rattle.std.specs.Prelude.{◌≡◌, ℕ, List, [], ◌∷◌, ◌++◌, length, Option, Result, IsTrue}
use Rattle.tel_base.specs.Bytes.{Appends, AppendsFront}
use Rattle.tel_rule.specs.Ground.{Ground, IsGround}
use Rattle.normal_program.specs.Grounds.{Layers}
use Rattle.clause_store.specs.declared.store.ClauseId.{ClauseId}
use Rattle.clause_store.specs.declared.store.ClauseKind.TheVariants as kinds
use Rattle.clause_store.specs.Held.{is_clause}
use Rattle.unfounded_sets.specs.LoopClauses.{IsLoopClause, among, rises}
use Rattle.search_laws.specs.Origins.{Kept}
use Rattle.proof_log.specs.declared.line.Line.{Line}
use Rattle.proof_log.specs.declared.line.Line.TheVariants as lines
use Rattle.proof_log.specs.Lines.{line_text}
use Rattle.search_log.specs.declared.fault.ListFault.{ListFault}
use Rattle.search_log.specs.Held.{IsLineOf, AreLines}
use Rattle.search_log.specs.Writing.{log_text, WritesText}
use Rattle.cdcl_search.specs.declared.loops.LoopSet.{LoopSet}
use Rattle.cdcl_search.specs.declared.steps.Step.{Step}
use Rattle.cdcl_search.specs.declared.steps.Step.TheVariants as steps
use Rattle.cdcl_search.specs.Searches as searches
use Rattle.trace_list.specs.declared.stages.Stage.{Stage}
use Rattle.trace_list.specs.declared.stages.Stage.TheVariants as stages
use Rattle.trace_list.specs.Listing.{View, IsListing}

-- ---- the line of a clause

-- the set of the loop clause stands in the last place
pub record HasSet (search : searches.View) (id : ClauseId) (one : Kept) : Type 0 where
  pub before : List LoopSet
  pub last : LoopSet
  pub loops : search.loops ≡ before ++ last ∷ []
  pub place : last.clause ≡ id.place
  pub rising : IsTrue (rises last.set.items)
  pub clause : IsLoopClause search.ground (among last.set.items) last.atom one.lits

-- the clause with this number is the last one that the search holds, and isn't of a module
pub record IsLast (search : searches.View) (id : ClauseId) (before : List Kept) (one : Kept) : Type 0 where
  pub number : id.place ≡ length before
  pub kept : search.kept ≡ before ++ one ∷ []
  pub distinct : IsTrue (is_clause search.vars one.lits)
  pub kind : one.kind ≡ kinds.Module → ⊥
  pub set : one.kind ≡ kinds.Loop → HasSet search id one

-- there is such a clause
abbrev pub HasLast : searches.View → ClauseId → Type 0
HasLast search id = (before : List Kept) × (one : Kept) × IsLast search id before one

-- the line of the clause was written, or a front of it
pub record WritesHeld {T : Type 0} (result : Result T ListFault) (ground : Layers) (one : Kept) (old new : Option (List ℕ)) (before now : ℕ) : Type 0 where
  pub line : Line
  pub is_line : IsLineOf ground one line
  pub writes : WritesText result (line_text line) old new before now

-- what is said of a step that added a clause
abbrev pub OnAdded : Step → (ClauseId → Type 0) → Type 0
OnAdded (steps.Added id) Says = Says id
OnAdded steps.Found Says = Unit {0}
OnAdded steps.Closed Says = Unit {0}
OnAdded steps.Spent Says = Unit {0}

-- the line of a step was written: that of its clause, or that of the end where the walk is closed
abbrev pub WritesStep : {T : Type 0} → Result T ListFault → Step → ℕ → searches.View → Option (List ℕ) → Option (List ℕ) → ℕ → ℕ → Type 0
WritesStep result (steps.Added id) n search old new before now = (held : List Kept) (one : Kept) → IsLast search id held one → WritesHeld result search.ground one old new before now
WritesStep result steps.Closed n search old new before now = WritesText result (line_text (lines.End n)) old new before now
WritesStep result steps.Found n search old new before now = WritesText result [] old new before now
WritesStep result steps.Spent n search old new before now = WritesText result [] old new before now

-- ---- the lines of a listing

-- the line of a length that is complete
abbrev pub ended : Stage → ℕ → List Line
ended stages.Complete n = lines.End n ∷ []
ended stages.Seeking n = []
ended stages.Found n = []
ended stages.Spent n = []

-- where a listing that hasn't ended yet comes to it
abbrev pub ends : Stage → Stage → ℕ → List Line
ends stages.Seeking new n = ended new n
ends stages.Found new n = ended new n
ends stages.Complete new n = []
ends stages.Spent new n = []

-- whatever it is the listing of, it stays one of the same length
abbrev pub Passes : View → searches.View → View → searches.View → Type 0
Passes old before new after =
    (program : Ground) (n : ℕ) (start : List Kept) (traces : List (List (List ℕ))) → IsGround program → IsListing program n start old before traces → (more : List (List (List ℕ))) × IsListing program n start new after more

-- the lines that belong to what a listing did: of each clause that came, and of its end
pub record Logs (old : View) (before : searches.View) (new : View) (after : searches.View) (log : List Line) : Type 0 where
  pub vars : after.vars ≡ before.vars
  pub ground : after.ground ≡ before.ground
  pub n : new.n ≡ old.n
  pub clauses : List Line
  pub lines : AreLines before.vars before.ground before.kept after.kept clauses
  pub whole : log ≡ clauses ++ ends old.stage new.stage old.n
  pub passes : Passes old before new after

-- they were written
abbrev pub LogsWhole : View → searches.View → View → searches.View → Option (List ℕ) → Option (List ℕ) → Type 0
LogsWhole old before new after bytes more = (log : List Line) × Logs old before new after log × Appends bytes more (log_text log)

-- a front of the lines up to some place was written
abbrev pub LogsFront : View → searches.View → Option (List ℕ) → Option (List ℕ) → Type 0
LogsFront old before bytes more = (new : View) × (after : searches.View) × (log : List Line) × Logs old before new after log × AppendsFront bytes more (log_text log)
