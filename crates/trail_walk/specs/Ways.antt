-- A trail on its way along the walk of a length: the end, and then always the first visible variable without a value, made false.
use Rattle.std.specs.Prelude.{◌≡◌, ℕ, suc, ◌+◌, ◌<◌, ◌≤◌, min, Bool, true, false, List, [], ◌∷◌, Some, None, IsTrue, ◌⊎◌}
use Rattle.tel_base.specs.declared.literals.Lit.{Lit}
use Rattle.tel_base.specs.Literals.{lit_of}
use Rattle.atom_space.specs.Numbers.{Space}
use Rattle.clause_store.specs.Closure.{Clause, Up, Conflict, IsClosure}
use Rattle.clause_store.specs.Held as held
use Rattle.lit_trail.specs.declared.assignment.Entry.{Entry}
use Rattle.lit_trail.specs.Entries.{View, decision_in, back}
use Rattle.lit_trail.specs.Levels.{AreWithin}
use Rattle.lit_trail.specs.Sound.{holds, IsClosedTrail, IsSound}
use Rattle.lit_trail.specs.Unassigned.{visible_below, first_open}
use Rattle.watch_propagate.specs.Propagation.{are_below, IsFalseClause}
use Rattle.search_laws.specs.Lengths.{Length}
use Rattle.search_laws.specs.Levels.{AreDecisions}
use Rattle.search_laws.specs.Walks.{IsClosedWalk, IsTotalWalk, IsStuckWalk}
use Rattle.trail_walk.specs.declared.walking.Walked.{Walked}
use Rattle.trail_walk.specs.declared.walking.Walked.TheVariants as outcomes

-- a store and a trail that are sound together, over the same variables
pub record IsReady (store : held.View) (trail : View) : Type 0 where
  pub sound : IsSound (held.clauses_in store.clauses) trail
  pub below : IsTrue (are_below trail.vars (held.clauses_in store.clauses))
  pub known : AreWithin store.vars trail.entries
  pub reserved : trail.vars ≤ store.vars

-- the end holds at level 1, where nothing else is decided
pub record IsEnded (end : Lit) (trail : View) : Type 0 where
  pub holds_there : IsTrue (holds (back 1 trail.entries) end)
  pub first : (lit : Lit) → decision_in trail.entries 1 ≡ Some lit → end ≡ lit

-- whether level 1 could be opened with the end
abbrev pub Opens : Bool → List Clause → Lit → View → Type 0
Opens true clauses end trail = (trail.level ≡ 1) × IsEnded end trail
Opens false clauses end trail = (trail.level ≡ 0) × Conflict clauses (end ∷ [])

-- the trail is on the walk of a length: after the end, each level was opened by the next decision
pub record IsOnWay (length : Length) (trail : View) : Type 0 where
  pub ended : IsEnded (lit_of length.ending) trail
  pub last : ℕ
  pub level : trail.level ≡ suc last
  pub decisions : List Lit
  pub decided : AreDecisions length trail.entries last decisions

-- the visible variables of the length are those of the first n states
abbrev pub Spans : Space → ℕ → Length → Type 0
Spans space n length = length.visible ≡ visible_below space.counts (min n (space.greatest + 1))

-- what stays on the way of such a length
abbrev pub StaysOnWay : Space → ℕ → View → View → Type 0
StaysOnWay space n old new = (length : Length) → Spans space n length → IsOnWay length old → IsOnWay length new

-- it ends where a clause is false, or with a closed trail that gives each visible variable a value
abbrev pub Ends : List Clause → Space → ℕ → View → Walked → Type 0
Ends clauses space n trail (outcomes.Conflict id) = IsFalseClause clauses trail.entries id
Ends clauses space n trail outcomes.Total = IsClosedTrail clauses trail.entries × (first_open trail.entries space n ≡ None)

-- what holds under the trail follows from the decisions
abbrev pub IsDerived : List Clause → List Lit → List Entry → Type 0
IsDerived clauses decisions entries = (lit : Lit) → IsTrue (holds entries lit) → Up clauses decisions lit

-- so the walk of a length is closed or stuck, by the level where the clause is false, or total, and the trail is then its closure
abbrev pub WalkEnds : List Clause → Length → View → Walked → Type 0
WalkEnds clauses length trail (outcomes.Conflict id) =
    ((trail.level ≡ 1) × IsClosedWalk clauses length.ending) ⊎ ((1 < trail.level) × ((decisions : List Lit) × IsStuckWalk clauses length.ending length.visible decisions × IsDerived clauses decisions trail.entries))
WalkEnds clauses length trail outcomes.Total =
    (decisions : List Lit) × IsTotalWalk clauses length.ending length.visible decisions × IsClosure clauses decisions (holds trail.entries)

abbrev pub WalksEnd : List Clause → Space → ℕ → View → View → Walked → Type 0
WalksEnd clauses space n old new walked = (length : Length) → Spans space n length → IsOnWay length old → WalkEnds clauses length new walked
