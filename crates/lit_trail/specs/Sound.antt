-- What a search keeps of its trail under the clauses that it holds: each implied literal has its reason, and each level below the
-- trail's is closed under the unit rule (the invariants of conflict-driven clause learning; Marques-Silva and Sakallah, "GRASP", 1999).
use Rattle.std.specs.Prelude.{ℕ, ◌<◌, Bool, false, List, [], ◌∷◌, map, length, Option, Some, None, IsTrue, if◌then◌else◌}
use Rattle.tel_base.specs.declared.literals.Lit.{Lit}
use Rattle.clause_store.specs.declared.store.ClauseId.{ClauseId}
use Rattle.clause_store.specs.Held.{clause_at}
use Rattle.clause_store.specs.Closure.{In, Clause, Lits, others, refutes, IsClosure}
use Rattle.lit_trail.specs.declared.assignment.Entry.{Entry}
use Rattle.lit_trail.specs.Entries.{View, value_in, is_decided, back}

abbrev pub is_true : Option Bool → Bool
is_true None = false
is_true (Some value) = value

-- the set of the literals that hold
abbrev pub holds : List Entry → Lits
holds entries lit = is_true (value_in entries lit)

abbrev pub trail_lits : List Entry → List Lit
trail_lits entries = map (λ (entry : Entry). entry.lit) entries

-- the decisions: the literals without a reason
abbrev pub decided_lits : List Entry → List Lit
decided_lits [] = []
decided_lits (entry ∷ older) = if is_decided entry.reason then entry.lit ∷ decided_lits older else decided_lits older

-- a held clause that has the literal, and whose other literals are false and stand earlier
abbrev pub IsReason : List Clause → List Entry → Lit → ClauseId → Type 0
IsReason clauses older lit id =
    (id.place < length clauses) × In lit (clause_at clauses id.place) × IsTrue (refutes (holds older) (others lit (clause_at clauses id.place)))

abbrev pub HasReason : List Clause → List Entry → Lit → Option ClauseId → Type 0
HasReason clauses older lit None = Unit {0}
HasReason clauses older lit (Some id) = IsReason clauses older lit id

-- each literal that was not decided has its reason
abbrev pub ReasonsHold : List Clause → List Entry → Type 0
ReasonsHold clauses [] = Unit {0}
ReasonsHold clauses (entry ∷ older) = HasReason clauses older entry.lit entry.reason × ReasonsHold clauses older

-- the literals that hold are the closure of the decisions, which doesn't conflict
abbrev pub IsClosedTrail : List Clause → List Entry → Type 0
IsClosedTrail clauses entries = IsClosure clauses (decided_lits entries) (holds entries)

-- reasons hold, and the literals up to each level below the trail's are the closure of the decisions up to it
pub record IsSound (clauses : List Clause) (trail : View) : Type 0 where
  pub reasons : ReasonsHold clauses trail.entries
  pub below : (level : ℕ) → level < trail.level → IsClosedTrail clauses (back level trail.entries)

-- a call that keeps this
abbrev pub Keeps : View → View → Type 0
Keeps old new = (clauses : List Clause) → IsSound clauses old → IsSound clauses new

-- a call that keeps it where the trail is closed
abbrev pub KeepsClosed : View → View → Type 0
KeepsClosed old new = (clauses : List Clause) → IsClosedTrail clauses old.entries → IsSound clauses old → IsSound clauses new

-- a call that keeps it where this clause is the reason of this literal
abbrev pub KeepsByReason : Lit → ClauseId → View → View → Type 0
KeepsByReason lit id old new = (clauses : List Clause) → IsReason clauses old.entries lit id → IsSound clauses old → IsSound clauses new
