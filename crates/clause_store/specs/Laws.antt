-- Laws of the unit rule.
use Rattle.std.specs.Prelude.{ℕ, ◌^◌, ◌<◌, ◌≤◌, ◌∷◌, List, IsTrue, IsFalse, ◌⊎◌}
use Rattle.std.specs.List.{list_all}
use Rattle.tel_base.specs.declared.literals.Lit.{Lit}
use Rattle.tel_base.specs.Literals.{negate}
use Rattle.clause_store.specs.Closure.{In, Clause, Lits, others, refutes, keeps_units, Up, Conflict, Absorbed, IsSettled, IsClosedLevel, IsClosure}
use Rattle.clause_store.specs.Counts.{left_over, IsBelow}

-- the closure holds what it is of
abbrev pub ClosureHolds : Type 0
ClosureHolds = (clauses : List Clause) (start : List Lit) (lit : Lit) → In lit start → Up clauses start lit

-- it keeps the unit rule
abbrev pub ClosureKeeps : Type 0
ClosureKeeps =
    (clauses : List Clause) (start : List Lit) (clause : Clause) (lit : Lit) → In clause clauses → In lit clause → ((other : Lit) → In other (others lit clause) → Up clauses start (negate other)) → Up clauses start lit

-- it is the least set that does both, also where it conflicts: then it has a literal with its negation, and need not have every literal
abbrev pub ClosureIsLeast : Type 0
ClosureIsLeast =
    (clauses : List Clause) (start : List Lit) (X : Lits) → IsTrue (list_all X start) → IsTrue (keeps_units clauses X) → (lit : Lit) → Up clauses start lit → IsTrue (X lit)

-- more clauses and more literals give more; so the closure of a closure is the closure
abbrev pub ClosureGrows : Type 0
ClosureGrows =
    (clauses more : List Clause) (start wider : List Lit) → ((clause : Clause) → In clause clauses → In clause more) → ((lit : Lit) → In lit start → Up more wider lit) → (lit : Lit) → Up clauses start lit → Up more wider lit

-- and what conflicts goes on to conflict
abbrev pub ConflictGrows : Type 0
ConflictGrows =
    (clauses more : List Clause) (start wider : List Lit) → ((clause : Clause) → In clause clauses → In clause more) → ((lit : Lit) → In lit start → Up more wider lit) → Conflict clauses start → Conflict more wider

-- a closure without conflict leaves nothing to derive
abbrev pub ClosureIsClosed : Type 0
ClosureIsClosed = (clauses : List Clause) (start : List Lit) (X : Lits) → IsClosure clauses start X → IsClosedLevel clauses X

-- and derived literals that leave nothing to derive are the closure, which doesn't conflict
abbrev pub ClosedIsClosure : Type 0
ClosedIsClosure =
    (clauses : List Clause) (start : List Lit) (X : Lits) → IsTrue (list_all X start) → ((lit : Lit) → IsTrue (X lit) → Up clauses start lit) → IsClosedLevel clauses X → IsClosure clauses start X

-- it stays the closure where further clauses are settled in it
abbrev pub ClosureStays : Type 0
ClosureStays =
    (clauses more : List Clause) (start : List Lit) (X : Lits) → ((clause : Clause) → In clause clauses → In clause more) → ((clause : Clause) → In clause more → In clause clauses ⊎ IsSettled X clause) → IsClosure clauses start X → IsClosure more start X

-- a clause whose literals but one are false at a closed level, where this one isn't true, is not absorbed
abbrev pub AddedIsFree : Type 0
AddedIsFree =
    (clauses : List Clause) (X : Lits) (clause : Clause) (lit : Lit) → IsClosedLevel clauses X → In lit clause → IsTrue (refutes X (others lit clause)) → IsFalse (X lit) → Absorbed clauses clause → ⊥

-- a clause with the literals of a held one is absorbed
abbrev pub HeldIsAbsorbed : Type 0
HeldIsAbsorbed =
    (clauses : List Clause) (held clause : Clause) → In held clauses → ((lit : Lit) → In lit held → In lit clause) → ((lit : Lit) → In lit clause → In lit held) → Absorbed clauses clause

-- each clause that is not absorbed leaves fewer that can come
abbrev pub FewerLeft : Type 0
FewerLeft =
    (v : ℕ) (clauses : List Clause) (clause : Clause) → ((held : Clause) → In held clauses → IsBelow v held) → IsBelow v clause → (Absorbed clauses clause → ⊥) → left_over v (clause ∷ clauses) < left_over v clauses

-- and at first there are at most 3 ^ v
abbrev pub AtMostLeft : Type 0
AtMostLeft = (v : ℕ) (clauses : List Clause) → left_over v clauses ≤ 3 ^ v
