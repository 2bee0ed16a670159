-- When a further clause is needed.
use Rattle.std.specs.Prelude.{ℕ, List, IsTrue, ◌⊎◌}
use Rattle.tel_base.specs.declared.literals.Lit.{Lit}
use Rattle.tel_base.specs.Literals.{lit_of, negate}
use Rattle.tel_base.specs.Members.{In}
use Rattle.clause_store.specs.Closure.{Clause, Up}
use Rattle.normal_program.specs.StableSets.{Set}
use Rattle.search_laws.specs.Walks.{IsTotalWalk, IsStuckWalk}
use Rattle.search_laws.specs.Lengths.{Length, IsStableAt, in_program}

-- S is the set of the heads and the end that are true in the closure of the decisions
pub record IsWalkSet (length : Length) (clauses : List Clause) (decisions : List Lit) (S : Set) : Type 0 where
  pub own : (v : ℕ) → IsTrue (S v) → IsTrue (in_program length v)
  pub derived : (v : ℕ) → IsTrue (S v) → Up clauses decisions (lit_of v)
  pub whole : (v : ℕ) → IsTrue (in_program length v) → Up clauses decisions (lit_of v) → IsTrue (S v)

-- the walk is total and stable, with these decisions and this set
pub record IsFound (length : Length) (clauses : List Clause) (decisions : List Lit) (S : Set) : Type 0 where
  pub total : IsTotalWalk clauses length.ending length.visible decisions
  pub set : IsWalkSet length clauses decisions S
  pub stable : IsStableAt length S

-- the walk is total, but its set isn't stable
pub record IsUnstable (length : Length) (clauses : List Clause) (decisions : List Lit) (S : Set) : Type 0 where
  pub total : IsTotalWalk clauses length.ending length.visible decisions
  pub set : IsWalkSet length clauses decisions S
  pub unstable : IsStableAt length S → ⊥

-- a further clause is needed: the walk is stuck, or total and not stable
abbrev pub Needed : Length → List Clause → Type 0
Needed length clauses =
    ((decisions : List Lit) × IsStuckWalk clauses length.ending length.visible decisions)
    ⊎ ((decisions : List Lit) × (S : Set) × IsUnstable length clauses decisions S)

-- the closure of the decisions negates each literal of the clause
abbrev pub IsNegated : List Clause → List Lit → Clause → Type 0
IsNegated clauses decisions clause = (lit : Lit) → In lit clause → Up clauses decisions (negate lit)

-- a further clause is needed, and this one cuts the walk: the closure of the walk negates it whole
abbrev pub IsCut : Length → List Clause → Clause → Type 0
IsCut length clauses clause =
    ((decisions : List Lit) × IsStuckWalk clauses length.ending length.visible decisions × IsNegated clauses decisions clause)
    ⊎ ((decisions : List Lit) × (S : Set) × IsUnstable length clauses decisions S × IsNegated clauses decisions clause)
