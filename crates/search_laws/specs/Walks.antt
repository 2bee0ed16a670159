-- The walk (own): the decisions that a search makes which takes the variables in their order, each false first, and goes back on none.
use Rattle.std.specs.Prelude.{◌≡◌, ℕ, true, false, List, [], ◌∷◌, ◌++◌, ◌⊎◌}
use Rattle.tel_base.specs.declared.literals.Lit.{Lit}
use Rattle.tel_base.specs.Literals.{lit_of}
use Rattle.tel_base.specs.Members.{In}
use Rattle.clause_store.specs.Closure.{Clause, Up, Conflict}
use Rattle.normal_program.specs.ModuleClauses.{no_lit}
use Rattle.normal_program.specs.StableSets.{Set}

-- the variable has a value in the closure
abbrev pub HasValue : List Clause → List Lit → ℕ → Type 0
HasValue clauses start v = Up clauses start (lit_of v) ⊎ Up clauses start (no_lit v)

-- from the decisions of `start` on, along the variables: each that has no value in the closure is made false, without conflict, and the
-- decisions at the end are these
abbrev pub WalksOn : List Clause → List Lit → List ℕ → List Lit → Type 0
WalksOn clauses start [] decisions = start ≡ decisions
WalksOn clauses start (v ∷ vars) decisions =
    (HasValue clauses start v × WalksOn clauses start vars decisions)
    ⊎ ((HasValue clauses start v → ⊥) × (Conflict clauses (no_lit v ∷ start) → ⊥) × WalksOn clauses (no_lit v ∷ start) vars decisions)

-- the same up to a variable that can't be made false: with this decision, the last one, the closure conflicts
abbrev pub SticksOn : List Clause → List Lit → List ℕ → List Lit → Type 0
SticksOn clauses start [] decisions = ⊥
SticksOn clauses start (v ∷ vars) decisions =
    (HasValue clauses start v × SticksOn clauses start vars decisions)
    ⊎ ((HasValue clauses start v → ⊥) × ((Conflict clauses (no_lit v ∷ start) × ((no_lit v ∷ start) ≡ decisions)) ⊎ ((Conflict clauses (no_lit v ∷ start) → ⊥) × SticksOn clauses (no_lit v ∷ start) vars decisions)))

-- the walk is closed: the closure of the end conflicts
abbrev pub IsClosedWalk : List Clause → ℕ → Type 0
IsClosedWalk clauses ending = Conflict clauses (lit_of ending ∷ [])

-- the walk is total, with these decisions, of which the first, and last of the list, is the end
pub record IsTotalWalk (clauses : List Clause) (ending : ℕ) (vars : List ℕ) (decisions : List Lit) : Type 0 where
  pub begins : Conflict clauses (lit_of ending ∷ []) → ⊥
  pub goes : WalksOn clauses (lit_of ending ∷ []) vars decisions

-- the walk is stuck, with these decisions
pub record IsStuckWalk (clauses : List Clause) (ending : ℕ) (vars : List ℕ) (decisions : List Lit) : Type 0 where
  pub begins : Conflict clauses (lit_of ending ∷ []) → ⊥
  pub goes : SticksOn clauses (lit_of ending ∷ []) vars decisions

-- the order of sets along the variables, in which false comes first: at the first variable where they differ
abbrev pub Before : List ℕ → Set → Set → Type 0
Before [] S R = ⊥
Before (v ∷ vars) S R = ((S v ≡ false) × (R v ≡ true)) ⊎ ((S v ≡ R v) × Before vars S R)

-- the sets agree on the variables
abbrev pub Agree : List ℕ → Set → Set → Type 0
Agree [] S R = Unit {0}
Agree (v ∷ vars) S R = (S v ≡ R v) × Agree vars S R

abbrev pub UpTo : List ℕ → Set → Set → Type 0
UpTo vars S R = Agree vars S R ⊎ Before vars S R

-- where they differ first: at a variable that is false in the first set and true in the second, while they agree on all variables in front
pub record FirstApart (vars : List ℕ) (S R : Set) : Type 0 where
  pub front : List ℕ
  pub var : ℕ
  pub back : List ℕ
  pub whole : vars ≡ front ++ var ∷ back
  pub is_false : S var ≡ false
  pub is_true : R var ≡ true
  pub same : (v : ℕ) → In v front → S v ≡ R v
