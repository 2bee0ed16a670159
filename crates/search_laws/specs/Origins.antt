-- Where a held clause comes from (own; for a derived one the unit rule, Goldberg and Novikov, "Verification of proofs of unsatisfiability for CNF
-- formulas", 2003).
use Rattle.std.specs.Prelude.{◌≡◌, ℕ, ◌<◌, ◌≤◌, List, [], ◌∷◌, ◌++◌, map, IsTrue}
use Rattle.tel_base.specs.declared.literals.Lit.{Lit}
use Rattle.tel_base.specs.Literals.{lit_of, negate, negations}
use Rattle.tel_base.specs.Members.{In}
use Rattle.clause_store.specs.declared.store.ClauseKind.{ClauseKind}
use Rattle.clause_store.specs.declared.store.ClauseKind.TheVariants as kinds
use Rattle.clause_store.specs.Held.{Held}
use Rattle.clause_store.specs.Closure.{Clause, Up, Conflict}
use Rattle.normal_program.specs.StableSets.{Set}
use Rattle.normal_program.specs.ModuleClauses.{no_lit}
use Rattle.unfounded_sets.specs.LoopClauses.{IsLoopClause}
use Rattle.search_laws.specs.Walks.{HasValue, IsTotalWalk}
use Rattle.search_laws.specs.Lengths.{Length, IsStableAt}

-- a held clause with the length at which it came
pub record Kept : Type 0 where
  pub kind : ClauseKind
  pub length : ℕ
  pub lits : Clause

-- the clauses alone, and as a store has them
abbrev pub lits_of : List Kept → List Clause
lits_of held = map (λ (one : Kept). one.lits) held

abbrev pub stored : List Kept → List Held
stored held = map (λ (one : Kept). record { kind = one.kind; lits = one.lits }) held

-- S has the variables that are true in the closure of the decisions, as far as they are among these
pub record IsSeen (clauses : List Clause) (decisions : List Lit) (vars : List ℕ) (S : Set) : Type 0 where
  pub derived : (v : ℕ) → In v vars → IsTrue (S v) → Up clauses decisions (lit_of v)
  pub whole : (v : ℕ) → In v vars → Up clauses decisions (lit_of v) → IsTrue (S v)

-- the walk is total, and S is a stable set that it has found
pub record Finds (length : Length) (clauses : List Clause) (decisions : List Lit) (S : Set) : Type 0 where
  pub total : IsTotalWalk clauses length.ending length.visible decisions
  pub set : IsSeen clauses decisions length.visible S
  pub stable : IsStableAt length S

-- a blocking clause of the set S that the walk over the clauses before it has found: it has the negation of the end; the closure of the walk
-- negates it whole; and its negations give each visible variable a value
pub record IsBlock (length : Length) (before : List Clause) (clause : Clause) (decisions : List Lit) (S : Set) : Type 0 where
  pub found : Finds length before decisions S
  pub ended : In (no_lit length.ending) clause
  pub negated : (lit : Lit) → In lit clause → Up before decisions (negate lit)
  pub valued : (v : ℕ) → In v length.visible → HasValue before (negations clause) v

-- the origin of a clause by its kind, over the clauses before it alone: the last module of its length has it; or it is a loop clause of some head
-- variables and one of them; or its negations conflict; or it is a blocking clause
abbrev pub OriginBy : (ℕ → Length) → List Clause → ClauseKind → ℕ → Clause → Type 0
OriginBy lengths before kinds.Module n clause = In clause (lengths n).clauses
OriginBy lengths before kinds.Loop n clause = (U : Set) × (first : ℕ) × IsLoopClause (lengths n).ground U first clause
OriginBy lengths before kinds.Learnt n clause = Conflict before (negations clause)
OriginBy lengths before kinds.Block n clause = (decisions : List Lit) × (S : Set) × IsBlock (lengths n) before clause decisions S

abbrev pub Origin : (ℕ → Length) → List Kept → Kept → Type 0
Origin lengths before one = OriginBy lengths (lits_of before) one.kind one.length one.lits

-- each clause of the list has its origin, over those before it, and came at a length of 1 to n
pub data Grown (lengths : ℕ → Length) (n : ℕ) : List Kept → Type 0 where
  none : (held : List Kept) → held ≡ [] → Grown lengths n held
  added : (held before : List Kept) (one : Kept) → held ≡ before ++ one ∷ [] → Grown lengths n before → 0 < one.length → one.length ≤ n → Origin lengths before one → Grown lengths n held
