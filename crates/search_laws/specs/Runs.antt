-- How a length goes on: the clauses that are held, and the sets that were found and blocked.
use Rattle.std.specs.Prelude.{◌≡◌, ℕ, ◌<◌, List, [], ◌∷◌, ◌++◌}
use Rattle.tel_base.specs.declared.literals.Lit.{Lit}
use Rattle.tel_base.specs.Members.{In}
use Rattle.clause_store.specs.declared.store.ClauseKind.TheVariants as kinds
use Rattle.normal_program.specs.StableSets.{Set}
use Rattle.search_laws.specs.Walks.{Before}
use Rattle.search_laws.specs.Lengths.{Length}
use Rattle.search_laws.specs.Origins.{Kept, lits_of, IsBlock, Origin, Grown}

-- the length n begins with what shorter ones left; then clauses come, each with its origin, and with each blocking clause its set was found
pub data Run (lengths : ℕ → Length) (n : ℕ) : List Kept → List Set → Type 0 where
  begins : (held : List Kept) (sets : List Set) (k : ℕ) → k < n → Grown lengths k held → sets ≡ [] → Run lengths n held sets
  adds : (held : List Kept) (sets : List Set) (before : List Kept) (one : Kept) → held ≡ before ++ one ∷ [] → Run lengths n before sets → one.length ≡ n → (one.kind ≡ kinds.Block → ⊥) → Origin lengths before one → Run lengths n held sets
  blocks : (held : List Kept) (sets : List Set) (before : List Kept) (one : Kept) (past : List Set) (decisions : List Lit) (set : Set) → held ≡ before ++ one ∷ [] → sets ≡ past ++ set ∷ [] → Run lengths n before past → one.length ≡ n → one.kind ≡ kinds.Block → IsBlock (lengths n) (lits_of before) one.lits decisions set → Run lengths n held sets

-- the sets strictly rise in the order of the variables
abbrev pub InOrder : List ℕ → List Set → Type 0
InOrder vars [] = Unit {0}
InOrder vars (set ∷ more) = ((later : Set) → In later more → Before vars set later) × InOrder vars more
