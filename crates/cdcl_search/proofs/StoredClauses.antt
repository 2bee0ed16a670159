-- What the store of a search holds is what contracts see of it.
use Rattle.std.proofs.Common.{◌≡◌, ℕ, List, [], ◌∷◌, map, refl, ap}
use Rattle.clause_store.specs.Held.{Held}
use Rattle.search_laws.specs.Origins.{Kept}
use Rattle.cdcl_search.specs.Searches.{kept_of}

pub stored_clauses : (held : List Held) (lengths : List ℕ) → held ≡ map (λ (one : Kept). record { kind = one.kind; lits = one.lits }) (kept_of held lengths)
stored_clauses [] lengths = refl
stored_clauses (clause ∷ more) [] = ap (λ (rest : List Held). clause ∷ rest) (stored_clauses more [])
stored_clauses (clause ∷ more) (n ∷ lengths) = ap (λ (rest : List Held). clause ∷ rest) (stored_clauses more lengths)
