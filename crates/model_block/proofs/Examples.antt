-- Worked rows of the blocking clause.
use Rattle.std.proofs.Common.{◌≡◌, ℕ, Bool, true, false, List, [], ◌∷◌, refl}
use Rattle.std.specs.Prelude.{Option, Some, None}
use Rattle.tel_base.specs.Literals.{lit_of, negate}
use Rattle.clause_store.specs.declared.store.ClauseId.{ClauseId}
use Rattle.lit_trail.specs.declared.assignment.Entry.{Entry}
use Rattle.model_block.specs.Blocking.{block_of}

abbrev put : ℕ → Bool → ℕ → Option ClauseId → Entry
put var positive level reason = record { lit = record { var = var; positive = positive }; level = level; reason = reason }

-- the end, 9, was decided; then 0 was made false, which implied 1, and 3 was made false
abbrev entries : List Entry
entries = put 3 false 3 None ∷ put 1 true 2 (Some (record { place = 0 })) ∷ put 0 false 2 None ∷ put 9 true 1 None ∷ []

clause : block_of entries (lit_of 9) ≡ lit_of 0 ∷ lit_of 3 ∷ negate (lit_of 9) ∷ []
clause = refl

-- where nothing was decided but the end, which was true already, the clause is its negation
alone : block_of (put 9 true 0 (Some (record { place = 0 })) ∷ []) (lit_of 9) ≡ negate (lit_of 9) ∷ []
alone = refl
