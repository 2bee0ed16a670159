-- Worked rows of the level to which a clause goes back.
use Rattle.std.proofs.Common.{◌≡◌, ℕ, Bool, true, false, List, [], ◌∷◌, refl}
use Rattle.std.specs.Prelude.{Option, Some, None}
use Rattle.tel_base.specs.Literals.{lit_of, negate}
use Rattle.clause_store.specs.declared.store.ClauseId.{ClauseId}
use Rattle.lit_trail.specs.declared.assignment.Entry.{Entry}
use Rattle.back_jump.specs.Jumps.{second_highest}

abbrev put : ℕ → Bool → ℕ → Option ClauseId → Entry
put var positive level reason = record { lit = record { var = var; positive = positive }; level = level; reason = reason }

-- 7 holds at level 0; the end, 9, was decided; then 0 was made false, which implied 1, and 3 was made false
abbrev entries : List Entry
entries = put 3 false 3 None ∷ put 1 true 2 (Some (record { place = 0 })) ∷ put 0 false 2 None ∷ put 9 true 1 None ∷ put 7 true 0 (Some (record { place = 1 })) ∷ []

-- the levels are 2, 3 and 1: at level 2 the literal 3 alone has no value
one_highest : second_highest entries (lit_of 0 ∷ lit_of 3 ∷ negate (lit_of 9) ∷ []) ≡ 2
one_highest = refl

-- two are of level 2, so the clause is still false there
two_highest : second_highest entries (negate (lit_of 9) ∷ lit_of 0 ∷ negate (lit_of 1) ∷ []) ≡ 2
two_highest = refl

-- with a literal of level 0, or alone, a literal follows at level 0
with_ground : second_highest entries (negate (lit_of 7) ∷ lit_of 3 ∷ []) ≡ 0
with_ground = refl

alone : second_highest entries (lit_of 3 ∷ []) ≡ 0
alone = refl
