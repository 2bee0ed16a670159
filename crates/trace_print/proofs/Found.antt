-- A binary search tells what is among rising numbers.
use Rattle.std.proofs.Common.{◌≡◌, ℕ, zero, suc, ◌<◌, ◌≤◌, Bool, true, false, ◌||◌, List, [], ◌∷◌, length, get_or, Result, Ok, Err, refl, sym, ap, ◌∙◌, ⊎_elim, arith}
use Rattle.std.specs.Prelude.{nat_lt, is_ok, ◌==◌}
use Rattle.std.specs.List.Sorted.{IsBinarySearchResult}
use Rattle.std.specs.Ordering.{nat_cmp}
use Rattle.std.proofs.lemmas.Bool.{and_parts, cases_lt, ltb-true, ne_eqb, eq-eqb}
use Rattle.std.proofs.lemmas.List.Sorted.{searched}
use Rattle.tel_rule.specs.Rising.{numbers_rise}
use Rattle.tel_semantics.specs.Traces.{is_member}

rises_from : (xs : List ℕ) → numbers_rise xs ≡ true → (i j : ℕ) → i ≤ j → j < length xs → get_or xs i 0 ≤ get_or xs j 0
rises_from [] rise i j le within = absurd (omega (arith, within))
rises_from (x ∷ xs) rise zero zero le within = omega arith
rises_from (x ∷ []) rise i (suc j) le within = absurd (omega (arith, within))
rises_from (x ∷ y ∷ more) rise zero (suc j) le within =
    let parts = and_parts (nat_lt x y) (numbers_rise (y ∷ more)) rise in
    omega (arith, ltb-true x y parts.0, rises_from (y ∷ more) parts.1 zero j (omega arith) (omega (arith, within)))
rises_from (x ∷ xs) rise (suc i) zero le within = absurd (omega (arith, le))
rises_from (x ∷ y ∷ more) rise (suc i) (suc j) le within =
    rises_from (y ∷ more) (and_parts (nat_lt x y) (numbers_rise (y ∷ more)) rise).1 i j (omega (arith, le)) (omega (arith, within))

is_there : (xs : List ℕ) (i x : ℕ) → i < length xs → get_or xs i 0 ≡ x → is_member xs x ≡ true
is_there [] i x within same = absurd (omega (arith, within))
is_there (y ∷ ys) zero x within same = ap (λ (b : Bool). b || is_member ys x) (eq-eqb y x same)
is_there (y ∷ ys) (suc i) x within same = or_true (y == x) (is_there ys i x (omega (arith, within)) same)
  where
    or_true : (a : Bool) {b : Bool} → b ≡ true → (a || b) ≡ true
    or_true true is = refl
    or_true false is = is

is_nowhere : (xs : List ℕ) (x : ℕ) → ((k : ℕ) → k < length xs → get_or xs k 0 ≡ x → ⊥) → is_member xs x ≡ false
is_nowhere [] x apart = refl
is_nowhere (y ∷ ys) x apart =
    ap (λ (b : Bool). b || is_member ys x) (ne_eqb y x (apart 0 (omega arith)))
    ∙ is_nowhere ys x (λ k within. apart (suc k) (omega (arith, within)))

-- what a binary search of rising numbers finds is what is among them
pub found_among : (xs : List ℕ) (x : ℕ) (r : Result ℕ ℕ) → numbers_rise xs ≡ true → IsBinarySearchResult (λ y. nat_cmp y x) xs r → is_ok r ≡ is_member xs x
found_among xs x (Ok i) rise position =
    let at = searched xs x (Ok i) position (rises_from xs rise) in
    sym (is_there xs i x at.0 at.1)
found_among xs x (Err i) rise position =
    let at = searched xs x (Err i) position (rises_from xs rise) in
    sym (is_nowhere xs x (λ k within same. ⊎_elim (λ before. absurd (omega (arith, at.1 k before, same))) (λ behind. absurd (omega (arith, at.2 k behind within, same))) (cases_lt k i)))
