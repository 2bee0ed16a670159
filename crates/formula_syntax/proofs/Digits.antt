-- The number of digits, as far as they are read.
use Rattle.std.proofs.Common.{◌≡◌, ℕ, ◌+◌, ◌-◌, ◌*◌, ◌^◌, ◌≤◌, Bool, true, false, List, [], ◌∷◌, Option, Some, None, refl, ap, ◌∙◌, arith, ◌&&◌, nat_lt}
use Rattle.std.specs.Prelude.{if◌then◌else◌}
use Rattle.std.specs.List.{list_all}
use Rattle.std.proofs.lemmas.Bool.Decides.{nat_tests}
use Rattle.formula_syntax.specs.Senses.{is_digit, decimal_from, is_number, number_of}

-- the number of these digits behind some that are `value`
abbrev pub number_from : ℕ → List ℕ → Option ℕ
number_from value text = if list_all is_digit text && is_number (decimal_from value text) then Some (decimal_from value text) else None

pub number_of-from : (text : List ℕ) → number_of text ≡ number_from 0 text
unfolding number_of
number_of-from text = refl

decimal-grows : (value : ℕ) (text : List ℕ) → value ≤ decimal_from value text
decimal-grows value [] = omega arith
decimal-grows value (digit ∷ digits) = omega (arith, decimal-grows (10 * value + (digit - 48)) digits)

and-false : (b : Bool) → (b && false) ≡ false
and-false true = refl
and-false false = refl

not_below : (m n : ℕ) → n ≤ m → nat_lt m n ≡ false
not_below m n le = grind (arith, nat_tests)

too_great_from : (value : ℕ) (text : List ℕ) → 2 ^ 31 ≤ decimal_from value text → number_from value text ≡ None
too_great_from value text le =
    let a : is_number (decimal_from value text) ≡ false = not_below (decimal_from value text) (2 ^ 31) le in
    rw (a, and-false (list_all is_digit text)) refl

-- digits whose first ones are too great are no number
pub too_great : (value digit : ℕ) (more text : List ℕ) → text ≡ digit ∷ more → 2 ^ 31 ≤ 10 * value + (digit - 48) → number_from value text ≡ None
too_great value digit more text is le =
    ap (number_from value) is ∙ too_great_from value (digit ∷ more) (omega (arith, decimal-grows (10 * value + (digit - 48)) more))
