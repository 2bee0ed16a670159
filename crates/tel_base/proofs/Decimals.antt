-- The value of decimal digits, one more at a time.
use Rattle.std.proofs.Common.{◌≡◌, ℕ, ◌+◌, ◌-◌, ◌*◌, ◌<◌, ◌≤◌, List, [], ◌∷◌, ◌++◌, length, get_or, take, drop, ap, ◌∙◌, arith}
use Rattle.std.specs.Prelude.{fold}
use Rattle.std.proofs.lemmas.List.{take_more, take-append-drop}
use Rattle.std.proofs.lemmas.List.Sums.{fold-append}
use Rattle.tel_base.specs.Digits.{decimal}

-- one more digit
abbrev with_digit : ℕ → ℕ → ℕ
with_digit value digit = 10 * value + (digit - 48)

pub decimal_more : (digits : List ℕ) (i : ℕ) → i < length digits → decimal (take (i + 1) digits) ≡ 10 * decimal (take i digits) + (get_or digits i 0 - 48)
decimal_more digits i h =
    ap decimal (take_more digits i 0 h) ∙ fold-append with_digit 0 (take i digits) (get_or digits i 0 ∷ [])

-- digits only add
grows : (value : ℕ) (digits : List ℕ) → value ≤ fold with_digit value digits
grows value [] = omega arith
grows value (digit ∷ digits) = omega (arith, grows (10 * value + (digit - 48)) digits)

front_is_less : (xs ys : List ℕ) → decimal xs ≤ decimal (xs ++ ys)
front_is_less xs ys =
    let e : decimal (xs ++ ys) ≡ fold with_digit (decimal xs) ys = fold-append with_digit 0 xs ys in
    omega (arith, e, grows (decimal xs) ys)

-- the digits up to one of them are worth no more than all
pub decimal_front : (digits : List ℕ) (i : ℕ) → i < length digits → 10 * decimal (take i digits) + (get_or digits i 0 - 48) ≤ decimal digits
decimal_front digits i h =
    let whole : decimal (take (i + 1) digits ++ drop (i + 1) digits) ≡ decimal digits = ap decimal (take-append-drop (i + 1) digits) in
    omega (arith, whole, decimal_more digits i h, front_is_less (take (i + 1) digits) (drop (i + 1) digits))
