-- How an entry of a list is read.
use Rattle.std.proofs.Common.{◌≡◌, ℕ, suc, ◌+◌, ◌-◌, ◌<◌, ◌≤◌, Bool, true, false, cond, List, [], ◌∷◌, ◌++◌, Option, Some, None, length, get_or, drop, decimal, refl, sym, ap, subst, ◌∙◌, ⊎_elim, arith, length-append, length-drop, drop-cons}
use Rattle.std.proofs.lemmas.Bool.{cases_Bool, cases_lt, false≢true}
use Rattle.std.proofs.lemmas.Fmt.{decimal_nonempty, first_decimal}
use Rattle.tel_base.specs.declared.literals.Lit.{Lit}
use Rattle.proof_log.specs.Lines.{greatest, lit_number, lit_text}
use Rattle.proof_log.specs.Parts.{AnyOf, IsNumber, IsEntry}
use Rattle.proof_log.specs.Texts.{Stops, StopsAt, StandsAt}
use Rattle.proof_log.proofs.Digits.{decimal-digits, digit-in}
use Rattle.proof_log.proofs.Numerals.{byte-there}
use Rattle.proof_log.proofs.Sequences.{stops-here, stops-behind, stops-chosen}

-- the byte that is first from a place on
pub first-there : (bytes more : List ℕ) (at byte : ℕ) → drop at bytes ≡ byte ∷ more → (at < length bytes) × (get_or bytes at 0 ≡ byte)
first-there bytes more at byte e =
    ⊎_elim
    (λ (l : at < length bytes).
    let there = drop-cons bytes at 0 l in
    let both : get_or bytes at 0 ∷ drop (suc at) bytes ≡ byte ∷ more = sym there ∙ e in
    let same : get_or bytes at 0 ≡ byte = cc in
    (l, same))
    (λ (l : length bytes ≤ at). absurd (omega (arith, ap length e, length-drop at bytes)))
    (cases_lt at (length bytes))

-- the text of a literal by its sign
pub positive-text : (lit : Lit) → lit.positive ≡ true → lit_text lit ≡ decimal (lit_number lit)
positive-text lit is = ap (λ b. cond b (decimal (lit_number lit)) (45 ∷ decimal (lit_number lit))) is

pub negative-text : (lit : Lit) → lit.positive ≡ false → lit_text lit ≡ 45 ∷ decimal (lit_number lit)
negative-text lit is = ap (λ b. cond b (decimal (lit_number lit)) (45 ∷ decimal (lit_number lit))) is

-- the first byte of a number's text is a digit other than 0
pub number-first : (n byte end : ℕ) (text : List ℕ) → 1 ≤ n → n ≤ greatest → byte ∷ text ≡ decimal n ++ end ∷ [] → (48 < byte) × (byte ≤ 57)
number-first n byte end text some top e =
    elim (decimal n) as (λ d. decimal n ≡ d → byte ∷ text ≡ d ++ end ∷ [] → (48 < byte) × (byte ≤ 57)) [
      | [] ↦ λ w h. absurd (omega (arith, decimal_nonempty n (omega arith), ap length w))
      | x ∷ d ↦ λ w h.
          let same : byte ≡ x = cc in
          let digit = digit-in (decimal n) [] d x (decimal-digits n (omega arith)) w in
          let above = first_decimal n some (omega arith) in
          (omega (arith, above, ap (λ t. get_or t 0 0) w, same), omega (arith, digit.1, same))
    ] refl e

-- what an entry is by its first byte
pub data FirstOf (signed : Bool) (low end : ℕ) (entry : Option Lit) (byte : ℕ) (text : List ℕ) : Type 0 where
  closed : entry ≡ None → byte ≡ 48 → text ≡ end ∷ [] → 1 ≤ low → FirstOf signed low end entry byte text
  negative : (lit : Lit) → entry ≡ Some lit → lit.positive ≡ false → signed ≡ true → byte ≡ 45 → IsNumber low 32 (lit_number lit) text → FirstOf signed low end entry byte text
  positive : (lit : Lit) → entry ≡ Some lit → lit.positive ≡ true → 48 < byte → byte ≤ 57 → IsNumber low 32 (lit_number lit) (byte ∷ text) → FirstOf signed low end entry byte text

is-signed : (signed : Bool) (lit : Lit) → (signed ≡ false → lit.positive ≡ true) → lit.positive ≡ false → signed ≡ true
is-signed true lit plain minus = refl
is-signed false lit plain minus = absurd (false≢true (sym minus ∙ plain refl))

pub first-of : (signed : Bool) (low end : ℕ) (entry : Option Lit) (byte : ℕ) (text : List ℕ) → IsEntry signed low end entry (byte ∷ text) → FirstOf signed low end entry byte text
first-of signed low end None byte text is =
    let whole : byte ∷ text ≡ 48 ∷ end ∷ [] = is.1 in
    let head : byte ≡ 48 = cc in
    let tail : text ≡ end ∷ [] = cc in
    closed refl head tail is.0
first-of signed low end (Some lit) byte text is =
    ⊎_elim
    (λ (plus : lit.positive ≡ true).
    let whole : byte ∷ text ≡ decimal (lit_number lit) ++ 32 ∷ [] = is.3 ∙ ap (λ t. t ++ 32 ∷ []) (positive-text lit plus) in
    let first = number-first (lit_number lit) byte 32 text (omega (arith, is.0)) is.1 whole in
    positive lit refl plus first.0 first.1 (is.0, is.1, whole))
    (λ (minus : lit.positive ≡ false).
    let whole : byte ∷ text ≡ 45 ∷ (decimal (lit_number lit) ++ 32 ∷ []) = is.3 ∙ ap (λ t. t ++ 32 ∷ []) (negative-text lit minus) in
    let head : byte ≡ 45 = cc in
    let tail : text ≡ decimal (lit_number lit) ++ 32 ∷ [] = cc in
    negative lit refl minus (is-signed signed lit is.2 minus) head (is.0, is.1, tail))
    (cases_Bool lit.positive)

-- an entry has a byte
pub entry-some : (signed : Bool) (low end : ℕ) (entry : Option Lit) → IsEntry signed low end entry [] → ⊥
entry-some signed low end None is = absurd (omega (arith, ap length is.1))
entry-some signed low end (Some lit) is = absurd (omega (arith, ap length is.3, length-append (lit_text lit) (32 ∷ [])))

-- a number is the text of a literal of either sign
pub plus-entry : (signed : Bool) (low end : ℕ) (lit : Lit) (text : List ℕ) → lit.positive ≡ true → IsNumber low 32 (lit_number lit) text → IsEntry signed low end (Some lit) text
plus-entry signed low end lit text plus is = (is.0, is.1, λ _. plus, is.2 ∙ ap (λ t. t ++ 32 ∷ []) (sym (positive-text lit plus)))

pub minus-entry : (signed : Bool) (low end : ℕ) (lit : Lit) (text : List ℕ) → lit.positive ≡ false → signed ≡ true → IsNumber low 32 (lit_number lit) text → IsEntry signed low end (Some lit) (45 ∷ text)
minus-entry signed low end lit text minus with_signs is =
    (is.0, is.1, λ none. absurd (false≢true (sym none ∙ with_signs)), ap (λ t. 45 ∷ t) is.2 ∙ ap (λ t. t ++ 32 ∷ []) (sym (negative-text lit minus)))

lit_with : ℕ → Bool → Lit
lit_with n sign = record { var = n - 1; positive = sign }

number_with : (n : ℕ) (sign : Bool) → 1 ≤ n → n ≡ lit_number (lit_with n sign)
unfolding lit_with
number_with n sign some = omega arith

sign_with : (n : ℕ) (sign : Bool) → (lit_with n sign).positive ≡ sign
unfolding lit_with
sign_with n sign = refl

module _ (signed : Bool) (low end : ℕ) (bytes : List ℕ) (at : ℕ) where
  -- behind `0`
  pub close-stops : at < length bytes → 48 ≡ get_or bytes at 0 → 1 ≤ low → (at + 1 < length bytes → get_or bytes (at + 1) 0 ≡ end → ⊥)
      → StopsAt (AnyOf (IsEntry signed low end)) bytes at (at + 1)
  close-stops within is some other =
      let there = byte-there bytes at 48 within is in
      let here = stops-here (λ t. t ≡ end ∷ []) (end ∷ [], refl) (λ e. absurd (omega (arith, ap length e))) (drop (at + 1) bytes)
      (λ byte more text e f.
      let first = first-there bytes more (at + 1) byte e in
      let same : byte ≡ end = cc in
      other first.0 (first.1 ∙ same)) in
      let behind = stops-behind (λ t. t ≡ end ∷ []) (AnyOf (IsEntry signed low end)) 48
      (λ text e. (None, (some, ap (λ (t : List ℕ). 48 ∷ t) e)))
      (λ text e. elim (first-of signed low end e.0 48 text e.1) [
        | closed _ _ tail _ ↦ tail
        | negative _ _ _ _ head _ ↦ absurd (omega (arith, head))
        | positive _ _ _ above _ _ ↦ absurd (omega (arith, above))
      ])
      (λ e. entry-some signed low end e.0 e.1)
      (drop at bytes) (drop (at + 1) bytes) 0 there here in
      (omega arith, subst (λ n. Stops (AnyOf (IsEntry signed low end)) (drop at bytes) n) (omega arith) behind)

  -- behind `-`
  pub minus-stops : (place : ℕ) → at < length bytes → 45 ≡ get_or bytes at 0 → signed ≡ true → StopsAt (AnyOf (IsNumber low 32)) bytes (at + 1) place
      → StopsAt (AnyOf (IsEntry signed low end)) bytes at place
  minus-stops place within is with_signs s =
      let there = byte-there bytes at 45 within is in
      let behind = stops-behind (AnyOf (IsNumber low 32)) (AnyOf (IsEntry signed low end)) 45
      (λ text e.
      let some : 1 ≤ e.0 = omega (arith, e.1.0) in
      (Some (lit_with e.0 false), minus-entry signed low end (lit_with e.0 false) text (sign_with e.0 false) with_signs (subst (λ n. IsNumber low 32 n text) (number_with e.0 false some) e.1)))
      (λ text e. elim (first-of signed low end e.0 45 text e.1) [
        | closed _ head _ _ ↦ absurd (omega (arith, head))
        | negative lit _ _ _ _ number ↦ (lit_number lit, number)
        | positive _ _ _ above _ _ ↦ absurd (omega (arith, above))
      ])
      (λ e. entry-some signed low end e.0 e.1)
      (drop at bytes) (drop (at + 1) bytes) (place - (at + 1)) there s.1 in
      (omega (arith, s.0), subst (λ n. Stops (AnyOf (IsEntry signed low end)) (drop at bytes) n) (omega (arith, s.0)) behind)

  -- a number where no other entry can begin
  pub plus-stops : (place : ℕ) → (at < length bytes → get_or bytes at 0 ≡ 48 → 1 ≤ low → ⊥) → (at < length bytes → get_or bytes at 0 ≡ 45 → signed ≡ true → ⊥)
      → StopsAt (AnyOf (IsNumber low 32)) bytes at place → StopsAt (AnyOf (IsEntry signed low end)) bytes at place
  plus-stops place no_close no_minus s = (
    s.0,
    stops-chosen (AnyOf (IsNumber low 32)) (AnyOf (IsEntry signed low end))
        (λ text e.
        let some : 1 ≤ e.0 = omega (arith, e.1.0) in
        (Some (lit_with e.0 true), plus-entry signed low end (lit_with e.0 true) text (sign_with e.0 true) (subst (λ n. IsNumber low 32 n text) (number_with e.0 true some) e.1)))
        (λ e. entry-some signed low end e.0 e.1)
        (drop at bytes)
        (λ byte more text e f.
        let first = first-there bytes more at byte e in
        elim (first-of signed low end f.0 byte text f.1) [
          | closed _ head _ some ↦ absurd (no_close first.0 (first.1 ∙ head) some)
          | negative _ _ _ with_signs head _ ↦ absurd (no_minus first.0 (first.1 ∙ head) with_signs)
          | positive lit _ _ _ _ number ↦ (lit_number lit, number)
        ])
        (place - at) s.1,
  )

  -- behind the greatest number
  pub last-stops : (at < length bytes → get_or bytes at 0 ≡ 48 → 1 ≤ low → ⊥) → low ≡ greatest → StopsAt (AnyOf (IsEntry signed low end)) bytes at at
  last-stops no_close last =
      let here = stops-here (AnyOf (IsEntry signed low end)) (48 ∷ end ∷ [], (None, (omega (arith, last), refl))) (λ e. entry-some signed low end e.0 e.1) (drop at bytes)
      (λ byte more text e f.
      let first = first-there bytes more at byte e in
      elim (first-of signed low end f.0 byte text f.1) [
        | closed _ head _ some ↦ no_close first.0 (first.1 ∙ head) some
        | negative lit _ _ _ _ number ↦ absurd (omega (arith, number.0, number.1, last))
        | positive lit _ _ _ _ number ↦ absurd (omega (arith, number.0, number.1, last))
      ]) in
      (omega arith, subst (λ n. Stops (AnyOf (IsEntry signed low end)) (drop at bytes) n) (omega arith) here)

-- the closing of a list stands
pub close-stands : (signed : Bool) (low end : ℕ) (bytes : List ℕ) (at : ℕ) → at < length bytes → 48 ≡ get_or bytes at 0 → 1 ≤ low → at + 1 < length bytes → end ≡ get_or bytes (at + 1) 0
    → StandsAt (IsEntry signed low end None) bytes at (at + 1 + 1)
close-stands signed low end bytes at within is some also ends = record {
  text = 48 ∷ end ∷ [];
  is = (some, refl);
  stands = byte-there bytes at 48 within is ∙ ap (λ (t : List ℕ). 48 ∷ t) (byte-there bytes (at + 1) end also ends);
  reaches = omega arith;
  within = omega arith;
}

-- a negation stands
pub minus-stands : (signed : Bool) (low end : ℕ) (lit : Lit) (bytes : List ℕ) (at after : ℕ) → at < length bytes → 45 ≡ get_or bytes at 0 → signed ≡ true → lit.positive ≡ false
    → StandsAt (IsNumber low 32 (lit_number lit)) bytes (at + 1) after → StandsAt (IsEntry signed low end (Some lit)) bytes at after
minus-stands signed low end lit bytes at after within is with_signs minus s = record {
  text = 45 ∷ s.text;
  is = minus-entry signed low end lit s.text minus with_signs s.is;
  stands = byte-there bytes at 45 within is ∙ ap (λ (t : List ℕ). 45 ∷ t) s.stands;
  reaches = omega (arith, s.reaches);
  within = s.within;
}

pub plus-stands : (signed : Bool) (low end : ℕ) (lit : Lit) (bytes : List ℕ) (at after : ℕ) → lit.positive ≡ true
    → StandsAt (IsNumber low 32 (lit_number lit)) bytes at after → StandsAt (IsEntry signed low end (Some lit)) bytes at after
plus-stands signed low end lit bytes at after plus s = record {
  text = s.text;
  is = plus-entry signed low end lit s.text plus s.is;
  stands = s.stands;
  reaches = s.reaches;
  within = s.within;
}
