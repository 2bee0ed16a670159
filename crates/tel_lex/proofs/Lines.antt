-- The place behind bytes, line by line.
use Rattle.std.proofs.Common.{◌≡◌, ℕ, zero, suc, ◌+◌, ◌<◌, ◌≤◌, true, false, List, [], ◌∷◌, ◌++◌, length, get_or, drop, Some, None, refl, ap, ◌∙◌, arith, inl, inr}
use Rattle.std.specs.List.{list_all}
use Rattle.std.proofs.lemmas.Bool.{cases_Bool, and_parts, not-true, false_from_ne_true}
use Rattle.memchr.specs.Find.{IsFirstByte, is_byte}
use Rattle.tel_base.specs.declared.places.Place.{Place}
use Rattle.tel_lex.specs.Places.{place_behind, place_after}
use Rattle.tel_lex.specs.Tokens.{is_in_line}

pub place_after-append : (place : Place) (front rest : List ℕ) → place_after place (front ++ rest) ≡ place_after (place_after place front) rest
place_after-append place [] rest = refl
place_after-append place (byte ∷ front) rest = place_after-append (place_behind place byte) front rest

-- the place so many bytes on in its line
abbrev pub along : Place → ℕ → Place
along place n = record place { at = place.at + n }

along-zero : (place : Place) → place ≡ along place 0
along-zero place = ap (λ (at : ℕ). record place { at = at }) (omega arith)

along-suc : (place : Place) (n : ℕ) → along (along place 1) n ≡ along place (suc n)
along-suc place n = ap (λ (at : ℕ). record place { at = at }) (omega arith)

-- within a line
pub place_in_line : (place : Place) (bytes : List ℕ) → list_all is_in_line bytes ≡ true → place_after place bytes ≡ along place (length bytes)
place_in_line place [] all = along-zero place
place_in_line place (byte ∷ bytes) all =
    let p = and_parts (is_in_line byte) (list_all is_in_line bytes) all in
    rw (not-true _ p.0) (place_in_line (along place 1) bytes p.1 ∙ along-suc place (length bytes))

-- up to the end of the line and behind it
line_place : (place : Place) (n : ℕ) (bytes : List ℕ) → n < length bytes → ((k : ℕ) → k < n → is_byte 10 (get_or bytes k 0) ≡ false) → is_byte 10 (get_or bytes n 0) ≡ true → place_after place bytes ≡ place_after (record place { line = place.line + 1; at = 1 }) (drop (n + 1) bytes)
line_place place n [] within before here = absurd (omega arith)
line_place place zero (byte ∷ bytes) within before here = rw here refl
line_place place (suc n) (byte ∷ bytes) within before here =
    let more : suc n + 1 ≡ suc (n + 1) = omega arith in
    rw (before 0 (omega arith), more) (line_place (along place 1) n bytes (omega arith) (λ k below. before (suc k) (omega arith)) here)

pub next_line : (place : Place) (n : ℕ) (bytes : List ℕ) → IsFirstByte (is_byte 10) bytes (Some n) → place_after place bytes ≡ place_after (record place { line = place.line + 1; at = 1 }) (drop (n + 1) bytes)
next_line place n bytes first = line_place place n bytes first.0.high (λ k below. false_from_ne_true _ (first.0.before k (omega arith) below)) first.1

in_line : (bytes : List ℕ) → ((k : ℕ) → k < length bytes → is_byte 10 (get_or bytes k 0) ≡ false) → list_all is_in_line bytes ≡ true
in_line [] none = refl
in_line (byte ∷ bytes) none = rw (none 0 (omega arith)) (in_line bytes (λ k below. none (suc k) (omega arith)))

pub last_line : (place : Place) (bytes : List ℕ) → IsFirstByte (is_byte 10) bytes None → place_after place bytes ≡ along place (length bytes)
last_line place bytes none = place_in_line place bytes (in_line bytes (λ k below. false_from_ne_true _ (none k (omega arith) below)))

at_step : (place : Place) (byte : ℕ) → (place_behind place byte).at ≤ place.at + 1
at_step place byte =
    elim (cases_Bool (is_byte 10 byte)) [
      | inl ends ↦ rw ends (omega arith)
      | inr inside ↦ rw inside (omega arith)
    ]

line_step : (place : Place) (byte : ℕ) → (place_behind place byte).line ≤ place.line + 1
line_step place byte =
    elim (cases_Bool (is_byte 10 byte)) [
      | inl ends ↦ rw ends (omega arith)
      | inr inside ↦ rw inside (omega arith)
    ]

-- neither the byte nor the line of a place rises by more than the bytes
pub bytes_rise : (place : Place) (bytes : List ℕ) → (place_after place bytes).at ≤ place.at + length bytes
bytes_rise place [] = omega arith
bytes_rise place (byte ∷ bytes) = omega (arith, bytes_rise (place_behind place byte) bytes, at_step place byte)

pub lines_rise : (place : Place) (bytes : List ℕ) → (place_after place bytes).line ≤ place.line + length bytes
lines_rise place [] = omega arith
lines_rise place (byte ∷ bytes) = omega (arith, lines_rise (place_behind place byte) bytes, line_step place byte)
