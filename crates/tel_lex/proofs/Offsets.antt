-- What is found behind bytes that are passed over.
use Rattle.std.proofs.Common.{◌≡◌, ℕ, zero, suc, ◌+◌, ◌<◌, ◌≤◌, Bool, true, false, eqb, ◌||◌, List, [], ◌∷◌, length, get_or, drop, Option, Some, None, refl, sym, ap, subst, ◌∙◌, arith, inl, inr}
use Rattle.std.specs.List.{prefix_len}
use Rattle.std.proofs.lemmas.Bool.{cases_Bool, eqb-true, eq-eqb, ne_eqb, or_parts, or_cases, false_from_ne_true, and_parts, false≢true}
use Rattle.std.proofs.lemmas.List.{drop-drop, drop_all, drop_more, length-drop, get_or-drop}
use Rattle.memchr.specs.Find.{IsFirstByte, is_byte, is_byte3}
use Rattle.tel_lex.specs.Spelling.{is_escape}
use Rattle.tel_lex.specs.Tokens.{begins, is_percent}
use Rattle.tel_lex.specs.Reading.{behind, close_len, begins_escape, string_len, capital_len, variable_len, is_low_line}

pub behind-behind : (a b : ℕ) (found : Option ℕ) → behind a (behind b found) ≡ behind (a + b) found
behind-behind a b None = refl
behind-behind a b (Some n) = ap Some (omega arith)

behind-zero : (found : Option ℕ) → behind 0 found ≡ found
behind-zero None = refl
behind-zero (Some n) = ap Some (omega arith)

pub behind-same : (a b : ℕ) (found : Option ℕ) → a ≡ b → behind a found ≡ behind b found
behind-same a b found same = ap (λ (n : ℕ). behind n found) same

module _ (search_len : List ℕ → Option ℕ) (test : ℕ → Bool) (nothing : search_len [] ≡ None) (plain : (byte : ℕ) (bytes : List ℕ) → test byte ≡ false → search_len (byte ∷ bytes) ≡ behind 1 (search_len bytes)) where
  -- bytes that don't pass are passed over
  skip : (n : ℕ) (bytes : List ℕ) → n ≤ length bytes → ((k : ℕ) → k < n → test (get_or bytes k 0) ≡ false) → search_len bytes ≡ behind n (search_len (drop n bytes))
  skip zero bytes within none = sym (behind-zero (search_len bytes))
  skip (suc n) [] within none = absurd (omega arith)
  skip (suc n) (byte ∷ bytes) within none =
      plain byte bytes (none 0 (omega arith)) ∙ ap (behind 1) (skip n bytes (omega arith) (λ k below. none (suc k) (omega arith)))
      ∙ behind-behind 1 n (search_len (drop n bytes)) ∙ behind-same (1 + n) (suc n) (search_len (drop n bytes)) (omega arith)

  -- the search goes on at the first place that passes
  pub reached : (bytes : List ℕ) (at n : ℕ) → search_len bytes ≡ behind at (search_len (drop at bytes)) → IsFirstByte test (drop at bytes) (Some n) → search_len bytes ≡ behind (at + n) (search_len (drop (at + n) bytes))
  reached bytes at n so_far first =
      so_far ∙ ap (behind at) (skip n (drop at bytes) (omega (arith, first.0.high)) (λ k below. false_from_ne_true _ (first.0.before k (omega arith) below)))
      ∙ behind-behind at n (search_len (drop n (drop at bytes))) ∙ ap (λ (rest : List ℕ). behind (at + n) (search_len rest)) (drop-drop n at bytes)

  -- where none passes nothing is found
  pub missing : (bytes : List ℕ) (at : ℕ) → search_len bytes ≡ behind at (search_len (drop at bytes)) → IsFirstByte test (drop at bytes) None → search_len bytes ≡ None
  missing bytes at so_far first =
      let rest = drop at bytes in
      so_far ∙ ap (behind at) (skip (length rest) rest (omega arith) (λ k below. false_from_ne_true _ (first k (omega arith) below))
      ∙ ap (λ (more : List ℕ). behind (length rest) (search_len more)) (drop_all (length rest) rest (omega arith)) ∙ ap (behind (length rest)) nothing)

-- ---- the end of a block comment

close-plain : (byte : ℕ) (bytes : List ℕ) → is_byte 42 byte ≡ false → close_len (byte ∷ bytes) ≡ behind 1 (close_len bytes)
close-plain byte bytes other = rw other refl

pub close_reached : (bytes : List ℕ) (at n : ℕ) → close_len bytes ≡ behind at (close_len (drop at bytes)) → IsFirstByte (is_byte 42) (drop at bytes) (Some n) → close_len bytes ≡ behind (at + n) (close_len (drop (at + n) bytes))
close_reached = reached close_len (is_byte 42) refl close-plain

pub close_missing : (bytes : List ℕ) (at : ℕ) → close_len bytes ≡ behind at (close_len (drop at bytes)) → IsFirstByte (is_byte 42) (drop at bytes) None → close_len bytes ≡ None
close_missing = missing close_len (is_byte 42) refl close-plain

-- the place in the whole list, and its byte
pub hit_within : (test : ℕ → Bool) (bytes : List ℕ) (at n : ℕ) → IsFirstByte test (drop at bytes) (Some n) → at + n < length bytes
hit_within test bytes at n first = omega (arith, first.0.high, length-drop at bytes)

pub hit_byte : (test : ℕ → Bool) (bytes : List ℕ) (at n : ℕ) → IsFirstByte test (drop at bytes) (Some n) → test (get_or bytes (at + n) 0) ≡ true
hit_byte test bytes at n first = rw get_or-drop at first.1

-- a `*` with a `%` behind it
pub close_hit : (bytes : List ℕ) (at : ℕ) → at < length bytes → is_byte 42 (get_or bytes at 0) ≡ true → begins is_percent (drop (at + 1) bytes) ≡ true → close_len (drop at bytes) ≡ Some 2
close_hit bytes at within star percent =
    let first : drop at bytes ≡ get_or bytes at 0 ∷ drop (at + 1) bytes = drop_more bytes at 0 within in
    rw (first, star, percent) refl

-- a `*` without
pub close_on : (bytes : List ℕ) (at : ℕ) → at < length bytes → is_byte 42 (get_or bytes at 0) ≡ true → begins is_percent (drop (at + 1) bytes) ≡ false → close_len (drop at bytes) ≡ behind 1 (close_len (drop (at + 1) bytes))
close_on bytes at within star other =
    let first : drop at bytes ≡ get_or bytes at 0 ∷ drop (at + 1) bytes = drop_more bytes at 0 within in
    rw (first, star, other) refl

-- ---- the end of a string

abbrev special : ℕ → Bool
special = is_byte3 34 92 10

string-plain : (byte : ℕ) (bytes : List ℕ) → special byte ≡ false → string_len (byte ∷ bytes) ≡ behind 1 (string_len bytes)
string-plain byte [] other =
    let p = or_parts (eqb byte 34 || eqb byte 92) (eqb byte 10) other in
    let q = or_parts (eqb byte 34) (eqb byte 92) p.0 in
    rw q.0 refl
string-plain byte (next ∷ more) other =
    let p = or_parts (eqb byte 34 || eqb byte 92) (eqb byte 10) other in
    let q = or_parts (eqb byte 34) (eqb byte 92) p.0 in
    rw (q.0, p.1, q.1) refl

pub string_reached : (bytes : List ℕ) (at n : ℕ) → string_len bytes ≡ behind at (string_len (drop at bytes)) → IsFirstByte (is_byte3 34 92 10) (drop at bytes) (Some n) → string_len bytes ≡ behind (at + n) (string_len (drop (at + n) bytes))
string_reached = reached string_len special refl string-plain

pub string_missing : (bytes : List ℕ) (at : ℕ) → string_len bytes ≡ behind at (string_len (drop at bytes)) → IsFirstByte (is_byte3 34 92 10) (drop at bytes) None → string_len bytes ≡ None
string_missing = missing string_len special refl string-plain

quoted : (byte : ℕ) (more : List ℕ) → eqb byte 34 ≡ true → string_len (byte ∷ more) ≡ Some 1
quoted byte [] quote = rw quote refl
quoted byte (next ∷ more) quote = rw quote refl

pub string_quote : (bytes : List ℕ) (at : ℕ) → at < length bytes → get_or bytes at 0 ≡ 34 → string_len (drop at bytes) ≡ Some 1
string_quote bytes at within quote =
    let first : drop at bytes ≡ get_or bytes at 0 ∷ drop (at + 1) bytes = drop_more bytes at 0 within in
    rw first (quoted (get_or bytes at 0) (drop (at + 1) bytes) (eq-eqb (get_or bytes at 0) 34 quote))

escaped : (bytes : List ℕ) → begins_escape bytes ≡ true → string_len bytes ≡ behind 2 (string_len (drop 2 bytes))
escaped [] begun = absurd (false≢true begun)
escaped (byte ∷ []) begun = absurd (false≢true begun)
escaped (byte ∷ next ∷ more) begun =
    let p = and_parts (eqb byte 92) (is_escape next) begun in
    rw (eqb-true byte 92 p.0, p.1) refl

pub string_escape : (bytes : List ℕ) (at : ℕ) → begins_escape (drop at bytes) ≡ true → string_len (drop at bytes) ≡ behind 2 (string_len (drop (at + 2) bytes))
string_escape bytes at begun =
    escaped (drop at bytes) begun ∙ ap (λ (rest : List ℕ). behind 2 (string_len rest)) (drop-drop 2 at bytes)

stopped : (byte : ℕ) (more : List ℕ) → special byte ≡ true → eqb byte 34 ≡ false → begins_escape (byte ∷ more) ≡ false → string_len (byte ∷ more) ≡ None
stopped byte [] hit other stop = rw other refl
stopped byte (next ∷ more) hit other stop =
    elim (cases_Bool (eqb byte 10)) [
      | inl line_end ↦ rw (other, line_end) refl
      | inr in_line ↦
          let left : (eqb byte 92 || false) ≡ true = rw (other, in_line) at hit in
          elim (or_cases (eqb byte 92) false left) [
            | inl slash ↦
                let none : is_escape next ≡ false = rw slash at stop in
                rw (other, in_line, slash, none) refl
            | inr absent ↦ absurd (false≢true absent)
          ]
    ]

pub string_stop : (bytes : List ℕ) (at : ℕ) → at < length bytes → special (get_or bytes at 0) ≡ true → (get_or bytes at 0 ≡ 34 → ⊥) → begins_escape (drop at bytes) ≡ false → string_len (drop at bytes) ≡ None
string_stop bytes at within hit other stop =
    let first : drop at bytes ≡ get_or bytes at 0 ∷ drop (at + 1) bytes = drop_more bytes at 0 within in
    let here : begins_escape (get_or bytes at 0 ∷ drop (at + 1) bytes) ≡ false = rw first at stop in
    rw first (stopped (get_or bytes at 0) (drop (at + 1) bytes) hit (ne_eqb (get_or bytes at 0) 34 other) here)

-- ---- variables

capital-run : (bytes : List ℕ) → variable_len bytes ≡ behind (prefix_len is_low_line bytes) (capital_len (drop (prefix_len is_low_line bytes) bytes))
capital-run [] = refl
capital-run (byte ∷ bytes) =
    elim (cases_Bool (is_low_line byte)) [
      | inl low ↦
          let n = prefix_len is_low_line bytes in
          let more : 1 + n ≡ suc n = omega arith in
          rw (low, more) (ap (behind 1) (capital-run bytes) ∙ behind-behind 1 n (capital_len (drop n bytes)) ∙ behind-same (1 + n) (suc n) (capital_len (drop n bytes)) more)
      | inr other ↦
          let none : prefix_len is_low_line (byte ∷ bytes) ≡ 0 = rw other refl in
          let here : variable_len (byte ∷ bytes) ≡ capital_len (byte ∷ bytes) = rw other refl in
          subst (λ (n : ℕ). variable_len (byte ∷ bytes) ≡ behind n (capital_len (drop n (byte ∷ bytes)))) (sym none) (here ∙ sym (behind-zero (capital_len (byte ∷ bytes))))
    ]

-- the `_` at the front, and what stands behind them
pub variable_run : (bytes : List ℕ) (n : ℕ) → n ≡ prefix_len is_low_line bytes → variable_len bytes ≡ behind n (capital_len (drop n bytes))
variable_run bytes n n-is = rw n-is (capital-run bytes)
