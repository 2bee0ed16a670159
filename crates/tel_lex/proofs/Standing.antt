-- What stands at the front of a text is what front_of says.
use Rattle.std.proofs.Common.{◌≡◌, ℕ, zero, suc, ◌+◌, ◌<◌, ◌≤◌, Bool, true, false, cond, not, eqb, ◌||◌, List, [], ◌∷◌, ◌++◌, length, take, drop, Option, Some, None, refl, sym, ap, subst, ◌∙◌, append_assoc, arith, inl, inr}
use Rattle.std.specs.Prelude.{◌⊎◌}
use Rattle.std.specs.List.{list_all, prefix_len}
use Rattle.std.proofs.lemmas.Bool.{cases_Bool, eqb-true, and_parts, and_from, or_parts, or_cases, not-true, false≢true, not_from_false, false_from_ne_true, cond_both}
use Rattle.std.proofs.lemmas.List.{take-append-drop, length-append, length-take-le, take_at}
use Rattle.std.proofs.lemmas.Option.{same_Some}
use Rattle.tel_lex.specs.declared.token.TokenKind.{TokenKind}
use Rattle.tel_lex.specs.declared.token.TokenKind.TheVariants as kinds
use Rattle.tel_lex.specs.declared.front.Front.TheVariants as fronts
use Rattle.tel_lex.specs.Spelling.{is_white, is_lower, is_upper, is_digit, is_word_byte, is_variable, is_string_rest, is_hash, is_sign, is_spelling}
use Rattle.tel_lex.specs.Tokens.{begins, is_in_line, is_star, IsLineComment, IsBlockComment, IsSeparator, IsLongest, EndsWord, IsNext, is_in_range, IsStuck}
use Rattle.tel_lex.specs.Reading.{variable_len, string_len, close_len, gap_of, comment_front, str_of, is_low_line, variable_of, hash_front, number_front, mark_front, sign_front, other_front, front_of, IsPart, StandsAt}
use Rattle.tel_lex.proofs.Runs.{all-prefix, begins-drop_prefix, prefix_within, prefix_most, prefix_exact}
use Rattle.tel_lex.proofs.SpelledKinds.{kind_as, kind-lower, kind-upper, kind-digit, kind-low, kind-quote, kind-hash, kind-other, hash_word, sign_short, no_empty, no_gap}
use Rattle.tel_lex.proofs.Found.{variable_found, variable_most, string_found, string_exact, close_found, close_exact}

-- ---- separators

line_front : (text rest : List ℕ) → list_all is_in_line text ≡ true → begins is_star text ≡ false → begins is_in_line rest ≡ false → comment_front (text ++ rest) ≡ fronts.Gap (suc (length text))
line_front [] [] all star ends = refl
line_front [] (byte ∷ rest) all star ends =
    let line_end : byte ≡ 10 = eqb-true byte 10 (not_out (eqb byte 10) ends) in
    rw line_end refl
  where
    not_out : (b : Bool) → not b ≡ false → b ≡ true
    not_out true e = refl
    not_out false e = absurd (false≢true (sym e))
line_front (byte ∷ text) rest all star ends =
    let n : prefix_len is_in_line ((byte ∷ text) ++ rest) ≡ length (byte ∷ text) = prefix_exact is_in_line (byte ∷ text) rest all ends in
    let whole : comment_front ((byte ∷ text) ++ rest) ≡ fronts.Gap (1 + prefix_len is_in_line ((byte ∷ text) ++ rest)) = rw star refl in
    whole ∙ ap (λ (k : ℕ). fronts.Gap k) (omega (arith, n))

-- a separator at the front is the one that stands there
pub separator_front : (front rest : List ℕ) → IsSeparator front rest → front_of (front ++ rest) ≡ fronts.Gap (length front)
unfolding front_of
separator_front front rest (inl white) =
    let here : front_of (white.byte ∷ rest) ≡ fronts.Gap 1 = rw white.white refl in
    subst (λ (f : List ℕ). front_of (f ++ rest) ≡ fronts.Gap (length f)) (sym white.whole) here
separator_front front rest (inr (inl line)) =
    let here : front_of (37 ∷ (line.text ++ rest)) ≡ fronts.Gap (suc (length line.text)) = line_front line.text rest line.one_line (not-true _ line.no_block) (not-true _ line.line_end) in
    subst (λ (f : List ℕ). front_of (f ++ rest) ≡ fronts.Gap (length f)) (sym line.whole) here
separator_front front rest (inr (inr block)) =
    let text = block.text in
    let whole = text ++ 42 ∷ 37 ∷ [] in
    let found : close_len (whole ++ rest) ≡ Some (length text + 2) = close_exact text rest (not-true _ block.first) in
    let count : 2 + (length text + 2) ≡ length (37 ∷ 42 ∷ whole) = omega (arith, length-append text (42 ∷ 37 ∷ [])) in
    let here : front_of (37 ∷ 42 ∷ (whole ++ rest)) ≡ fronts.Gap (length (37 ∷ 42 ∷ whole)) = ap (λ (f : Option ℕ). gap_of f 2) found ∙ ap (λ (k : ℕ). fronts.Gap k) count in
    subst (λ (f : List ℕ). front_of (f ++ rest) ≡ fronts.Gap (length f)) (sym block.whole) here

-- where no gap stands there is no separator
no_separator : (bytes : List ℕ) → front_of bytes ≡ fronts.Bad → (front rest : List ℕ) → bytes ≡ front ++ rest → IsSeparator front rest → ⊥
no_separator bytes bad front rest whole separator =
    let gap : front_of bytes ≡ fronts.Gap (length front) = ap front_of whole ∙ separator_front front rest separator in
    cc

begins-take : (test : ℕ → Bool) (n : ℕ) (bytes : List ℕ) → begins test bytes ≡ false → begins test (take n bytes) ≡ false
begins-take test zero bytes fails = refl
begins-take test (suc n) [] fails = refl
begins-take test (suc n) (byte ∷ bytes) fails = fails

part : (n : ℕ) (bytes : List ℕ) → 0 < n → n ≤ length bytes → IsPart n bytes
part n bytes some within = record { some = some; within = within }

white_stands : (byte : ℕ) (bytes : List ℕ) → is_white byte ≡ true → StandsAt (byte ∷ bytes) (fronts.Gap 1)
white_stands byte bytes white =
    (part 1 (byte ∷ bytes) (omega arith) (omega arith), inl (record { byte = byte; white = white; whole = refl }))

line_stands : (bytes : List ℕ) (n : ℕ) → n ≡ prefix_len is_in_line bytes → begins is_star bytes ≡ false → StandsAt (37 ∷ bytes) (fronts.Gap (1 + n))
line_stands bytes n n-is star =
    let within : n ≤ length bytes = omega (arith, prefix_within is_in_line bytes) in
    let more : 1 + n ≡ suc n = omega arith in
    let comment : IsLineComment (37 ∷ take n bytes) (drop n bytes) = record {
      text = take n bytes;
      one_line = rw n-is (all-prefix is_in_line bytes);
      no_block = not_from_false _ (begins-take is_star n bytes star);
      line_end = not_from_false _ (rw n-is (begins-drop_prefix is_in_line bytes));
      whole = refl;
    } in
    rw more (part (suc n) (37 ∷ bytes) (omega arith) (omega arith), inr (inl comment))

block_stands : (bytes : List ℕ) (n : ℕ) → close_len bytes ≡ Some n → StandsAt (37 ∷ 42 ∷ bytes) (fronts.Gap (2 + n))
block_stands bytes n is =
    let found = close_found bytes n is in
    let more : 2 + n ≡ suc (suc n) = omega arith in
    let comment : IsBlockComment (37 ∷ 42 ∷ take n bytes) = record {
      text = found.text;
      first = not_from_false _ found.first;
      whole = ap (λ (t : List ℕ). 37 ∷ 42 ∷ t) found.whole;
    } in
    rw more (part (suc (suc n)) (37 ∷ 42 ∷ bytes) (omega arith) (omega (arith, found.within)), inr (inr comment))

-- ---- tokens

-- no spelling at the front is longer than n bytes
abbrev AtMost : List ℕ → ℕ → Type 0
AtMost bytes n = (kind : TokenKind) (front rest : List ℕ) → bytes ≡ front ++ rest → is_spelling kind front ≡ true → length front ≤ n

-- the same by the bytes behind the first
at_most : (first : ℕ) (bytes : List ℕ) (n : ℕ) → ((kind : TokenKind) (more rest : List ℕ) → bytes ≡ more ++ rest → is_spelling kind (first ∷ more) ≡ true → suc (length more) ≤ n) → AtMost (first ∷ bytes) n
at_most first bytes n bound kind [] rest whole spelled = absurd (false≢true (sym (no_empty kind) ∙ spelled))
at_most first bytes n bound kind (byte ∷ more) rest whole spelled =
    let same : byte ≡ first = cc in
    let behind_it : bytes ≡ more ++ rest = cc in
    bound kind more rest behind_it (subst (λ (b : ℕ). is_spelling kind (b ∷ more) ≡ true) same spelled)

longest : (bytes : List ℕ) (n : ℕ) → n ≤ length bytes → AtMost bytes n → IsLongest (take n bytes) (drop n bytes)
longest bytes n within most kind more rest rest-is some =
    false_from_ne_true _ (λ spelled.
    let whole : bytes ≡ (take n bytes ++ more) ++ rest = sym (take-append-drop n bytes) ∙ ap (λ (t : List ℕ). take n bytes ++ t) rest-is ∙ sym (append_assoc (take n bytes) more rest) in
    omega (arith, most kind (take n bytes ++ more) rest whole spelled, length-append (take n bytes) more, length-take-le n bytes within))

no_token : (first : ℕ) (bytes : List ℕ) → ((kind : TokenKind) (more rest : List ℕ) → bytes ≡ more ++ rest → is_spelling kind (first ∷ more) ≡ true → EndsWord kind rest → ⊥) → (kind : TokenKind) (text rest : List ℕ) → first ∷ bytes ≡ text ++ rest → IsNext kind text rest → ⊥
no_token first bytes none kind [] rest whole next = false≢true (sym (no_empty kind) ∙ next.spelled)
no_token first bytes none kind (byte ∷ more) rest whole next =
    let same : byte ≡ first = cc in
    let behind_it : bytes ≡ more ++ rest = cc in
    none kind more rest behind_it (subst (λ (b : ℕ). is_spelling kind (b ∷ more) ≡ true) same next.spelled) next.ends_word

stuck : (first : ℕ) (bytes : List ℕ) → front_of (first ∷ bytes) ≡ fronts.Bad → ((kind : TokenKind) (more rest : List ℕ) → bytes ≡ more ++ rest → is_spelling kind (first ∷ more) ≡ true → EndsWord kind rest → ⊥) → IsStuck (first ∷ bytes)
stuck first bytes bad none = record {
  some = omega arith;
  no_separator = no_separator (first ∷ bytes) bad;
  no_token = no_token first bytes none;
}

-- ---- names

name_stands : (first : ℕ) (bytes : List ℕ) → is_lower first ≡ true → StandsAt (first ∷ bytes) (fronts.Token kinds.Name (1 + prefix_len is_word_byte bytes))
name_stands first bytes lower =
    let k = prefix_len is_word_byte bytes in
    let count : 1 + k ≡ suc k = omega arith in
    let within : suc k ≤ length (first ∷ bytes) = omega (arith, prefix_within is_word_byte bytes) in
    let spelled : is_spelling kinds.Name (take (suc k) (first ∷ bytes)) ≡ true = and_from (is_lower first) (list_all is_word_byte (take k bytes)) lower (all-prefix is_word_byte bytes) in
    let most : AtMost (first ∷ bytes) (suc k) = at_most first bytes (suc k) (λ kind more rest whole is.
    let all = and_parts (is_lower first) (list_all is_word_byte more) (kind_as kind kinds.Name (first ∷ more) (kind-lower first more lower) is) in
    let count_more : length more ≤ prefix_len is_word_byte bytes = rw whole (prefix_most is_word_byte more rest all.1) in
    omega arith) in
    let next : IsNext kinds.Name (take (suc k) (first ∷ bytes)) (drop (suc k) (first ∷ bytes)) = record { spelled = spelled; longest = longest (first ∷ bytes) (suc k) within most; ends_word = tt } in
    rw count (part (suc k) (first ∷ bytes) (omega arith) within, next, refl)

-- ---- numbers

digit_run : (first : ℕ) (bytes : List ℕ) → is_digit first ≡ true → prefix_len is_digit (first ∷ bytes) ≡ suc (prefix_len is_digit bytes)
digit_run first bytes digit = rw digit (omega arith)

number_next : (first : ℕ) (bytes : List ℕ) (n : ℕ) → is_digit first ≡ true → n ≡ prefix_len is_digit (first ∷ bytes) → IsPart n (first ∷ bytes) × IsNext kinds.Number (take n (first ∷ bytes)) (drop n (first ∷ bytes))
number_next first bytes n digit n-is =
    let k = prefix_len is_digit bytes in
    let count : n ≡ suc k = n-is ∙ digit_run first bytes digit in
    let within : n ≤ length (first ∷ bytes) = omega (arith, count, prefix_within is_digit bytes) in
    let here : is_spelling kinds.Number (take (suc k) (first ∷ bytes)) ≡ true = and_from (is_digit first) (list_all is_digit (take k bytes)) digit (all-prefix is_digit bytes) in
    let spelled : is_spelling kinds.Number (take n (first ∷ bytes)) ≡ true = subst (λ (m : ℕ). is_spelling kinds.Number (take m (first ∷ bytes)) ≡ true) (sym count) here in
    let most : AtMost (first ∷ bytes) n = at_most first bytes n (λ kind more rest whole is.
    let all = and_parts (is_digit first) (list_all is_digit more) (kind_as kind kinds.Number (first ∷ more) (kind-digit first more digit) is) in
    let count_more : length more ≤ prefix_len is_digit bytes = rw whole (prefix_most is_digit more rest all.1) in
    omega (arith, count)) in
    (part n (first ∷ bytes) (omega (arith, count)) within, record { spelled = spelled; longest = longest (first ∷ bytes) n within most; ends_word = tt })

number_stands : (first : ℕ) (bytes : List ℕ) → is_digit first ≡ true → StandsAt (first ∷ bytes) (number_front (first ∷ bytes))
number_stands first bytes digit =
    let n = prefix_len is_digit (first ∷ bytes) in
    let next = number_next first bytes n digit refl in
    elim (cases_Bool (is_in_range kinds.Number (take n (first ∷ bytes)))) [
      | inl small ↦ subst (λ (b : Bool). StandsAt (first ∷ bytes) (cond b (fronts.Token kinds.Number n) fronts.Large)) (sym small) (next.0, next.1, small)
      | inr large ↦ subst (λ (b : Bool). StandsAt (first ∷ bytes) (cond b (fronts.Token kinds.Number n) fronts.Large)) (sym large) (n, next.1, not_from_false _ large)
    ]

-- ---- variables

-- a spelling that begins with an upper-case letter or `_` is a blank or a variable
low_or_upper : (kind : TokenKind) (first : ℕ) (more : List ℕ) → (is_upper first || is_low_line first) ≡ true → is_spelling kind (first ∷ more) ≡ true → (more ≡ []) ⊎ (is_variable (first ∷ more) ≡ true)
low_or_upper kind first [] begun spelled = inl refl
low_or_upper kind first (next ∷ more) begun spelled =
    elim (or_cases (is_upper first) (is_low_line first) begun) [
      | inl upper ↦ inr (kind_as kind kinds.Variable (first ∷ next ∷ more) (kind-upper first (next ∷ more) upper) spelled)
      | inr low ↦
          let here = subst (λ (b : ℕ). is_spelling kind (b ∷ next ∷ more) ≡ true) (eqb-true first 95 low) spelled in
          inr (subst (λ (b : ℕ). is_variable (b ∷ next ∷ more) ≡ true) (sym (eqb-true first 95 low)) (kind_as kind kinds.Variable (95 ∷ next ∷ more) (kind-low next more) here))
    ]

variable_stands : (first : ℕ) (bytes : List ℕ) (n : ℕ) → (is_upper first || is_low_line first) ≡ true → variable_len (first ∷ bytes) ≡ Some n → StandsAt (first ∷ bytes) (fronts.Token kinds.Variable n)
variable_stands first bytes n begun is =
    let found = variable_found (first ∷ bytes) n is in
    let most : AtMost (first ∷ bytes) n = at_most first bytes n (λ kind more rest whole spelled.
    elim (low_or_upper kind first more begun spelled) [
      | inl none ↦ omega (arith, ap length none, found.some)
      | inr variable ↦
          let h = variable_most (first ∷ more) rest variable in
          let there : variable_len (first ∷ bytes) ≡ Some h.0 = rw whole h.1 in
          omega (arith, h.2, same_Some _ _ (sym is ∙ there))
    ]) in
    (part n (first ∷ bytes) found.some found.within, record { spelled = found.is; longest = longest (first ∷ bytes) n found.within most; ends_word = tt }, refl)

-- one `_`, where no variable begins
pub blank_next : (bytes : List ℕ) → variable_len (95 ∷ bytes) ≡ None → IsNext kinds.Blank (95 ∷ []) bytes
blank_next bytes none = record {
  spelled = refl;
  longest = λ kind more rest whole some. false_from_ne_true _ (λ spelled.
      elim (low_or_upper kind 95 more refl spelled) [
        | inl empty ↦ omega (arith, ap length empty)
        | inr variable ↦
            let h = variable_most (95 ∷ more) rest variable in
            let there : variable_len (95 ∷ bytes) ≡ Some h.0 = rw whole h.1 in
            let apart = sym none ∙ there in
            absurd cc
      ]);
  ends_word = tt;
}

blanks_stand : (first : ℕ) (bytes : List ℕ) → (is_upper first || is_low_line first) ≡ true → variable_len (first ∷ bytes) ≡ None → StandsAt (first ∷ bytes) (fronts.Blanks (prefix_len is_low_line (first ∷ bytes)))
blanks_stand first bytes begun none =
    elim (cases_Bool (is_low_line first)) [
      | inl low ↦
          let count : prefix_len is_low_line (first ∷ bytes) ≡ 1 + prefix_len is_low_line bytes = rw low refl in
          (part (prefix_len is_low_line (first ∷ bytes)) (first ∷ bytes) (omega (arith, count)) (prefix_within is_low_line (first ∷ bytes)), all-prefix is_low_line (first ∷ bytes), none)
      | inr other ↦
          let upper : is_upper first ≡ true = elim (or_cases (is_upper first) (is_low_line first) begun) [ inl upper ↦ upper | inr low ↦ absurd (false≢true (sym other ∙ low)) ] in
          let there : variable_len (first ∷ bytes) ≡ Some (1 + prefix_len is_word_byte bytes) = rw (other, upper) refl in
          let apart = sym none ∙ there in
          absurd cc
    ]

-- ---- strings

quote_text : (kind : TokenKind) (more : List ℕ) → is_spelling kind (34 ∷ more) ≡ true → is_string_rest more ≡ true
quote_text kind more spelled = (and_parts true (is_string_rest more) (kind_as kind kinds.Str (34 ∷ more) (kind-quote more) spelled)).1

str_stands : (bytes : List ℕ) (found : Option ℕ) → string_len bytes ≡ found → StandsAt (34 ∷ bytes) (str_of found)
unfolding front_of
str_stands bytes None none =
    let bad : front_of (34 ∷ bytes) ≡ fronts.Bad = ap str_of none in
    stuck 34 bytes bad (λ kind more rest whole spelled ends.
    let there : string_len bytes ≡ Some (length more) = rw whole (string_exact more rest (quote_text kind more spelled)) in
    let apart = sym none ∙ there in
    cc)
str_stands bytes (Some n) is =
    let found = string_found bytes n is in
    let count : 1 + n ≡ suc n = omega arith in
    let within : suc n ≤ length (34 ∷ bytes) = omega (arith, found.within) in
    let spelled : is_spelling kinds.Str (take (suc n) (34 ∷ bytes)) ≡ true = found.is in
    let most : AtMost (34 ∷ bytes) (suc n) = at_most 34 bytes (suc n) (λ kind more rest whole is_it.
    let there : string_len bytes ≡ Some (length more) = rw whole (string_exact more rest (quote_text kind more is_it)) in
    omega (arith, same_Some _ _ (sym is ∙ there))) in
    let next : IsNext kinds.Str (take (suc n) (34 ∷ bytes)) (drop (suc n) (34 ∷ bytes)) = record { spelled = spelled; longest = longest (34 ∷ bytes) (suc n) within most; ends_word = tt } in
    rw count (part (suc n) (34 ∷ bytes) (omega arith) within, next, refl)

-- ---- words behind `#`

hash_text : (kind : TokenKind) (more : List ℕ) → is_spelling kind (35 ∷ more) ≡ true → is_hash (35 ∷ more) ≡ true
hash_text kind more spelled = kind_as kind kinds.Hash (35 ∷ more) (kind-hash more) spelled

hash_end : (kind : TokenKind) (more rest : List ℕ) → is_spelling kind (35 ∷ more) ≡ true → EndsWord kind rest → begins is_word_byte rest ≡ false
hash_end kinds.Hash more rest spelled ends = not-true _ ends
hash_end kinds.Name more rest spelled ends = absurd (false≢true spelled)
hash_end kinds.Variable more rest spelled ends = absurd (false≢true spelled)
hash_end kinds.Blank more rest spelled ends = absurd (false≢true spelled)
hash_end kinds.Number more rest spelled ends = absurd (false≢true spelled)
hash_end kinds.Str more rest spelled ends = absurd (false≢true spelled)
hash_end kinds.Sign more rest spelled ends =
    let here = hash_text kinds.Sign more spelled in
    absurd (no_sign_hash more here spelled)
  where
    no_sign_hash : (text : List ℕ) → is_hash (35 ∷ text) ≡ true → is_sign (35 ∷ text) ≡ true → ⊥
    no_sign_hash text hash sign = false≢true sign

hash_stands : (bytes : List ℕ) → StandsAt (35 ∷ bytes) (hash_front bytes)
unfolding front_of
hash_stands bytes =
    let k = prefix_len is_word_byte bytes in
    let count : 1 + k ≡ suc k = omega arith in
    elim (cases_Bool (is_hash (35 ∷ take k bytes))) [
      | inl hash ↦
          let within : suc k ≤ length (35 ∷ bytes) = omega (arith, prefix_within is_word_byte bytes) in
          let most : AtMost (35 ∷ bytes) (suc k) = at_most 35 bytes (suc k) (λ kind more rest whole spelled.
          let count_more : length more ≤ prefix_len is_word_byte bytes = rw whole (prefix_most is_word_byte more rest (hash_word 35 more (hash_text kind more spelled))) in
          omega arith) in
          let next : IsNext kinds.Hash (take (suc k) (35 ∷ bytes)) (drop (suc k) (35 ∷ bytes)) =
          record { spelled = hash; longest = longest (35 ∷ bytes) (suc k) within most; ends_word = not_from_false _ (begins-drop_prefix is_word_byte bytes) } in
          let here : StandsAt (35 ∷ bytes) (fronts.Token kinds.Hash (1 + k)) = rw count (part (suc k) (35 ∷ bytes) (omega arith) within, next, refl) in
          subst (λ (b : Bool). StandsAt (35 ∷ bytes) (cond b (fronts.Token kinds.Hash (1 + k)) fronts.Bad)) (sym hash) here
      | inr none ↦
          let bad : front_of (35 ∷ bytes) ≡ fronts.Bad = rw none refl in
          let here : StandsAt (35 ∷ bytes) fronts.Bad = stuck 35 bytes bad (λ kind more rest whole spelled ends.
          let hash = hash_text kind more spelled in
          let n : prefix_len is_word_byte bytes ≡ length more = rw whole (prefix_exact is_word_byte more rest (hash_word 35 more hash) (hash_end kind more rest spelled ends)) in
          let word : take k bytes ≡ more = ap (λ (m : ℕ). take m bytes) n ∙ ap (take (length more)) whole ∙ take_at more rest (length more) refl in
          false≢true (sym none ∙ ap (λ (w : List ℕ). is_hash (35 ∷ w)) word ∙ hash)) in
          subst (λ (b : Bool). StandsAt (35 ∷ bytes) (cond b (fronts.Token kinds.Hash (1 + k)) fronts.Bad)) (sym none) here
    ]

-- ---- signs

-- whatever is spelled from this byte on is a sign
abbrev OnlySigns : ℕ → Type 0
OnlySigns first = (kind : TokenKind) (more : List ℕ) → is_spelling kind (first ∷ more) ≡ true → is_sign (first ∷ more) ≡ true

-- a sign at the front of these bytes that isn't of two bytes is of one
one_byte : (first next : ℕ) (bytes more rest : List ℕ) → is_sign (first ∷ next ∷ []) ≡ false → next ∷ bytes ≡ more ++ rest → is_sign (first ∷ more) ≡ true → more ≡ []
one_byte first next bytes [] rest no_pair whole sign = refl
one_byte first next bytes (byte ∷ []) rest no_pair whole sign =
    let same : byte ≡ next = cc in
    absurd (false≢true (sym no_pair ∙ ap (λ (b : ℕ). is_sign (first ∷ b ∷ [])) (sym same) ∙ sign))
one_byte first next bytes (byte ∷ third ∷ more) rest no_pair whole sign = absurd (omega (arith, sign_short (first ∷ byte ∷ third ∷ more) sign))

sign_next : (first : ℕ) (bytes : List ℕ) (n : ℕ) → n ≤ length (first ∷ bytes) → is_sign (take n (first ∷ bytes)) ≡ true → AtMost (first ∷ bytes) n → IsNext kinds.Sign (take n (first ∷ bytes)) (drop n (first ∷ bytes))
sign_next first bytes n within sign most = record { spelled = sign; longest = longest (first ∷ bytes) n within most; ends_word = tt }

-- where each sign is of one byte
mark_stands : (first : ℕ) (bytes : List ℕ) → OnlySigns first → front_of (first ∷ bytes) ≡ mark_front first → ((more rest : List ℕ) → bytes ≡ more ++ rest → is_sign (first ∷ more) ≡ true → more ≡ []) → StandsAt (first ∷ bytes) (mark_front first)
mark_stands first bytes signs_only front one =
    elim (cases_Bool (is_sign (first ∷ []))) [
      | inl sign ↦
          let most : AtMost (first ∷ bytes) 1 = at_most first bytes 1 (λ kind more rest whole spelled. omega (arith, ap length (one more rest whole (signs_only kind more spelled)))) in
          let here : StandsAt (first ∷ bytes) (fronts.Token kinds.Sign 1) = (part 1 (first ∷ bytes) (omega arith) (omega arith), sign_next first bytes 1 (omega arith) sign most, refl) in
          subst (λ (b : Bool). StandsAt (first ∷ bytes) (cond b (fronts.Token kinds.Sign 1) fronts.Bad)) (sym sign) here
      | inr none ↦
          let bad : front_of (first ∷ bytes) ≡ fronts.Bad = front ∙ ap (λ (b : Bool). cond b (fronts.Token kinds.Sign 1) fronts.Bad) none in
          let here : StandsAt (first ∷ bytes) fronts.Bad = stuck first bytes bad (λ kind more rest whole spelled ends.
          let sign = signs_only kind more spelled in
          false≢true (sym none ∙ ap (λ (w : List ℕ). is_sign (first ∷ w)) (sym (one more rest whole sign)) ∙ sign)) in
          subst (λ (b : Bool). StandsAt (first ∷ bytes) (cond b (fronts.Token kinds.Sign 1) fronts.Bad)) (sym none) here
    ]

nothing_more : (more rest : List ℕ) → [] ≡ more ++ rest → more ≡ []
nothing_more [] rest whole = refl
nothing_more (byte ∷ more) rest whole = absurd cc

sign_stands : (first : ℕ) (bytes : List ℕ) → OnlySigns first → front_of (first ∷ bytes) ≡ sign_front first bytes → StandsAt (first ∷ bytes) (sign_front first bytes)
sign_stands first [] signs_only front = mark_stands first [] signs_only front (λ more rest whole sign. nothing_more more rest whole)
sign_stands first (next ∷ bytes) signs_only front =
    elim (cases_Bool (is_sign (first ∷ next ∷ []))) [
      | inl pair ↦
          let most : AtMost (first ∷ next ∷ bytes) 2 = at_most first (next ∷ bytes) 2 (λ kind more rest whole spelled. sign_short (first ∷ more) (signs_only kind more spelled)) in
          let here : StandsAt (first ∷ next ∷ bytes) (fronts.Token kinds.Sign 2) = (part 2 (first ∷ next ∷ bytes) (omega arith) (omega arith), sign_next first (next ∷ bytes) 2 (omega arith) pair most, refl) in
          subst (λ (b : Bool). StandsAt (first ∷ next ∷ bytes) (cond b (fronts.Token kinds.Sign 2) (mark_front first))) (sym pair) here
      | inr none ↦
          let other : front_of (first ∷ next ∷ bytes) ≡ mark_front first = front ∙ ap (λ (b : Bool). cond b (fronts.Token kinds.Sign 2) (mark_front first)) none in
          let here = mark_stands first (next ∷ bytes) signs_only other (λ more rest whole sign. one_byte first next bytes more rest none whole sign) in
          subst (λ (b : Bool). StandsAt (first ∷ next ∷ bytes) (cond b (fronts.Token kinds.Sign 2) (mark_front first))) (sym none) here
    ]

-- ---- comments

no_percent : (kind : TokenKind) (more : List ℕ) → is_spelling kind (37 ∷ more) ≡ true → ⊥
no_percent kind more spelled = false≢true (sym (no_gap kind 37 more spelled))

gap_stands : (bytes : List ℕ) (found : Option ℕ) → close_len bytes ≡ found → StandsAt (37 ∷ 42 ∷ bytes) (gap_of found 2)
unfolding front_of
gap_stands bytes None none =
    let bad : front_of (37 ∷ 42 ∷ bytes) ≡ fronts.Bad = ap (λ (f : Option ℕ). gap_of f 2) none in
    stuck 37 (42 ∷ bytes) bad (λ kind more rest whole spelled ends. no_percent kind more spelled)
gap_stands bytes (Some n) is = block_stands bytes n is

comment_stands : (bytes : List ℕ) → StandsAt (37 ∷ bytes) (comment_front bytes)
comment_stands [] = line_stands [] 0 refl refl
comment_stands (byte ∷ bytes) =
    cond_both (is_star byte) (gap_of (close_len bytes) 2) (fronts.Gap (1 + prefix_len is_in_line (byte ∷ bytes))) (StandsAt (37 ∷ byte ∷ bytes))
    (λ star. subst (λ (b : ℕ). StandsAt (37 ∷ b ∷ bytes) (gap_of (close_len bytes) 2)) (sym (eqb-true byte 42 star)) (gap_stands bytes (close_len bytes) refl))
    (λ other. line_stands (byte ∷ bytes) (prefix_len is_in_line (byte ∷ bytes)) refl other)

-- ---- all together

variables_stand : (first : ℕ) (bytes : List ℕ) (found : Option ℕ) → (is_upper first || is_low_line first) ≡ true → variable_len (first ∷ bytes) ≡ found → StandsAt (first ∷ bytes) (variable_of found (first ∷ bytes))
variables_stand first bytes None begun is = blanks_stand first bytes begun is
variables_stand first bytes (Some n) begun is = variable_stands first bytes n begun is

other_stands : (first : ℕ) (bytes : List ℕ) → is_lower first ≡ false → (is_upper first || is_low_line first) ≡ false → is_digit first ≡ false → front_of (first ∷ bytes) ≡ other_front first bytes → StandsAt (first ∷ bytes) (other_front first bytes)
other_stands first bytes lower wordless digit front =
    let words = or_parts (is_upper first) (is_low_line first) wordless in
    elim (cases_Bool (eqb first 34)) [
      | inl quote ↦
          let here : StandsAt (34 ∷ bytes) (other_front 34 bytes) = str_stands bytes (string_len bytes) refl in
          subst (λ (b : ℕ). StandsAt (b ∷ bytes) (other_front b bytes)) (sym (eqb-true first 34 quote)) here
      | inr no_quote ↦ elim (cases_Bool (eqb first 35)) [
        | inl hash ↦
            let here : StandsAt (35 ∷ bytes) (other_front 35 bytes) = hash_stands bytes in
            subst (λ (b : ℕ). StandsAt (b ∷ bytes) (other_front b bytes)) (sym (eqb-true first 35 hash)) here
        | inr no_hash ↦
            let last : other_front first bytes ≡ sign_front first bytes = rw (no_quote, no_hash) refl in
            let only : OnlySigns first = λ kind more spelled. kind_as kind kinds.Sign (first ∷ more) (kind-other first more lower words.0 digit words.1 no_quote no_hash) spelled in
            subst (StandsAt (first ∷ bytes)) (sym last) (sign_stands first bytes only (front ∙ last))
      ]
    ]

pub front_stands : (bytes : List ℕ) → 0 < length bytes → StandsAt bytes (front_of bytes)
unfolding front_of
front_stands [] some = absurd (omega arith)
front_stands (first ∷ bytes) some =
    cond_both (is_white first) (fronts.Gap 1) _ (StandsAt (first ∷ bytes)) (λ white. white_stands first bytes white) (λ visible.
    cond_both (is_lower first) (fronts.Token kinds.Name (1 + prefix_len is_word_byte bytes)) _ (StandsAt (first ∷ bytes)) (λ lower. name_stands first bytes lower) (λ no_name.
    cond_both (is_upper first || is_low_line first) (variable_of (variable_len (first ∷ bytes)) (first ∷ bytes)) _ (StandsAt (first ∷ bytes)) (λ begun. variables_stand first bytes (variable_len (first ∷ bytes)) begun refl) (λ wordless.
    cond_both (is_digit first) (number_front (first ∷ bytes)) _ (StandsAt (first ∷ bytes)) (λ digit. number_stands first bytes digit) (λ no_digit.
    cond_both (eqb first 37) (comment_front bytes) (other_front first bytes) (StandsAt (first ∷ bytes))
    (λ percent. subst (λ (b : ℕ). StandsAt (b ∷ bytes) (comment_front bytes)) (sym (eqb-true first 37 percent)) (comment_stands bytes))
    (λ other. other_stands first bytes no_name wordless no_digit (rw (visible, no_name, wordless, no_digit, other) refl))))))
