-- What is found at a front is what the definitions say.
use Rattle.std.proofs.Common.{◌≡◌, ℕ, zero, suc, ◌+◌, ◌<◌, ◌≤◌, Bool, true, false, cond, not, eqb, ◌&&◌, ◌||◌, List, [], ◌∷◌, ◌++◌, length, take, drop, Option, Some, None, refl, sym, ap, ◌∙◌, append_assoc, arith, inl, inr}
use Rattle.std.specs.Prelude.{◌⊎◌}
use Rattle.std.specs.List.{list_all, prefix_len}
use Rattle.std.proofs.lemmas.Bool.{cases_Bool, eqb-true, and_parts, and_from, or_parts, not-true, false≢true}
use Rattle.std.proofs.lemmas.List.{take-append-drop}
use Rattle.std.proofs.lemmas.Option.{same_Some}
use Rattle.tel_lex.specs.Spelling.{is_upper, is_word_byte, is_variable, is_escape, is_string_rest}
use Rattle.tel_lex.specs.Tokens.{begins, is_star, is_percent, has_close}
use Rattle.tel_lex.specs.Reading.{behind, capital_len, variable_len, string_len, close_len}
use Rattle.tel_lex.proofs.Runs.{all-prefix, prefix_within, prefix_most}

-- what was found behind so many bytes
pub behind_some : (n m : ℕ) (found : Option ℕ) → behind n found ≡ Some m → (k : ℕ) × (found ≡ Some k) × (m ≡ n + k)
behind_some n m None is = absurd cc
behind_some n m (Some k) is = (k, refl, sym (same_Some _ _ is))

-- a choice between something and nothing
pub chosen : {X : Type 0} (b : Bool) (first other : Option X) (x : X) → cond b first other ≡ Some x → ((b ≡ true) × (first ≡ Some x)) ⊎ ((b ≡ false) × (other ≡ Some x))
chosen true first other x e = inl (refl, e)
chosen false first other x e = inr (refl, e)

-- ---- variables

pub record IsFound (spelled : List ℕ → Bool) (bytes : List ℕ) (n : ℕ) : Type 0 where
  pub some : 0 < n
  pub within : n ≤ length bytes
  pub is : spelled (take n bytes) ≡ true

pub variable_found : (bytes : List ℕ) (n : ℕ) → variable_len bytes ≡ Some n → IsFound is_variable bytes n
variable_found [] n is = absurd cc
variable_found (byte ∷ bytes) n is =
    elim (chosen (eqb byte 95) (behind 1 (variable_len bytes)) (capital_len (byte ∷ bytes)) n is) [
      | inl at ↦
          let p = behind_some 1 n (variable_len bytes) at.1 in
          let h = variable_found bytes p.0 p.1 in
          let more : n ≡ suc p.0 = omega (arith, p.2) in
          let whole : is_variable (take (suc p.0) (byte ∷ bytes)) ≡ true = rw at.0 h.is in
          record { some = omega arith; within = omega (arith, h.within); is = rw more whole }
      | inr past ↦ elim (chosen (is_upper byte) (Some (1 + prefix_len is_word_byte bytes)) None n past.1) [
        | inl at ↦
            let k = prefix_len is_word_byte bytes in
            let count : 1 + k ≡ n = same_Some _ _ at.1 in
            let more : n ≡ suc k = omega (arith, count) in
            let whole : is_variable (take (suc k) (byte ∷ bytes)) ≡ true = rw past.0 (and_from (is_upper byte) (list_all is_word_byte (take k bytes)) at.0 (all-prefix is_word_byte bytes)) in
            record { some = omega (arith, count); within = omega (arith, count, prefix_within is_word_byte bytes); is = rw more whole }
        | inr none ↦ absurd (let e = none.1 in cc)
      ]
    ]

-- a variable at the front is no longer than the one that is found
pub variable_most : (front rest : List ℕ) → is_variable front ≡ true → (n : ℕ) × (variable_len (front ++ rest) ≡ Some n) × (length front ≤ n)
variable_most [] rest spelled = absurd (false≢true spelled)
variable_most (byte ∷ front) rest spelled =
    elim (cases_Bool (eqb byte 95)) [
      | inl low ↦
          let more : is_variable front ≡ true = rw low at spelled in
          let h = variable_most front rest more in
          (1 + h.0, rw low (ap (behind 1) h.1), omega (arith, h.2))
      | inr other ↦
          let upper : (is_upper byte && list_all is_word_byte front) ≡ true = rw other at spelled in
          let p = and_parts (is_upper byte) (list_all is_word_byte front) upper in
          (1 + prefix_len is_word_byte (front ++ rest), rw (other, p.0) refl, omega (arith, prefix_most is_word_byte front rest p.1))
    ]

-- ---- strings

pub string_found : (bytes : List ℕ) (n : ℕ) → string_len bytes ≡ Some n → IsFound is_string_rest bytes n
string_found [] n is = absurd cc
string_found (byte ∷ []) n is =
    elim (chosen (eqb byte 34) (Some 1) None n is) [
      | inl at ↦
          let one : n ≡ 1 = sym (same_Some _ _ at.1) in
          record { some = omega arith; within = omega arith; is = rw one at.0 }
      | inr none ↦ absurd (let e = none.1 in cc)
    ]
string_found (byte ∷ next ∷ more) n is =
    elim (chosen (eqb byte 34) (Some 1) _ n is) [
      | inl at ↦
          let one : n ≡ 1 = sym (same_Some _ _ at.1) in
          record { some = omega arith; within = omega arith; is = rw one at.0 }
      | inr past_quote ↦ elim (chosen (eqb byte 10) None _ n past_quote.1) [
        | inl none ↦ absurd (let e = none.1 in cc)
        | inr past_line ↦ elim (chosen (eqb byte 92) (cond (is_escape next) (behind 2 (string_len more)) None) (behind 1 (string_len (next ∷ more))) n past_line.1) [
          | inl slash ↦ elim (chosen (is_escape next) (behind 2 (string_len more)) None n slash.1) [
            | inl at ↦
                let p = behind_some 2 n (string_len more) at.1 in
                let h = string_found more p.0 p.1 in
                let count : n ≡ suc (suc p.0) = omega (arith, p.2) in
                let whole : is_string_rest (take (suc (suc p.0)) (byte ∷ next ∷ more)) ≡ true = rw slash.0 (and_from (is_escape next) (is_string_rest (take p.0 more)) at.0 h.is) in
                record { some = omega arith; within = omega (arith, h.within); is = rw count whole }
            | inr none ↦ absurd (let e = none.1 in cc)
          ]
          | inr plain ↦
              let p = behind_some 1 n (string_len (next ∷ more)) plain.1 in
              let h = string_found (next ∷ more) p.0 p.1 in
              let count : n ≡ suc p.0 = omega (arith, p.2) in
              let whole : is_string_rest (take (suc p.0) (byte ∷ next ∷ more)) ≡ true = string_on byte next more p.0 h.some past_quote.0 past_line.0 plain.0 h.is in
              record { some = omega arith; within = omega (arith, h.within); is = rw count whole }
        ]
      ]
    ]
  where
    string_on : (byte next : ℕ) (more : List ℕ) (n : ℕ) → 0 < n → eqb byte 34 ≡ false → eqb byte 10 ≡ false → eqb byte 92 ≡ false → is_string_rest (take n (next ∷ more)) ≡ true → is_string_rest (take (suc n) (byte ∷ next ∷ more)) ≡ true
    string_on byte next more zero some quote line slash h = absurd (omega arith)
    string_on byte next more (suc n) some quote line slash h = rw (slash, quote, line) h

-- a string at the front is the one that is found
pub string_exact : (front rest : List ℕ) → is_string_rest front ≡ true → string_len (front ++ rest) ≡ Some (length front)
string_exact [] rest spelled = absurd (false≢true spelled)
string_exact (byte ∷ []) [] spelled = rw spelled refl
string_exact (byte ∷ []) (next ∷ rest) spelled = rw spelled refl
string_exact (byte ∷ next ∷ more) rest spelled =
    elim (cases_Bool (eqb byte 92)) [
      | inl slash ↦
          let both : (is_escape next && is_string_rest more) ≡ true = rw slash at spelled in
          let p = and_parts (is_escape next) (is_string_rest more) both in
          let whole : string_len (byte ∷ next ∷ (more ++ rest)) ≡ behind 2 (string_len (more ++ rest)) = rw (eqb-true byte 92 slash, p.0) refl in
          whole ∙ ap (behind 2) (string_exact more rest p.1) ∙ ap Some (omega arith)
      | inr other ↦
          let both : (not (eqb byte 34 || eqb byte 10) && is_string_rest (next ∷ more)) ≡ true = rw other at spelled in
          let p = and_parts (not (eqb byte 34 || eqb byte 10)) (is_string_rest (next ∷ more)) both in
          let q = or_parts (eqb byte 34) (eqb byte 10) (not-true _ p.0) in
          let whole : string_len (byte ∷ next ∷ (more ++ rest)) ≡ behind 1 (string_len (next ∷ (more ++ rest))) = rw (q.0, q.1, other) refl in
          whole ∙ ap (behind 1) (string_exact (next ∷ more) rest p.1) ∙ ap Some (omega arith)
    ]

-- ---- block comments

begins-same : (test : ℕ → Bool) (front : List ℕ) (byte : ℕ) (a b : List ℕ) → begins test (front ++ byte ∷ a) ≡ begins test (front ++ byte ∷ b)
begins-same test [] byte a b = refl
begins-same test (first ∷ front) byte a b = refl

pub record IsClosed (bytes : List ℕ) (n : ℕ) : Type 0 where
  pub text : List ℕ
  pub first : has_close (text ++ 42 ∷ []) ≡ false
  pub whole : take n bytes ≡ text ++ 42 ∷ 37 ∷ []
  pub within : n ≤ length bytes

closed_here : (byte : ℕ) (bytes : List ℕ) (n : ℕ) → (is_star byte && begins is_percent bytes) ≡ true → n ≡ 2 → IsClosed (byte ∷ bytes) n
closed_here byte [] n here two = absurd (false≢true (and_parts (is_star byte) false here).1)
closed_here byte (next ∷ bytes) n here two =
    let p = and_parts (is_star byte) (is_percent next) here in
    let star : byte ≡ 42 = eqb-true byte 42 p.0 in
    let percent : next ≡ 37 = eqb-true next 37 p.1 in
    let whole : take n (byte ∷ next ∷ bytes) ≡ byte ∷ next ∷ [] = rw two refl in
    record { text = []; first = refl; whole = whole ∙ ap (λ (b : ℕ). b ∷ next ∷ []) star ∙ ap (λ (b : ℕ). 42 ∷ b ∷ []) percent; within = omega arith }

pub close_found : (bytes : List ℕ) (n : ℕ) → close_len bytes ≡ Some n → IsClosed bytes n
close_found [] n is = absurd cc
close_found (byte ∷ bytes) n is =
    elim (chosen (is_star byte && begins is_percent bytes) (Some 2) (behind 1 (close_len bytes)) n is) [
      | inl at ↦ closed_here byte bytes n at.0 (sym (same_Some _ _ at.1))
      | inr past ↦
          let p = behind_some 1 n (close_len bytes) past.1 in
          let h = close_found bytes p.0 p.1 in
          let count : n ≡ suc p.0 = omega (arith, p.2) in
          let same : begins is_percent bytes ≡ begins is_percent (h.text ++ 42 ∷ []) =
          ap (begins is_percent) (sym (take-append-drop p.0 bytes) ∙ ap (λ (t : List ℕ). t ++ drop p.0 bytes) h.whole ∙ append_assoc h.text (42 ∷ 37 ∷ []) (drop p.0 bytes))
          ∙ begins-same is_percent h.text 42 (37 ∷ drop p.0 bytes) [] in
          let here : (is_star byte && begins is_percent (h.text ++ 42 ∷ [])) ≡ false = ap (λ (b : Bool). is_star byte && b) (sym same) ∙ past.0 in
          record {
            text = byte ∷ h.text;
            first = rw here h.first;
            whole = ap (λ (m : ℕ). take m (byte ∷ bytes)) count ∙ ap (λ (t : List ℕ). byte ∷ t) h.whole;
            within = omega (arith, h.within);
          }
    ]

-- a block comment at the front is the one that is found
pub close_exact : (text rest : List ℕ) → has_close (text ++ 42 ∷ []) ≡ false → close_len ((text ++ 42 ∷ 37 ∷ []) ++ rest) ≡ Some (length text + 2)
close_exact [] rest open_text = refl
close_exact (byte ∷ text) rest open_text =
    let p = or_parts (is_star byte && begins is_percent (text ++ 42 ∷ [])) (has_close (text ++ 42 ∷ [])) open_text in
    let same : begins is_percent ((text ++ 42 ∷ 37 ∷ []) ++ rest) ≡ begins is_percent (text ++ 42 ∷ []) =
    ap (begins is_percent) (append_assoc text (42 ∷ 37 ∷ []) rest) ∙ begins-same is_percent text 42 (37 ∷ rest) [] in
    let here : (is_star byte && begins is_percent ((text ++ 42 ∷ 37 ∷ []) ++ rest)) ≡ false = ap (λ (b : Bool). is_star byte && b) same ∙ p.0 in
    let on : close_len (byte ∷ ((text ++ 42 ∷ 37 ∷ []) ++ rest)) ≡ behind 1 (close_len ((text ++ 42 ∷ 37 ∷ []) ++ rest)) = rw here refl in
    on ∙ ap (behind 1) (close_exact text rest p.1) ∙ ap Some (omega arith)
