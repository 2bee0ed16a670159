-- Whole numbers one after another.
use Rattle.std.proofs.Common.{◌≡◌, ℕ, zero, suc, ◌+◌, [], ◌∷◌, map, refl, sym, ap, subst, ◌∙◌, arith}
use Rattle.std.specs.Prelude.{ℤ, pos, negsuc, ◌+ℤ◌, ◌-ℤ◌, ◌≤ℤ◌, ◌<ℤ◌}
use Rattle.std.specs.List.{range_with_len}
use Rattle.std.proofs.lemmas.Int.{ints}
use Rattle.tel_term.specs.declared.terms.Value.{Value}
use Rattle.tel_term.specs.declared.terms.Value.TheVariants as values
use Rattle.fact_rows.specs.declared.values.Values.{Values}
use Rattle.fact_rows.specs.declared.values.Values.TheVariants as kinds
use Rattle.fact_rows.specs.Walking.{behind}
use Rattle.tel_semantics.specs.Tables.{numbers_from, numbers_between, count_of}

shifted : (low : ℤ) (start count : ℕ) → map (λ (k : ℕ). values.Num (low +ℤ pos k)) (range_with_len (start + 1) count) ≡ map (λ (k : ℕ). values.Num ((low +ℤ pos 1) +ℤ pos k)) (range_with_len start count)
shifted low start zero = refl
shifted low start (suc count) =
    let here : low +ℤ pos (start + 1) ≡ (low +ℤ pos 1) +ℤ pos start = omega (arith, ints) in
    let rest = shifted low (start + 1) count in
    λ i. values.Num (here i) ∷ rest i

first_number : (low : ℤ) (count : ℕ) → numbers_from low (suc count) ≡ values.Num low ∷ numbers_from (low +ℤ pos 1) count
first_number low count =
    let here : low +ℤ pos 0 ≡ low = omega (arith, ints) in
    let rest = shifted low 0 count in
    λ i. values.Num (here i) ∷ rest i

count_more : (n : ℕ) → count_of (pos n) ≡ suc n
count_more n = omega arith

-- a range that has a number
pub between-more : (low high : ℤ) → low ≤ℤ high → numbers_between low high ≡ values.Num low ∷ numbers_between (low +ℤ pos 1) high
between-more low high le = by (high -ℤ low) refl
  where
    by : (d : ℤ) → high -ℤ low ≡ d → numbers_between low high ≡ values.Num low ∷ numbers_between (low +ℤ pos 1) high
    by (pos zero) is =
        let next : high -ℤ (low +ℤ pos 1) ≡ negsuc 0 = omega (arith, ints) in
        ap (λ (e : ℤ). numbers_from low (count_of e)) is ∙ first_number low 0 ∙ sym (ap (λ (e : ℤ). values.Num low ∷ numbers_from (low +ℤ pos 1) (count_of e)) next)
    by (pos (suc n)) is =
        let next : high -ℤ (low +ℤ pos 1) ≡ pos n = omega (arith, ints) in
        ap (λ (e : ℤ). numbers_from low (count_of e)) is
        ∙ ap (numbers_from low) (count_more (suc n))
        ∙ first_number low (suc n)
        ∙ ap (λ (m : ℕ). values.Num low ∷ numbers_from (low +ℤ pos 1) m) (sym (count_more n))
        ∙ sym (ap (λ (e : ℤ). values.Num low ∷ numbers_from (low +ℤ pos 1) (count_of e)) next)
    by (negsuc n) is = absurd (omega (arith, ints))

-- a range that has none
pub between-none : (low high : ℤ) → high <ℤ low → numbers_between low high ≡ []
between-none low high less = by (high -ℤ low) refl
  where
    by : (d : ℤ) → high -ℤ low ≡ d → numbers_between low high ≡ []
    by (pos n) is = absurd (omega (arith, ints))
    by (negsuc n) is = ap (λ (e : ℤ). numbers_from low (count_of e)) is

-- the value behind one of a range
pub next-is : (all : Values) (now : Value) (low high n m : ℤ) → all ≡ kinds.Range low high → now ≡ values.Num n → m ≡ n +ℤ pos 1 → m ≤ℤ high → behind all now ≡ values.Num m ∷ behind all (values.Num m)
next-is all now low high n m all_is now_is m_is le =
    subst (λ (a : Values). behind a now ≡ values.Num m ∷ behind a (values.Num m)) (sym all_is)
    (subst (λ (v : Value). behind (kinds.Range low high) v ≡ values.Num m ∷ behind (kinds.Range low high) (values.Num m)) (sym now_is)
    (ap (λ (k : ℤ). numbers_between k high) (sym m_is) ∙ between-more m high le))
