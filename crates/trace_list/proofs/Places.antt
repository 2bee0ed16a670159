-- The numbers of a range that pass a test, from a place on.
use Rattle.std.proofs.Common.{◌≡◌, ℕ, suc, ◌+◌, ◌-◌, ◌<◌, ◌≤◌, Bool, true, false, cond, List, [], ◌∷◌, ◌++◌, refl, ap, ◌∙◌, arith}
use Rattle.std.specs.List.{filter, range_with_len}

abbrev pub passing : (ℕ → Bool) → ℕ → ℕ → List ℕ
passing p n k = filter p (range_with_len k (n - k))

one_first : (p : ℕ → Bool) (k : ℕ) (xs : List ℕ) → filter p (k ∷ xs) ≡ cond (p k) (k ∷ []) [] ++ filter p xs
one_first p k xs = elim (p k) as (λ (b : Bool). cond b (k ∷ filter p xs) (filter p xs) ≡ cond b (k ∷ []) [] ++ filter p xs) [ true ↦ refl | false ↦ refl ]

pub passing_next : (p : ℕ → Bool) (n k : ℕ) → k < n → passing p n k ≡ cond (p k) (k ∷ []) [] ++ passing p n (k + 1)
passing_next p n k l =
    let less : n - k ≡ suc (n - (k + 1)) = omega (arith, l) in
    ap (λ (m : ℕ). filter p (range_with_len k m)) less ∙ one_first p k (range_with_len (k + 1) (n - (k + 1)))

pub passing_end : (p : ℕ → Bool) (n k : ℕ) → n ≤ k → passing p n k ≡ []
passing_end p n k l =
    let none : n - k ≡ 0 = omega (arith, l) in
    ap (λ (m : ℕ). filter p (range_with_len k m)) none

pub passing_all : (p : ℕ → Bool) (n : ℕ) → passing p n 0 ≡ filter p (range_with_len 0 n)
passing_all p n =
    let all : n - 0 ≡ n = omega arith in
    ap (λ (m : ℕ). filter p (range_with_len 0 m)) all
