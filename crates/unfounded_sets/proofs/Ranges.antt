-- Numbers in a row.
use Rattle.std.proofs.Common.{◌≡◌, ℕ, zero, suc, ◌+◌, ◌-◌, ◌<◌, ◌≤◌, Bool, true, false, ◌&&◌, List, [], ◌∷◌, ◌++◌, map, append_assoc, refl, sym, ap, inl, inr, ◌∙◌, ⊎_elim, arith}
use Rattle.std.specs.Prelude.{Some, nat_lt}
use Rattle.std.specs.List.{find, filter, list_all, range_with_len}
use Rattle.std.proofs.lemmas.Bool.{and_from, cases_Bool, cases_lt, cond-true, cond-false, lt-ltb}
use Rattle.tel_base.specs.Members.{In}
use Rattle.unfounded_sets.specs.LoopClauses.{rises}

range_split : (n k : ℕ) → k < n → range_with_len k (n - k) ≡ (k ∷ range_with_len (k + 1) (n - (k + 1)))
range_split n k l =
    let less : n - k ≡ suc (n - (k + 1)) = omega (arith, l) in
    ap (range_with_len k) less

pub left_false : (a b : Bool) → a ≡ false → (a && b) ≡ false
left_false a b h = ap (λ (x : Bool). x && b) h

pub right_false : (a b : Bool) → b ≡ false → (a && b) ≡ false
right_false true b h = h
right_false false b h = refl

pub find_on : (p : ℕ → Bool) (n k : ℕ) → k < n → p k ≡ false → find p (range_with_len (k + 1) (n - (k + 1))) ≡ find p (range_with_len k (n - k))
find_on p n k l h = sym (ap (find p) (range_split n k l) ∙ cond-false (p k) (Some k) (find p (range_with_len (k + 1) (n - (k + 1)))) h)

pub kept_on : (p : ℕ → Bool) (n k : ℕ) → k < n → p k ≡ false → filter p (range_with_len k (n - k)) ≡ filter p (range_with_len (k + 1) (n - (k + 1)))
kept_on p n k l h = ap (filter p) (range_split n k l) ∙ cond-false (p k) (k ∷ filter p (range_with_len (k + 1) (n - (k + 1)))) (filter p (range_with_len (k + 1) (n - (k + 1)))) h

pub kept_now : (p : ℕ → Bool) (n k : ℕ) → k < n → p k ≡ true → filter p (range_with_len k (n - k)) ≡ (k ∷ filter p (range_with_len (k + 1) (n - (k + 1))))
kept_now p n k l h = ap (filter p) (range_split n k l) ∙ cond-true (p k) (k ∷ filter p (range_with_len (k + 1) (n - (k + 1)))) (filter p (range_with_len (k + 1) (n - (k + 1)))) h

pub In-range : (a n v : ℕ) → a ≤ v → v < a + n → In v (range_with_len a n)
In-range a zero v low high = absurd (omega (arith, low, high))
In-range a (suc n) v low high =
    ⊎_elim (λ (l : a < v). inr (In-range (a + 1) n v (omega (arith, l)) (omega (arith, high)))) (λ (l : v ≤ a). let same : a ≡ v = omega (arith, l, low) in inl same) (cases_lt a v)

-- what is kept of a range is above what is before it
above : (p : ℕ → Bool) (a n v : ℕ) → v < a → list_all (λ u. nat_lt v u) (filter p (range_with_len a n)) ≡ true
above p a zero v l = refl
above p a (suc n) v l =
    let rest = above p (a + 1) n v (omega (arith, l)) in
    ⊎_elim (λ (t : p a ≡ true). ap (list_all (λ u. nat_lt v u)) (cond-true (p a) (a ∷ filter p (range_with_len (a + 1) n)) (filter p (range_with_len (a + 1) n)) t) ∙ and_from (nat_lt v a) (list_all (λ u. nat_lt v u) (filter p (range_with_len (a + 1) n))) (lt-ltb v a l) rest) (λ (f : p a ≡ false). ap (list_all (λ u. nat_lt v u)) (cond-false (p a) (a ∷ filter p (range_with_len (a + 1) n)) (filter p (range_with_len (a + 1) n)) f) ∙ rest) (cases_Bool (p a))

pub kept_rises : (p : ℕ → Bool) (a n : ℕ) → rises (filter p (range_with_len a n)) ≡ true
kept_rises p a zero = refl
kept_rises p a (suc n) =
    let rest = kept_rises p (a + 1) n in
    ⊎_elim (λ (t : p a ≡ true). ap rises (cond-true (p a) (a ∷ filter p (range_with_len (a + 1) n)) (filter p (range_with_len (a + 1) n)) t) ∙ and_from (list_all (λ u. nat_lt a u) (filter p (range_with_len (a + 1) n))) (rises (filter p (range_with_len (a + 1) n))) (above p (a + 1) n a (omega arith)) rest) (λ (f : p a ≡ false). ap rises (cond-false (p a) (a ∷ filter p (range_with_len (a + 1) n)) (filter p (range_with_len (a + 1) n)) f) ∙ rest) (cases_Bool (p a))

-- ---- a loop that keeps what passes

pub pass_by : (p : ℕ → Bool) (n k : ℕ) (old new all : List ℕ) → k < n → p k ≡ false → new ≡ old → (old ++ filter p (range_with_len k (n - k))) ≡ all → (new ++ filter p (range_with_len (k + 1) (n - (k + 1)))) ≡ all
pass_by p n k old new all l h is so_far =
    ap (λ (xs : List ℕ). xs ++ filter p (range_with_len (k + 1) (n - (k + 1)))) is ∙ ap (λ (xs : List ℕ). old ++ xs) (sym (kept_on p n k l h)) ∙ so_far

pub keep_one : (p : ℕ → Bool) (n k : ℕ) (old new all : List ℕ) → k < n → p k ≡ true → new ≡ (old ++ (k ∷ [])) → (old ++ filter p (range_with_len k (n - k))) ≡ all → (new ++ filter p (range_with_len (k + 1) (n - (k + 1)))) ≡ all
keep_one p n k old new all l h is so_far =
    ap (λ (xs : List ℕ). xs ++ filter p (range_with_len (k + 1) (n - (k + 1)))) is ∙ append_assoc old (k ∷ []) (filter p (range_with_len (k + 1) (n - (k + 1)))) ∙ ap (λ (xs : List ℕ). old ++ xs) (sym (kept_now p n k l h)) ∙ so_far

pub pass_by_as : {X : Type 0} (f : ℕ → X) (p : ℕ → Bool) (n k : ℕ) (old new all : List X) → k < n → p k ≡ false → new ≡ old → (old ++ map f (filter p (range_with_len k (n - k)))) ≡ all → (new ++ map f (filter p (range_with_len (k + 1) (n - (k + 1))))) ≡ all
pass_by_as {X} f p n k old new all l h is so_far =
    ap (λ (xs : List X). xs ++ map f (filter p (range_with_len (k + 1) (n - (k + 1))))) is ∙ ap (λ (xs : List ℕ). old ++ map f xs) (sym (kept_on p n k l h)) ∙ so_far

pub keep_one_as : {X : Type 0} (f : ℕ → X) (p : ℕ → Bool) (n k : ℕ) (old new all : List X) → k < n → p k ≡ true → new ≡ (old ++ (f k ∷ [])) → (old ++ map f (filter p (range_with_len k (n - k)))) ≡ all → (new ++ map f (filter p (range_with_len (k + 1) (n - (k + 1))))) ≡ all
keep_one_as {X} f p n k old new all l h is so_far =
    ap (λ (xs : List X). xs ++ map f (filter p (range_with_len (k + 1) (n - (k + 1))))) is ∙ append_assoc old (f k ∷ []) (map f (filter p (range_with_len (k + 1) (n - (k + 1))))) ∙ ap (λ (xs : List ℕ). old ++ map f xs) (sym (kept_now p n k l h)) ∙ so_far
