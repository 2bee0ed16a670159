-- Lemmas on the bounded quantifiers `each_below` and `some_below`.
use Rattle.std.proofs.Common.{◌≡◌, ℕ, ◌<◌, zero, suc, Bool, true, false, not, ◌||◌, refl, sym, subst, ◌⊎◌, inl, inr, ⊎_elim, arith}
use Rattle.std.proofs.lemmas.Bool.{and_cases, and_parts, and_from, and_left, and_right, or_cases, or_left, or_right, cases_order}
use Rattle.tel_semantics.specs.Traces.{each_below, some_below}

-- a number up to n is n or below it
pub below_suc : (n k : ℕ) → k < suc n → (k ≡ n) ⊎ (k < n)
below_suc n k h = ⊎_elim (λ e. inl e) (λ o. ⊎_elim (λ l. inr l) (λ g. absurd (omega arith)) o) (cases_order k n)

pub each_below-at : (n : ℕ) (p : ℕ → Bool) → each_below n p ≡ true → (k : ℕ) → k < n → p k ≡ true
each_below-at zero p h k l = absurd (omega arith)
each_below-at (suc n) p h k l =
    let both = and_parts (p n) (each_below n p) h in
    ⊎_elim (λ e. subst (λ (i : ℕ). p i ≡ true) (sym e) both.0) (λ b. each_below-at n p both.1 k b) (below_suc n k l)

pub each_below-all : (n : ℕ) (p : ℕ → Bool) → ((k : ℕ) → k < n → p k ≡ true) → each_below n p ≡ true
each_below-all zero p h = refl
each_below-all (suc n) p h =
    and_from (p n) (each_below n p) (h n (omega arith)) (each_below-all n p (λ k l. h k (omega arith)))

pub each_below-false : (n : ℕ) (p : ℕ → Bool) (k : ℕ) → k < n → p k ≡ false → each_below n p ≡ false
each_below-false zero p k l h = absurd (omega arith)
each_below-false (suc n) p k l h =
    ⊎_elim (λ e. and_left (p n) (each_below n p) (subst (λ (i : ℕ). p i ≡ false) e h)) (λ b. and_right (p n) (each_below n p) (each_below-false n p k b h)) (below_suc n k l)

pub some_below-at : (n : ℕ) (p : ℕ → Bool) → some_below n p ≡ true → (k : ℕ) × (k < n) × (p k ≡ true)
some_below-at zero p h = absurd (cc)
some_below-at (suc n) p h =
    ⊎_elim (λ here. (n, omega arith, here)) (λ more. let w = some_below-at n p more in (w.0, omega arith, w.2)) (or_cases (p n) (some_below n p) h)

pub some_below-from : (n : ℕ) (p : ℕ → Bool) (k : ℕ) → k < n → p k ≡ true → some_below n p ≡ true
some_below-from zero p k l h = absurd (omega arith)
some_below-from (suc n) p k l h =
    ⊎_elim (λ e. or_left (p n) (some_below n p) (subst (λ (i : ℕ). p i ≡ true) e h)) (λ b. or_right (p n) (some_below n p) (some_below-from n p k b h)) (below_suc n k l)

-- two tests that agree below n give the same answer
pub each_below-same : (n : ℕ) (p q : ℕ → Bool) → ((k : ℕ) → k < n → p k ≡ q k) → each_below n p ≡ each_below n q
each_below-same zero p q h = refl
each_below-same (suc n) p q h =
    let here = h n (omega arith) in
    let more = each_below-same n p q (λ k l. h k (omega arith)) in
    cc

pub some_below-same : (n : ℕ) (p q : ℕ → Bool) → ((k : ℕ) → k < n → p k ≡ q k) → some_below n p ≡ some_below n q
some_below-same zero p q h = refl
some_below-same (suc n) p q h =
    let here = h n (omega arith) in
    let more = some_below-same n p q (λ k l. h k (omega arith)) in
    cc

-- a test that passes wherever another does
pub each_below-weaker : (n : ℕ) (p q : ℕ → Bool) → ((k : ℕ) → k < n → p k ≡ true → q k ≡ true) → each_below n p ≡ true → each_below n q ≡ true
each_below-weaker n p q h a = each_below-all n q (λ k l. h k l (each_below-at n p a k l))

pub some_below-weaker : (n : ℕ) (p q : ℕ → Bool) → ((k : ℕ) → k < n → p k ≡ true → q k ≡ true) → some_below n p ≡ true → some_below n q ≡ true
some_below-weaker n p q h a = let w = some_below-at n p a in some_below-from n q w.0 w.1 (h w.0 w.1 w.2)

-- what holds unless something that holds is false
pub unless-false : (x y : Bool) → x ≡ true → y ≡ false → (not x || y) ≡ false
unless-false x y p q = cc

-- where not each passes, some fails
pub each_below-fails : (n : ℕ) (p : ℕ → Bool) → each_below n p ≡ false → (k : ℕ) × (k < n) × (p k ≡ false)
each_below-fails zero p h = absurd (cc)
each_below-fails (suc n) p h =
    ⊎_elim (λ here. (n, omega arith, here)) (λ more. let w = each_below-fails n p more in (w.0, omega arith, w.2)) (and_cases (p n) (each_below n p) h)
