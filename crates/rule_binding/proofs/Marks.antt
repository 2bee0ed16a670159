-- Tests of lists, and marks.
use Rattle.std.proofs.Common.{◌≡◌, ◌⊎◌, ℕ, zero, suc, ◌<◌, ◌≤◌, Bool, true, false, List, [], ◌∷◌, length, get_or, take, refl, sym, ap, subst, true≢false, inl, inr, arith, IsTrue}
use Rattle.std.specs.Prelude.{nat_lt, slice_set}
use Rattle.std.specs.List.{list_all}
use Rattle.std.proofs.lemmas.Bool.{and_parts, and_from, ltb-true, lt-ltb}
use Rattle.rule_binding.specs.declared.rules.BindingRule.{BindingRule}
use Rattle.rule_binding.specs.Closure.{marked}
use Rattle.rule_binding.specs.Waiting.{is_below, open_count}

-- ---- tests of lists

-- a test that holds wherever another one does
pub all_more : {A : Type 0} (p q : A → Bool) → ((x : A) → IsTrue (p x) → IsTrue (q x)) → (xs : List A) → IsTrue (list_all p xs) → IsTrue (list_all q xs)
all_more p q more [] h = refl
all_more p q more (x ∷ xs) h =
    let both = and_parts (p x) (list_all p xs) h in
    and_from (q x) (list_all q xs) (more x both.0) (all_more p q more xs both.1)

-- one element more
pub all_next : {A : Type 0} (p q : A → Bool) → ((x : A) → IsTrue (p x) → IsTrue (q x)) → (xs : List A) (i : ℕ) (x d : A) → IsTrue (list_all p (take i xs)) → i < length xs → get_or xs i d ≡ x → IsTrue (q x) → IsTrue (list_all q (take (suc i) xs))
all_next p q more [] i x d h within is last = absurd (omega (arith, within))
all_next p q more (y ∷ xs) zero x d h within is last = and_from (q y) true (subst (λ z. IsTrue (q z)) (sym is) last) refl
all_next p q more (y ∷ xs) (suc i) x d h within is last =
    let both = and_parts (p y) (list_all p (take i xs)) h in
    and_from (q y) (list_all q (take (suc i) xs)) (more y both.0) (all_next p q more xs i x d both.1 (omega (arith, within)) is last)

-- a bound that grows
pub lt_more : (old new : ℕ) → old ≤ new → (v : ℕ) → IsTrue (nat_lt v old) → IsTrue (nat_lt v new)
lt_more old new more v h =
    let below = ltb-true v old h in
    lt-ltb v new (omega (arith, below, more))

pub below_more : (old new : ℕ) → old ≤ new → (rule : BindingRule) → IsTrue (is_below old rule) → IsTrue (is_below new rule)
below_more old new more rule h =
    let both = and_parts (nat_lt rule.var old) (list_all (λ (v : ℕ). nat_lt v old) rule.needs) h in
    and_from (nat_lt rule.var new) (list_all (λ (v : ℕ). nat_lt v new) rule.needs) (lt_more old new more rule.var both.0)
    (all_more (λ (v : ℕ). nat_lt v old) (λ (v : ℕ). nat_lt v new) (lt_more old new more) rule.needs both.1)

-- ---- marks

-- a variable with a mark is one of them
pub marked-below : (marks : List Bool) (v : ℕ) → IsTrue (marked marks v) → v < length marks
marked-below [] v h = absurd (true≢false (sym h))
marked-below (m ∷ marks) zero h = omega arith
marked-below (m ∷ marks) (suc v) h = let less = marked-below marks v h in omega (arith, less)

-- a mark more: the variable has it
pub marked-set : (marks : List Bool) (v : ℕ) → v < length marks → IsTrue (marked (slice_set marks v true) v)
marked-set [] v l = absurd (omega (arith, l))
marked-set (m ∷ marks) zero l = refl
marked-set (m ∷ marks) (suc v) l = marked-set marks v (omega (arith, l))

-- and no other one
pub marked-of_set : (marks : List Bool) (v u : ℕ) → IsTrue (marked (slice_set marks v true) u) → (u ≡ v) ⊎ IsTrue (marked marks u)
marked-of_set [] v u h = absurd (true≢false (sym h))
marked-of_set (m ∷ marks) zero zero h = inl refl
marked-of_set (m ∷ marks) zero (suc u) h = inr h
marked-of_set (m ∷ marks) (suc v) zero h = inr h
marked-of_set (m ∷ marks) (suc v) (suc u) h =
    elim (marked-of_set marks v u h) [
      | inl e ↦ inl (ap suc e)
      | inr e ↦ inr e
    ]

-- those that had one keep it
pub marked-kept : (marks : List Bool) (v u : ℕ) → IsTrue (marked marks u) → IsTrue (marked (slice_set marks v true) u)
marked-kept [] v u h = absurd (true≢false (sym h))
marked-kept (m ∷ marks) zero zero h = refl
marked-kept (m ∷ marks) zero (suc u) h = h
marked-kept (m ∷ marks) (suc v) zero h = h
marked-kept (m ∷ marks) (suc v) (suc u) h = marked-kept marks v u h

pub open_count-set : (marks : List Bool) (v : ℕ) → v < length marks → marked marks v ≡ false → open_count marks ≡ suc (open_count (slice_set marks v true))
open_count-set [] v l h = absurd (omega (arith, l))
open_count-set (true ∷ marks) zero l h = absurd (true≢false h)
open_count-set (false ∷ marks) zero l h = refl
open_count-set (true ∷ marks) (suc v) l h = open_count-set marks v (omega (arith, l)) h
open_count-set (false ∷ marks) (suc v) l h = ap suc (open_count-set marks v (omega (arith, l)) h)
