-- A sorted list without doubles rises.
use Rattle.std.proofs.Common.{◌≡◌, inl, inr, ℕ, suc, ◌+◌, true, false, List, [], ◌∷◌, get_or, refl, sym, ap, ◌∙◌, subst, true≢false, arith}
use Rattle.std.specs.Cmp.{IsTotalOrder}
use Rattle.std.specs.Ordering.{is_lt, ordering_reverse}
use Rattle.std.specs.List.Sorted.{IsSorted}
use Rattle.std.specs.declared.cmp.Ordering.{Ordering}
use Rattle.std.specs.declared.cmp.Ordering.TheVariants.{Less, Equal, Greater}
use Rattle.std.proofs.lemmas.Bool.{and_from}
use Rattle.tel_base.specs.Members.{In}
use Rattle.tel_rule.specs.Rising.{rises}
use Rattle.join_plans.specs.Once.{IsOnce}

less_from : (o : Ordering) → is_lt (ordering_reverse o) ≡ false → (o ≡ Equal → ⊥) → is_lt o ≡ true
less_from Less h apart = refl
less_from Equal h apart = absurd (apart refl)
less_from Greater h apart = absurd (true≢false h)

next : (k : ℕ) → suc k + 1 ≡ suc (k + 1)
next k = omega arith

tail_sorted : {X : Type 0} (R : X → X → Ordering) (x : X) (xs : List X) → IsSorted R (x ∷ xs) → IsSorted R xs
tail_sorted {X} R x xs s = λ k d low high. subst (λ (i : ℕ). is_lt (R (get_or (x ∷ xs) i d) (get_or xs k d)) ≡ false) (next k) (s (suc k) d (omega arith) (omega (arith, high)))

pub sorted_rises : {X : Type 0} (R : X → X → Ordering) (xs : List X) → IsTotalOrder R → ((x y : X) → In x xs → In y xs → R x y ≡ Equal → x ≡ y) → IsSorted R xs → IsOnce xs → rises (λ x y. is_lt (R x y)) xs ≡ true
sorted_rises R [] total exact s once = refl
sorted_rises R (x ∷ []) total exact s once = refl
sorted_rises {X} R (x ∷ y ∷ xs) total exact s once =
    let below : is_lt (R y x) ≡ false = s 0 x (omega arith) (omega arith) in
    and_from (is_lt (R x y)) (rises (λ a b. is_lt (R a b)) (y ∷ xs))
    (less_from (R x y) (ap is_lt (sym (total.antisymm y x)) ∙ below) (λ e. once.0 (inl (sym (exact x y (inl refl) (inr (inl refl)) e)))))
    (sorted_rises R (y ∷ xs) total (λ a b in_a in_b. exact a b (inr in_a) (inr in_b)) (tail_sorted R x (y ∷ xs) s) once.1)
