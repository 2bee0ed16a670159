-- Two rising lists with the same members are one.
use Rattle.std.proofs.Common.{◌≡◌, ◌↔◌, inl, inr, true, List, [], ◌∷◌, refl, sym, ap, ap₂, ◌∙◌, subst, ⊎_elim}
use Rattle.std.specs.Cmp.{IsTotalOrder}
use Rattle.std.specs.Ordering.{is_lt, ordering_reverse}
use Rattle.std.specs.declared.cmp.Ordering.{Ordering}
use Rattle.std.specs.declared.cmp.Ordering.TheVariants.{Less, Equal, Greater}
use Rattle.std.proofs.lemmas.Bool.{and_parts}
use Rattle.std.proofs.lemmas.Cmp.{tied_itself}
use Rattle.tel_base.specs.Members.{In}
use Rattle.tel_rule.specs.Rising.{rises}
use Rattle.tel_rule.proofs.RisingLaws.{less_from_below}
use Rattle.live_instances.specs.Bindings.{binding_cmp}
use Rattle.live_instances.specs.Laws.{LiveBindingsAreOne}
use Rattle.live_instances.proofs.BindingOrder.{bindings-total}

module _ {X : Type 0} (R : X → X → Ordering) (total : IsTotalOrder R) where
  -- what rises is below all that comes later
  above_all : (x : X) (xs : List X) → rises (λ a b. is_lt (R a b)) (x ∷ xs) ≡ true → (y : X) → In y xs → R x y ≡ Less
  above_all x [] up y here = absurd here
  above_all x (z ∷ zs) up y here =
      let both = and_parts (is_lt (R x z)) (rises (λ a b. is_lt (R a b)) (z ∷ zs)) up in
      let less = less_from_below (R x z) both.0 in
      let later = above_all z zs both.1 y in
      ⊎_elim (λ (same : z ≡ y). subst (λ (w : X). R x w ≡ Less) same less) (λ (after : In y zs). total.trans x z y less (later after)) here

  rises_tail : (x : X) (xs : List X) → rises (λ a b. is_lt (R a b)) (x ∷ xs) ≡ true → rises (λ a b. is_lt (R a b)) xs ≡ true
  rises_tail x [] up = refl
  rises_tail x (z ∷ zs) up = (and_parts (is_lt (R x z)) (rises (λ a b. is_lt (R a b)) (z ∷ zs)) up).1

  not_both_less : (x y : X) → R x y ≡ Less → R y x ≡ Less → ⊥
  not_both_less x y less more = let clash : Less ≡ Greater = sym less ∙ total.antisymm x y ∙ ap ordering_reverse more in cc

  not_less_itself : (x : X) → R x x ≡ Less → ⊥
  not_less_itself x less = let clash : Less ≡ Equal = sym less ∙ tied_itself total x in cc

  heads_same : (x y : X) (xs ys : List X) → rises (λ a b. is_lt (R a b)) (x ∷ xs) ≡ true → rises (λ a b. is_lt (R a b)) (y ∷ ys) ≡ true
      → ((z : X) → In z (x ∷ xs) ↔ In z (y ∷ ys)) → x ≡ y
  heads_same x y xs ys up_x up_y same =
      ⊎_elim (λ (e : y ≡ x). sym e)
      (λ (later : In x ys). ⊎_elim (λ (e : x ≡ y). e) (λ (after : In y xs). absurd (not_both_less y x (above_all y ys up_y x later) (above_all x xs up_x y after))) ((same y).1 (inl refl)))
      ((same x).0 (inl refl))

  tail_has : (x y : X) (xs ys : List X) → rises (λ a b. is_lt (R a b)) (x ∷ xs) ≡ true → x ≡ y → ((z : X) → In z (x ∷ xs) → In z (y ∷ ys)) → (z : X) → In z xs → In z ys
  tail_has x y xs ys up e same z here =
      ⊎_elim (λ (at : y ≡ z). absurd (not_less_itself x (subst (λ (w : X). R x w ≡ Less) (sym at ∙ sym e) (above_all x xs up z here)))) (λ (there : In z ys). there) (same z (inr here))

  pub rising_one : (a b : List X) → rises (λ x y. is_lt (R x y)) a ≡ true → rises (λ x y. is_lt (R x y)) b ≡ true → ((x : X) → In x a ↔ In x b) → a ≡ b
  rising_one [] [] up_a up_b same = refl
  rising_one [] (y ∷ ys) up_a up_b same = absurd ((same y).1 (inl refl))
  rising_one (x ∷ xs) [] up_a up_b same = absurd ((same x).0 (inl refl))
  rising_one (x ∷ xs) (y ∷ ys) up_a up_b same =
      let e = heads_same x y xs ys up_a up_b same in
      ap₂ (λ (z : X) (zs : List X). z ∷ zs) e
      (rising_one xs ys (rises_tail x xs up_a) (rises_tail y ys up_b)
      (λ z. (tail_has x y xs ys up_a e (λ w. (same w).0) z, tail_has y x ys xs up_b (sym e) (λ w. (same w).1) z)))

pub live-one : LiveBindingsAreOne
live-one statements symbols count head body a b live_a live_b =
    rising_one (binding_cmp symbols) (bindings-total symbols) a b live_a.rise live_b.rise
    (λ binding. (λ here. (live_b.members binding).1 ((live_a.members binding).0 here), λ here. (live_a.members binding).1 ((live_b.members binding).0 here)))
