-- A list that strictly rises has each element once.
use Rattle.std.proofs.Common.{◌≡◌, true, List, [], ◌∷◌, refl, sym, ◌∙◌, subst, ⊎_elim}
use Rattle.std.specs.Cmp.{IsTotalOrder}
use Rattle.std.specs.Ordering.{is_lt}
use Rattle.std.specs.declared.cmp.Ordering.{Ordering}
use Rattle.std.specs.declared.cmp.Ordering.TheVariants.{Less, Equal}
use Rattle.std.proofs.lemmas.Bool.{and_parts}
use Rattle.std.proofs.lemmas.Cmp.{tied_itself}
use Rattle.tel_base.specs.Members.{In}
use Rattle.tel_rule.specs.Rising.{rises}
use Rattle.tel_rule.proofs.RisingLaws.{less_from_below}
use Rattle.join_plans.specs.Once.{IsOnce}

module _ {X : Type 0} (R : X → X → Ordering) (total : IsTotalOrder R) where
  above_all : (x : X) (xs : List X) → rises (λ a b. is_lt (R a b)) (x ∷ xs) ≡ true → (y : X) → In y xs → R x y ≡ Less
  above_all x [] up y here = absurd here
  above_all x (z ∷ zs) up y here =
      let both = and_parts (is_lt (R x z)) (rises (λ a b. is_lt (R a b)) (z ∷ zs)) up in
      let less = less_from_below (R x z) both.0 in
      let later = above_all z zs both.1 y in
      ⊎_elim (λ (same : z ≡ y). subst (λ (w : X). R x w ≡ Less) same less) (λ (after : In y zs). total.trans x z y less (later after)) here

  rises_tail : (x : X) (xs : List X) → rises (λ a b. is_lt (R a b)) (x ∷ xs) ≡ true → rises (λ a b. is_lt (R a b)) xs ≡ true
  rises_tail x [] up = refl
  rises_tail x (z ∷ zs) up = (and_parts (is_lt (R x z)) (rises (λ a b. is_lt (R a b)) (z ∷ zs)) up).1

  not_itself : (x : X) (xs : List X) → rises (λ a b. is_lt (R a b)) (x ∷ xs) ≡ true → In x xs → ⊥
  not_itself x xs up here = let clash : Less ≡ Equal = sym (above_all x xs up x here) ∙ tied_itself total x in cc

  pub rising_once : (xs : List X) → rises (λ a b. is_lt (R a b)) xs ≡ true → IsOnce xs
  rising_once [] up = tt
  rising_once (x ∷ xs) up = (not_itself x xs up, rising_once xs (rises_tail x xs up))
