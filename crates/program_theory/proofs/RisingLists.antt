-- Lists that rise in a total order, and the rising list of the elements of any list.
use Rattle.std.proofs.Common.{◌≡◌, ◌↔◌, Bool, true, List, [], ◌∷◌, refl, sym, ap, ◌∙◌, subst, ◌⊎◌, ⊎_elim, inl, inr}
use Rattle.std.specs.Cmp.{IsTotalOrder}
use Rattle.std.specs.Ordering.{is_lt, ordering_reverse, match_ordering}
use Rattle.std.specs.declared.cmp.Ordering.{Ordering}
use Rattle.std.specs.declared.cmp.Ordering.TheVariants.{Less, Equal, Greater}
use Rattle.std.proofs.lemmas.Bool.{and_parts, and_from}
use Rattle.std.proofs.lemmas.Cmp.{tied_itself}
use Rattle.tel_base.specs.Members.{In}
use Rattle.tel_rule.specs.Rising.{rises}
use Rattle.tel_rule.proofs.RisingLaws.{less_from_below}

module _ {X : Type 0} (R : X → X → Ordering) (total : IsTotalOrder R) where
  abbrev below : X → X → Bool
  below a b = is_lt (R a b)

  pub rises_tail : (x : X) (xs : List X) → rises (λ a b. is_lt (R a b)) (x ∷ xs) ≡ true → rises (λ a b. is_lt (R a b)) xs ≡ true
  rises_tail x [] up = refl
  rises_tail x (z ∷ zs) up = (and_parts (is_lt (R x z)) (rises below (z ∷ zs)) up).1

  -- the first is below all that come later
  pub first_below : (x : X) (xs : List X) → rises (λ a b. is_lt (R a b)) (x ∷ xs) ≡ true → (y : X) → In y xs → R x y ≡ Less
  first_below x [] up y found = absurd found
  first_below x (z ∷ zs) up y found =
      let both = and_parts (is_lt (R x z)) (rises below (z ∷ zs)) up in
      let less = less_from_below (R x z) both.0 in
      let later = first_below z zs both.1 y in
      ⊎_elim (λ (same : z ≡ y). subst (λ (w : X). R x w ≡ Less) same less) (λ (after : In y zs). total.trans x z y less (later after)) found

  -- and it isn't among them
  pub not_later : (x : X) (xs : List X) → rises (λ a b. is_lt (R a b)) (x ∷ xs) ≡ true → In x xs → ⊥
  not_later x xs up found =
      let clash : Less ≡ Equal = sym (first_below x xs up x found) ∙ tied_itself total x in
      cc

  rises_from : (x : X) (xs : List X) → rises below xs ≡ true → ((y : X) → In y xs → R x y ≡ Less) → rises below (x ∷ xs) ≡ true
  rises_from x [] up least = refl
  rises_from x (y ∷ ys) up least = and_from (is_lt (R x y)) (rises below (y ∷ ys)) (ap is_lt (least y (inl refl))) up

  -- ---- one element more

  abbrev with_one : X → List X → List X
  with_one x [] = x ∷ []
  with_one x (y ∷ ys) = match_ordering (R x y) (x ∷ y ∷ ys) (y ∷ ys) (y ∷ with_one x ys)

  -- those of a list, each once, in rising order
  abbrev pub rising : List X → List X
  rising [] = []
  rising (x ∷ xs) = with_one x (rising xs)

  -- elements of some kind are level only where they are one
  module _ (P : X → Type 0) (level : (x y : X) → P x → P y → R x y ≡ Equal → x ≡ y) where
    abbrev Are : List X → Type 0
    Are xs = (x : X) → In x xs → P x

    abbrev IsMore : X → List X → List X → Type 0
    IsMore x xs more = (z : X) → In z more ↔ ((x ≡ z) ⊎ In z xs)

    put_members : (x y : X) (ys : List X) (order : Ordering) → P x → P y → R x y ≡ order → IsMore x ys (with_one x ys) → IsMore x (y ∷ ys) (match_ordering order (x ∷ y ∷ ys) (y ∷ ys) (y ∷ with_one x ys))
    put_members x y ys Less px py is rest z = (λ found. found, λ found. found)
    put_members x y ys Equal px py is rest z = (λ found. inr found, λ found. ⊎_elim (λ (same : x ≡ z). inl (sym (level x y px py is) ∙ same)) (λ (there : In z (y ∷ ys)). there) found)
    put_members x y ys Greater px py is rest z = (
      λ found. ⊎_elim (λ (same : y ≡ z). inr (inl same)) (λ (there : In z (with_one x ys)). ⊎_elim (λ (same : x ≡ z). inl same) (λ (later : In z ys). inr (inr later)) ((rest z).0 there)) found,
      λ found. ⊎_elim (λ (same : x ≡ z). inr ((rest z).1 (inl same))) (λ (there : In z (y ∷ ys)). ⊎_elim (λ (same : y ≡ z). inl same) (λ (later : In z ys). inr ((rest z).1 (inr later))) there) found,
    )

    with_members : (x : X) (xs : List X) → P x → Are xs → IsMore x xs (with_one x xs)
    with_members x [] px are z = (λ found. found, λ found. found)
    with_members x (y ∷ ys) px are z = put_members x y ys (R x y) px (are y (inl refl)) refl (with_members x ys px (λ w found. are w (inr found))) z

    greater_back : (x y : X) → R x y ≡ Greater → R y x ≡ Less
    greater_back x y is = total.antisymm y x ∙ ap ordering_reverse is

    put_rises : (x y : X) (ys : List X) (order : Ordering) → R x y ≡ order → rises below (y ∷ ys) ≡ true → IsMore x ys (with_one x ys) → rises below (with_one x ys) ≡ true → rises below (match_ordering order (x ∷ y ∷ ys) (y ∷ ys) (y ∷ with_one x ys)) ≡ true
    put_rises x y ys Less is up more rest =
        rises_from x (y ∷ ys) up
        (λ z found. ⊎_elim (λ (same : y ≡ z). subst (λ (w : X). R x w ≡ Less) same is) (λ (there : In z ys). total.trans x y z is (first_below y ys up z there)) found)
    put_rises x y ys Equal is up more rest = up
    put_rises x y ys Greater is up more rest =
        rises_from y (with_one x ys) rest
        (λ z found. ⊎_elim (λ (same : x ≡ z). subst (λ (w : X). R y w ≡ Less) same (greater_back x y is)) (λ (there : In z ys). first_below y ys up z there) ((more z).0 found))

    with_rises : (x : X) (xs : List X) → P x → Are xs → rises below xs ≡ true → rises below (with_one x xs) ≡ true
    with_rises x [] px are up = refl
    with_rises x (y ∷ ys) px are up =
        let later = λ (w : X) (found : In w ys). are w (inr found) in
        put_rises x y ys (R x y) refl up (with_members x ys px later) (with_rises x ys px later (rises_tail y ys up))

    -- a list that rises, with the elements of another
    pub record IsRising (xs ys : List X) : Type 0 where
      pub rise : rises (λ a b. is_lt (R a b)) ys ≡ true
      pub members : (x : X) → In x ys ↔ In x xs

    pub rising-is : (xs : List X) → Are xs → IsRising xs (rising xs)
    rising-is [] are = record { rise = refl; members = λ x. (λ found. found, λ found. found) }
    rising-is (y ∷ ys) are =
        let rest = rising-is ys (λ w found. are w (inr found)) in
        let known = λ (w : X) (found : In w (rising ys)). are w (inr ((rest.members w).0 found)) in
        let py = are y (inl refl) in
        record {
          rise = with_rises y (rising ys) py known rest.rise;
          members = λ x.
              let here = with_members y (rising ys) py known x in (
                λ found. ⊎_elim (λ (same : y ≡ x). inl same) (λ (there : In x (rising ys)). inr ((rest.members x).0 there)) (here.0 found),
                λ found. ⊎_elim (λ (same : y ≡ x). here.1 (inl same)) (λ (there : In x ys). here.1 (inr ((rest.members x).1 there))) found,
              );
        }
