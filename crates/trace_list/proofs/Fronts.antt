-- A list that strictly rises begins with its least members.
use Rattle.std.proofs.Common.{◌≡◌, ℕ, suc, ◌<◌, List, [], ◌∷◌, ◌++◌, length, get_or, map, refl, sym, ap, subst, ◌∙◌, ◌⊎◌, inl, inr, ⊎_elim, arith}
use Rattle.std.specs.List.{AllPairs}
use Rattle.std.proofs.lemmas.List.{append-nil, nil_from_length, length-append}
use Rattle.tel_base.proofs.Members.{In, In-append_cases, In-map_from}
use Rattle.tel_semantics.proofs.Ordered.{Ordered}

place_in : {X : Type 0} (xs : List X) (x : X) → In x xs → (i : ℕ) × (i < length xs) × (get_or xs i x ≡ x)
place_in [] x i = absurd i
place_in (y ∷ xs) x i =
    ⊎_elim (λ (e : y ≡ x). (0, omega arith, e)) (λ later. let w = place_in xs x later in (suc w.0, omega (arith, w.1), w.2)) i

pub ordered_pairs : {X : Type 0} (R : X → X → Type 0) (xs : List X) → AllPairs R xs → Ordered R xs
ordered_pairs R [] pairs = tt
ordered_pairs R (x ∷ xs) pairs = (
  λ y i. let w = place_in xs y i in subst (λ z. R x z) w.2 (pairs 0 (suc w.0) y (omega arith) (omega (arith, w.1))),
  ordered_pairs R xs (λ i j d l m. pairs (suc i) (suc j) d (omega (arith, l)) (omega (arith, m))),
)

end_cases : {X : Type 0} {P : Type 0} (xs : List X) (x y : X) → In y (xs ++ x ∷ []) → (In y xs → P) → (x ≡ y → P) → P
end_cases xs x y i front back = ⊎_elim front (λ r. ⊎_elim back (λ none. absurd none) r) (In-append_cases y xs (x ∷ []) i)

pub ordered_more : {X : Type 0} (R : X → X → Type 0) (xs : List X) (y : X) → Ordered R xs → ((x : X) → In x xs → R x y) → Ordered R (xs ++ y ∷ [])
ordered_more R [] y o all = (λ z i. absurd i, tt)
ordered_more R (x ∷ xs) y o all = (
  λ z i. end_cases xs y z i (λ l. o.0 z l) (λ e. subst (λ w. R x w) e (all x (inl refl))),
  ordered_more R xs y o.1 (λ z i. all z (inr i)),
)

pub ordered_map : {X Y : Type 0} (R : X → X → Type 0) (S : Y → Y → Type 0) (f : X → Y) (xs : List X) → ((x y : X) → In x xs → In y xs → R x y → S (f x) (f y)) → Ordered R xs → Ordered S (map f xs)
ordered_map R S f [] keep o = tt
ordered_map R S f (x ∷ xs) keep o = (
  λ y i. let w = In-map_from f y xs i in subst (λ z. S (f x) z) w.2 (keep x w.0 (inl refl) (inr w.1) (o.0 w.0 w.1)),
  ordered_map R S f xs (λ a b i j. keep a b (inr i) (inr j)) o.1,
)

module _ {X : Type 0} (R : X → X → Type 0) (strict : (x y : X) → R x y → R y x → ⊥) where
  -- the members of the one list are in the other, and come before each other member of it
  pub least_front : (xs ys : List X) → Ordered R xs → Ordered R ys → ((x : X) → In x xs → In x ys) → ((y : X) → In y ys → In y xs ⊎ ((x : X) → In x xs → R x y)) → (rest : List X) × (ys ≡ xs ++ rest)
  least_front [] ys o p inside least = (ys, refl)
  least_front (x ∷ xs) [] o p inside least = absurd (inside x (inl refl))
  least_front (x ∷ xs) (y ∷ ys) o p inside least =
      let same : y ≡ x = ⊎_elim (λ (e : y ≡ x). e) (λ later.
      let after = p.0 x later in
      ⊎_elim (λ (i : In y (x ∷ xs)). ⊎_elim (λ (e : x ≡ y). sym e) (λ j. absurd (strict y x after (o.0 y j))) i) (λ all. absurd (strict y x after (all x (inl refl)))) (least y (inl refl))) (inside x (inl refl)) in
      let rest = least_front xs ys o.1 p.1 (λ z i.
      ⊎_elim (λ (e : y ≡ z). let r = subst (λ w. R x w) (sym e ∙ same) (o.0 z i) in absurd (strict x x r r)) (λ later. later) (inside z (inr i))) (λ z i.
      let after = subst (λ w. R w z) same (p.0 z i) in
      ⊎_elim (λ (j : In z (x ∷ xs)). ⊎_elim (λ (e : x ≡ z). let r = subst (λ w. R x w) (sym e) after in absurd (strict x x r r)) (λ later. inl later) j) (λ all. inr (λ w j. all w (inr j))) (least z (inr i))) in
      (rest.0, λ i. same i ∷ rest.1 i)

  -- and where it has no other member the lists are one
  pub least_all : (xs ys : List X) → Ordered R xs → Ordered R ys → ((x : X) → In x xs → In x ys) → ((y : X) → In y ys → In y xs) → ys ≡ xs
  least_all xs ys o p inside all =
      let front = least_front xs ys o p inside (λ y i. inl (all y i)) in
      let back = least_front ys xs p o all (λ y i. inl (inside y i)) in
      let one = ap length front.1 ∙ length-append xs front.0 in
      let two = ap length back.1 ∙ length-append ys back.0 in
      front.1 ∙ ap (λ rest. xs ++ rest) (nil_from_length front.0 (omega (arith, one, two))) ∙ append-nil xs
