-- Each element once.
use Rattle.std.proofs.Common.{◌≡◌, inl, inr, ◌≤◌, ◌⊎◌, Bool, true, false, not, ◌||◌, List, [], ◌∷◌, ◌++◌, length, refl, sym, ap, ◌∙◌, ⊎_elim, true≢false}
use Rattle.std.specs.Prelude.{if◌then◌else◌}
use Rattle.std.specs.List.{list_any, filter}
use Rattle.std.proofs.lemmas.List.{append-nil}
use Rattle.std.proofs.lemmas.List.Elements.{filter-append}
use Rattle.tel_base.specs.Members.{In}
use Rattle.tel_base.proofs.Members.{In-append_left, In-filter, In-filter_from}
use Rattle.join_plans.specs.Once.{IsOnce}
use Rattle.join_plans.proofs.Counting.{fewer}
use Rattle.fact_rows.specs.Once.{each_once}

or_true_right : (b : Bool) → (b || true) ≡ true
or_true_right true = refl
or_true_right false = refl

-- elements that the second test finds pass the first
any-filter : {X : Type 0} (p q : X → Bool) (xs : List X) → ((x : X) → q x ≡ true → p x ≡ true) → list_any q (filter p xs) ≡ list_any q xs
any-filter p q [] pass = refl
any-filter {X} p q (x ∷ xs) pass = by (p x) refl (q x) refl (any-filter p q xs pass)
  where
    by : (b : Bool) → p x ≡ b → (c : Bool) → q x ≡ c → list_any q (filter p xs) ≡ list_any q xs → list_any q (if b then x ∷ filter p xs else filter p xs) ≡ (q x || list_any q xs)
    by true is c at rest = ap (λ (t : Bool). q x || t) rest
    by false is true at rest = absurd (true≢false (sym (pass x at) ∙ is))
    by false is false at rest = rest ∙ ap (λ (t : Bool). t || list_any q xs) (sym at)

pub once-filter : {X : Type 0} (p : X → Bool) (xs : List X) → IsOnce xs → IsOnce (filter p xs)
once-filter p [] once = tt
once-filter {X} p (x ∷ xs) once = by (once-filter p xs once.1) (p x)
  where
    by : IsOnce (filter p xs) → (b : Bool) → IsOnce (if b then x ∷ filter p xs else filter p xs)
    by rest true = ((λ there. once.0 (In-filter_from p x xs there).0), rest)
    by rest false = rest

module _ {X : Type 0} (same : X → X → Bool) (one : (x y : X) → same x y ≡ true → x ≡ y) (itself : (x : X) → same x x ≡ true) where
  apart : (x y z : X) → same x y ≡ false → same x z ≡ true → not (same z y) ≡ true
  apart x y z differ is = ap not (ap (λ (w : X). same w y) (sym (one x z is)) ∙ differ)

  pub any-once : (x : X) (xs : List X) → list_any (same x) (each_once same xs) ≡ list_any (same x) xs
  any-once x [] = refl
  any-once x (y ∷ ys) = by (same x y) refl (any-once x ys)
    where
      by : (b : Bool) → same x y ≡ b → list_any (same x) (each_once same ys) ≡ list_any (same x) ys
          → (b || list_any (same x) (filter (λ (z : X). not (same z y)) (each_once same ys))) ≡ (b || list_any (same x) ys)
      by true is rest = refl
      by false is rest = any-filter (λ (z : X). not (same z y)) (same x) (each_once same ys) (λ z at. apart x y z is at) ∙ rest

  -- one element more
  pub once-push : (xs : List X) (x : X) → each_once same (xs ++ x ∷ []) ≡ (if list_any (same x) xs then each_once same xs else each_once same xs ++ x ∷ [])
  once-push [] x = refl
  once-push (y ∷ ys) x = by (once-push ys x) (same x y) refl (list_any (same x) ys) refl
    where
      other : X → Bool
      other z = not (same z y)

      last : (b : Bool) → same x y ≡ b → filter other (x ∷ []) ≡ (if b then [] else x ∷ [])
      last true is = ap (λ (t : Bool). if not t then x ∷ [] else []) is
      last false is = ap (λ (t : Bool). if not t then x ∷ [] else []) is

      by : each_once same (ys ++ x ∷ []) ≡ (if list_any (same x) ys then each_once same ys else each_once same ys ++ x ∷ []) → (b : Bool) → same x y ≡ b → (c : Bool) → list_any (same x) ys ≡ c
          → each_once same (y ∷ (ys ++ x ∷ [])) ≡ (if same x y || list_any (same x) ys then each_once same (y ∷ ys) else each_once same (y ∷ ys) ++ x ∷ [])
      by rest b is true at =
          ap (λ (l : List X). y ∷ filter other l) (rest ∙ ap (λ (t : Bool). if t then each_once same ys else each_once same ys ++ x ∷ []) at)
          ∙ sym (ap (λ (t : Bool). if t then each_once same (y ∷ ys) else each_once same (y ∷ ys) ++ x ∷ []) (ap (λ (t : Bool). same x y || t) at ∙ or_true_right (same x y)))
      by rest true is false at =
          ap (λ (l : List X). y ∷ filter other l) (rest ∙ ap (λ (t : Bool). if t then each_once same ys else each_once same ys ++ x ∷ []) at)
          ∙ ap (λ (l : List X). y ∷ l) (filter-append other (each_once same ys) (x ∷ []) ∙ ap (λ (l : List X). filter other (each_once same ys) ++ l) (last true is) ∙ append-nil (filter other (each_once same ys)))
          ∙ sym (ap (λ (t : Bool). if t || list_any (same x) ys then each_once same (y ∷ ys) else each_once same (y ∷ ys) ++ x ∷ []) is)
      by rest false is false at =
          ap (λ (l : List X). y ∷ filter other l) (rest ∙ ap (λ (t : Bool). if t then each_once same ys else each_once same ys ++ x ∷ []) at)
          ∙ ap (λ (l : List X). y ∷ l) (filter-append other (each_once same ys) (x ∷ []) ∙ ap (λ (l : List X). filter other (each_once same ys) ++ l) (last false is))
          ∙ sym (λ i. if is i || at i then each_once same (y ∷ ys) else each_once same (y ∷ ys) ++ x ∷ [])

  pub in_once : (x : X) (xs : List X) → In x (each_once same xs) → In x xs
  in_once x [] there = there
  in_once x (y ∷ ys) there = ⊎_elim inl (λ more. inr (in_once x ys (In-filter_from (λ (z : X). not (same z y)) x (each_once same ys) more).0)) there

  pub once_in : (x : X) (xs : List X) → In x xs → In x (each_once same xs)
  once_in x [] there = there
  once_in x (y ∷ ys) there = by (same x y) refl (⊎_elim (λ (is : y ≡ x). inl is) (λ more. inr (once_in x ys more)) there)
    where
      by : (b : Bool) → same x y ≡ b → (y ≡ x) ⊎ In x (each_once same ys) → In x (each_once same (y ∷ ys))
      by true is found = inl (sym (one x y is))
      by false is (inl same) = inl same
      by false is (inr more) = inr (In-filter (λ (z : X). not (same z y)) x (each_once same ys) more (ap not is))

  pub is_once : (xs : List X) → IsOnce (each_once same xs)
  is_once [] = tt
  is_once (y ∷ ys) = (
    λ there. true≢false (sym (In-filter_from (λ (z : X). not (same z y)) y (each_once same ys) there).1 ∙ ap not (itself y)),
    once-filter (λ (z : X). not (same z y)) (each_once same ys) (is_once ys),
  )

  -- more elements are no fewer
  pub once-more : (xs ys : List X) → length (each_once same xs) ≤ length (each_once same (xs ++ ys))
  once-more xs ys =
      fewer (each_once same xs) (each_once same (xs ++ ys)) (is_once xs)
      (λ x there. once_in x (xs ++ ys) (In-append_left x xs ys (in_once x xs there)))
