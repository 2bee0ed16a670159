-- Tests that agree on what is in a list.
use Rattle.std.proofs.Common.{◌≡◌, Bool, ◌&&◌, ◌||◌, cond, List, [], ◌∷◌, refl, ap₂, inl, inr}
use Rattle.std.specs.List.{filter, list_all, list_any}
use Rattle.tel_base.specs.Members.{In}

pub any_agree : {X : Type 0} (p q : X → Bool) (xs : List X) → ((x : X) → In x xs → p x ≡ q x) → list_any p xs ≡ list_any q xs
any_agree p q [] h = refl
any_agree p q (x ∷ xs) h = ap₂ (λ (a b : Bool). a || b) (h x (inl refl)) (any_agree p q xs (λ y i. h y (inr i)))

pub all_agree : {X : Type 0} (p q : X → Bool) (xs : List X) → ((x : X) → In x xs → p x ≡ q x) → list_all p xs ≡ list_all q xs
all_agree p q [] h = refl
all_agree p q (x ∷ xs) h = ap₂ (λ (a b : Bool). a && b) (h x (inl refl)) (all_agree p q xs (λ y i. h y (inr i)))

pub filter_agrees : {X : Type 0} (p q : X → Bool) (xs : List X) → ((x : X) → In x xs → p x ≡ q x) → filter p xs ≡ filter q xs
filter_agrees {X} p q [] h = refl
filter_agrees {X} p q (x ∷ xs) h =
    ap₂ (λ (b : Bool) (ys : List X). cond b (x ∷ ys) ys) (h x (inl refl)) (filter_agrees p q xs (λ y i. h y (inr i)))
