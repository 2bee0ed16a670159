-- What is in a list that `++`, `map`, `flat_map` or `filter` makes, and what a test that is met by all or by some says of a member.
use Rattle.std.proofs.Common.{◌≡◌, ℕ, ◌<◌, zero, suc, Bool, true, false, cond, ◌&&◌, List, [], ◌∷◌, ◌++◌, length, get_or, map, refl, sym, ap, subst, ◌∙◌, ◌⊎◌, inl, inr, ⊎_elim, arith}
use Rattle.std.specs.List.{flat_map, filter, list_all, list_any, Contains}
use Rattle.std.proofs.lemmas.Bool.{and_parts, and_from, cases_Bool, cond-true, cond-false, or_cases, or_parts, false≢true}
pub use Rattle.tel_base.specs.Members.{In}

pub In-append_left : {X : Type 0} (x : X) (xs ys : List X) → In x xs → In x (xs ++ ys)
In-append_left x [] ys h = absurd h
In-append_left x (z ∷ xs) ys h = ⊎_elim (λ e. inl e) (λ m. inr (In-append_left x xs ys m)) h

pub In-append_right : {X : Type 0} (x : X) (xs ys : List X) → In x ys → In x (xs ++ ys)
In-append_right x [] ys h = h
In-append_right x (z ∷ xs) ys h = inr (In-append_right x xs ys h)

pub In-append_cases : {X : Type 0} (x : X) (xs ys : List X) → In x (xs ++ ys) → In x xs ⊎ In x ys
In-append_cases x [] ys h = inr h
In-append_cases x (z ∷ xs) ys h =
    ⊎_elim (λ e. inl (inl e)) (λ m. ⊎_elim (λ l. inl (inr l)) (λ r. inr r) (In-append_cases x xs ys m)) h

pub In-map : {X Y : Type 0} (f : X → Y) (x : X) (xs : List X) → In x xs → In (f x) (map f xs)
In-map f x [] h = absurd h
In-map f x (z ∷ xs) h = ⊎_elim (λ e. inl (ap f e)) (λ m. inr (In-map f x xs m)) h

pub In-map_from : {X Y : Type 0} (f : X → Y) (y : Y) (xs : List X) → In y (map f xs) → (x : X) × In x xs × (f x ≡ y)
In-map_from f y [] h = absurd h
In-map_from f y (z ∷ xs) h =
    ⊎_elim (λ e. (z, inl refl, e)) (λ m. let w = In-map_from f y xs m in (w.0, inr w.1, w.2)) h

pub In-flat_map : {X A : Type 0} (f : X → List A) (x : X) (a : A) (xs : List X) → In x xs → In a (f x) → In a (flat_map f xs)
In-flat_map f x a [] h i = absurd h
In-flat_map f x a (z ∷ xs) h i =
    ⊎_elim (λ e. In-append_left a (f z) (flat_map f xs) (subst (λ y. In a (f y)) (sym e) i)) (λ m. In-append_right a (f z) (flat_map f xs) (In-flat_map f x a xs m i)) h

pub In-flat_map_from : {X A : Type 0} (f : X → List A) (a : A) (xs : List X) → In a (flat_map f xs) → (x : X) × In x xs × In a (f x)
In-flat_map_from f a [] h = absurd h
In-flat_map_from f a (z ∷ xs) h =
    ⊎_elim (λ l. (z, inl refl, l)) (λ r. let w = In-flat_map_from f a xs r in (w.0, inr w.1, w.2)) (In-append_cases a (f z) (flat_map f xs) h)

pub In-list_all : {X : Type 0} (p : X → Bool) (x : X) (xs : List X) → list_all p xs ≡ true → In x xs → p x ≡ true
In-list_all p x [] h i = absurd i
In-list_all p x (z ∷ xs) h i =
    let both = and_parts (p z) (list_all p xs) h in
    ⊎_elim (λ e. subst (λ y. p y ≡ true) e both.0) (λ m. In-list_all p x xs both.1 m) i

pub list_all-from_In : {X : Type 0} (p : X → Bool) (xs : List X) → ((x : X) → In x xs → p x ≡ true) → list_all p xs ≡ true
list_all-from_In p [] h = refl
list_all-from_In p (z ∷ xs) h =
    and_from (p z) (list_all p xs) (h z (inl refl)) (list_all-from_In p xs (λ x i. h x (inr i)))

pub In-get_or : {X : Type 0} (xs : List X) (i : ℕ) (x : X) → i < length xs → get_or xs i x ≡ x → In x xs
In-get_or [] i x l e = absurd (omega arith)
In-get_or (z ∷ xs) zero x l e = inl e
In-get_or (z ∷ xs) (suc i) x l e = inr (In-get_or xs i x (omega arith) e)

pub In-from_Contains : {X : Type 0} (xs : List X) (x : X) → Contains xs x → In x xs
In-from_Contains xs x h = In-get_or xs h.0 x h.1 h.2

pub Contains-from_In : {X : Type 0} (xs : List X) (x : X) → In x xs → Contains xs x
Contains-from_In [] x h = absurd h
Contains-from_In (z ∷ xs) x h =
    ⊎_elim (λ e. (0, omega arith, e)) (λ m. let w = Contains-from_In xs x m in (suc w.0, omega arith, w.2)) h

pub In-filter : {X : Type 0} (p : X → Bool) (x : X) (xs : List X) → In x xs → p x ≡ true → In x (filter p xs)
In-filter p x [] h t = absurd h
In-filter p x (z ∷ xs) h t =
    ⊎_elim (λ e. let at : p z ≡ true = ap p e ∙ t in subst (λ ys. In x ys) (sym (cond-true (p z) (z ∷ filter p xs) (filter p xs) at)) (inl e)) (λ m. let rest = In-filter p x xs m t in elim (p z) as (λ b. In x (cond b (z ∷ filter p xs) (filter p xs))) [ true ↦ inr rest | false ↦ rest ]) h

pub In-filter_from : {X : Type 0} (p : X → Bool) (x : X) (xs : List X) → In x (filter p xs) → In x xs × (p x ≡ true)
In-filter_from p x [] h = absurd h
In-filter_from p x (z ∷ xs) h =
    ⊎_elim (λ t. let i : In x (z ∷ filter p xs) = subst (λ ys. In x ys) (cond-true (p z) (z ∷ filter p xs) (filter p xs) t) h in ⊎_elim (λ e. (inl e, subst (λ y. p y ≡ true) e t)) (λ m. let w = In-filter_from p x xs m in (inr w.0, w.1)) i) (λ f. let i : In x (filter p xs) = subst (λ ys. In x ys) (cond-false (p z) (z ∷ filter p xs) (filter p xs) f) h in let w = In-filter_from p x xs i in (inr w.0, w.1)) (cases_Bool (p z))

pub any_found : {A : Type 0} (p : A → Bool) (xs : List A) → list_any p xs ≡ true → (x : A) × In x xs × (p x ≡ true)
any_found p [] h = absurd (false≢true h)
any_found p (x ∷ xs) h =
    ⊎_elim (λ here. (x, inl refl, here)) (λ there. let w = any_found p xs there in (w.0, inr w.1, w.2)) (or_cases (p x) (list_any p xs) h)

pub none_found : {A : Type 0} (p : A → Bool) (xs : List A) (x : A) → list_any p xs ≡ false → In x xs → p x ≡ false
none_found p [] x h i = absurd i
none_found p (y ∷ xs) x h i =
    ⊎_elim (λ e. subst (λ z. p z ≡ false) e (or_parts (p y) (list_any p xs) h).0) (λ m. none_found p xs x (or_parts (p y) (list_any p xs) h).1 m) i

-- some element fails
pub all_lost : {A : Type 0} (p : A → Bool) (xs : List A) → list_all p xs ≡ false → (x : A) × In x xs × (p x ≡ false)
all_lost p [] h = absurd (false≢true (sym h))
all_lost p (x ∷ xs) h =
    ⊎_elim (λ (here : p x ≡ true). let w = all_lost p xs (sym (ap (λ b. b && list_all p xs) here) ∙ h) in (w.0, inr w.1, w.2)) (λ here. (x, inl refl, here)) (cases_Bool (p x))

pub any_from : {A : Type 0} (p : A → Bool) (xs : List A) (x : A) → In x xs → p x ≡ true → list_any p xs ≡ true
any_from p xs x i t =
    ⊎_elim (λ (u : list_any p xs ≡ true). u) (λ (u : list_any p xs ≡ false). absurd (false≢true (sym (none_found p xs x u i) ∙ t))) (cases_Bool (list_any p xs))
