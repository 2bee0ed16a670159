-- Lists by the places of their elements, and the place of an element.
use Rattle.std.proofs.Common.{◌≡◌, ℕ, zero, suc, ◌+◌, ◌<◌, inl, inr, Bool, true, false, not, ◌||◌, cond, List, [], ◌∷◌, ◌++◌, length, map, refl, sym, ap, ap₂, ◌∙◌, subst, ⊎_elim, arith}
use Rattle.std.specs.Prelude.{slice_index_or, unwrap_or, Some, None}
use Rattle.std.specs.List.{filter, flat_map, list_any, range_with_len, position, position_or_len}
use Rattle.std.proofs.lemmas.Bool.{cases_Bool, lt-ltb, false≢true}
use Rattle.std.proofs.lemmas.List.{map-append}
use Rattle.tel_base.specs.Members.{In}

-- ---- ranges

range_move : {P : Type 0} (k i : ℕ) (f : ℕ → P) (x : P) → f (k + suc i) ≡ x → f (k + 1 + i) ≡ x
range_move k i f x is = ap f (omega arith) ∙ is

range_first : {P : Type 0} (k : ℕ) (f : ℕ → P) (x : P) → f (k + 0) ≡ x → f k ≡ x
range_first k f x is = ap f (omega arith) ∙ is

flat_from : {X A : Type 0} (f : ℕ → List A) (g : X → List A) (none : X) (xs : List X) (k : ℕ) → ((i : ℕ) → i < length xs → f (k + i) ≡ g (slice_index_or xs i none)) → flat_map f (range_with_len k (length xs)) ≡ flat_map g xs
flat_from f g none [] k same = refl
flat_from {X} {A} f g none (x ∷ xs) k same =
    ap₂ (λ (here rest : List A). here ++ rest) (range_first k f (g x) (same 0 (omega arith)))
    (flat_from f g none xs (k + 1) (λ i l. range_move k i f (g (slice_index_or xs i none)) (same (suc i) (omega (arith, l)))))

-- what a function of numbers gives of all places is what one of elements gives of the list
pub flat_places : {X A : Type 0} (f : ℕ → List A) (g : X → List A) (none : X) (xs : List X) → ((i : ℕ) → i < length xs → f i ≡ g (slice_index_or xs i none)) → flat_map f (range_with_len 0 (length xs)) ≡ flat_map g xs
flat_places f g none xs same = flat_from f g none xs 0 (λ i l. ap f (omega arith) ∙ same i l)

-- a `map` of a `filter` element by element
abbrev pub one_of : {X A : Type 0} → (X → Bool) → (X → A) → X → List A
one_of p f x = cond (p x) (f x ∷ []) []

pub map_filter : {X A : Type 0} (p : X → Bool) (f : X → A) (xs : List X) → map f (filter p xs) ≡ flat_map (one_of p f) xs
map_filter p f [] = refl
map_filter {X} {A} p f (x ∷ xs) =
    elim (p x) as (λ b. map f (cond b (x ∷ filter p xs) (filter p xs)) ≡ cond b (f x ∷ []) [] ++ flat_map (one_of p f) xs) [
      | true ↦ ap (λ (rest : List A). f x ∷ rest) (map_filter p f xs)
      | false ↦ map_filter p f xs
    ]

pub map_map : {X Y Z : Type 0} (f : Y → Z) (g : X → Y) (xs : List X) → map f (map g xs) ≡ map (λ x. f (g x)) xs
map_map f g [] = refl
map_map {X} {Y} {Z} f g (x ∷ xs) = ap (λ (rest : List Z). f (g x) ∷ rest) (map_map f g xs)

pub map_flat : {X Y Z : Type 0} (f : Y → Z) (g : X → List Y) (xs : List X) → map f (flat_map g xs) ≡ flat_map (λ x. map f (g x)) xs
map_flat f g [] = refl
map_flat {X} {Y} {Z} f g (x ∷ xs) = map-append f (g x) (flat_map g xs) ∙ ap (λ (rest : List Z). map f (g x) ++ rest) (map_flat f g xs)

-- ---- elements by place

pub index_map_below : {X Y : Type 0} (f : X → Y) (xs : List X) (none : X) (other : Y) (place : ℕ) → place < length xs → slice_index_or (map f xs) place other ≡ f (slice_index_or xs place none)
index_map_below f [] none other place l = absurd (omega (arith, l))
index_map_below f (x ∷ xs) none other zero l = refl
index_map_below f (x ∷ xs) none other (suc place) l = index_map_below f xs none other place (omega (arith, l))

pub In-place : {X : Type 0} (xs : List X) (none : X) (place : ℕ) → place < length xs → In (slice_index_or xs place none) xs
In-place [] none place l = absurd (omega (arith, l))
In-place (x ∷ xs) none zero l = inl refl
In-place (x ∷ xs) none (suc place) l = inr (In-place xs none place (omega (arith, l)))

-- the first element that passes is one that does
first_found : {X : Type 0} (p : X → Bool) (xs : List X) (none : X) → list_any p xs ≡ true → (position_or_len p xs < length xs) × (p (slice_index_or xs (position_or_len p xs) none) ≡ true)
first_found p [] none some = absurd (false≢true some)
first_found p (x ∷ xs) none some =
    ⊎_elim (λ (here : p x ≡ true).
    let at : 0 ≡ position_or_len p (x ∷ xs) = ap (λ (b : Bool). cond (not b) (1 + position_or_len p xs) 0) (sym here) in
    let first : (0 < length (x ∷ xs)) × (p x ≡ true) = (omega arith, here) in
    subst (λ (n : ℕ). (n < length (x ∷ xs)) × (p (slice_index_or (x ∷ xs) n none) ≡ true)) at first)
    (λ (other : p x ≡ false).
    let at : suc (position_or_len p xs) ≡ position_or_len p (x ∷ xs) = omega arith ∙ ap (λ (b : Bool). cond (not b) (1 + position_or_len p xs) 0) (sym other) in
    let rest = first_found p xs none (sym (ap (λ (b : Bool). b || list_any p xs) other) ∙ some) in
    let later : (suc (position_or_len p xs) < length (x ∷ xs)) × (p (slice_index_or xs (position_or_len p xs) none) ≡ true) = (omega (arith, rest.0), rest.1) in
    subst (λ (n : ℕ). (n < length (x ∷ xs)) × (p (slice_index_or (x ∷ xs) n none) ≡ true)) at later)
    (cases_Bool (p x))

pub position_found : {X : Type 0} (p : X → Bool) (xs : List X) (none : X) → list_any p xs ≡ true → p (slice_index_or xs (unwrap_or (position p xs) 0) none) ≡ true
position_found p xs none some =
    let found = first_found p xs none some in
    let place = position_or_len p xs in
    ap (λ (b : Bool). p (slice_index_or xs (unwrap_or (cond b (Some place) None) 0) none)) (lt-ltb place (length xs) found.0) ∙ found.1
