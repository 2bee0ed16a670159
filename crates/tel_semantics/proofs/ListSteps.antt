-- One more element of a list, as at a step of a loop.
use Rattle.std.proofs.Common.{◌≡◌, ℕ, ◌+◌, ◌<◌, ◌≤◌, Bool, true, false, List, [], ◌∷◌, ◌++◌, length, get_or, take, replicate, refl, sym, ap, ◌∙◌, ◌&&◌}
use Rattle.std.specs.List.{flat_map, list_all}
use Rattle.std.proofs.lemmas.List.{take_more, take_all, append-nil, replicate-append-replicate}
use Rattle.std.proofs.lemmas.List.Folds.{list_all_at, list_all-append}
use Rattle.std.proofs.lemmas.Bool.{and_from}
use Rattle.std.proofs.lemmas.Grind.{flat_map-append}

flat_map-take_more : {X A : Type 0} (f : X → List A) (xs : List X) (i : ℕ) (d : X) → i < length xs → flat_map f (take (i + 1) xs) ≡ flat_map f (take i xs) ++ f (get_or xs i d)
flat_map-take_more f xs i d h =
    ap (λ ys. flat_map f ys) (take_more xs i d h) ∙ flat_map-append f (take i xs) (get_or xs i d ∷ []) ∙ ap (λ ys. flat_map f (take i xs) ++ ys) (append-nil (f (get_or xs i d)))

-- a loop that appends what a function gives of each element
pub flat_map_step : {X A : Type 0} (f : X → List A) (xs : List X) (i : ℕ) (x : X) (old more new : List A) → i < length xs → x ≡ get_or xs i x → old ≡ flat_map f (take i xs) → more ≡ f x → new ≡ old ++ more → new ≡ flat_map f (take (i + 1) xs)
flat_map_step f xs i x old more new l e o m n =
    let here = flat_map-take_more f xs i x l in
    n ∙ ap (λ ys. ys ++ more) o ∙ ap (λ ys. flat_map f (take i xs) ++ ys) (m ∙ ap f e) ∙ sym here

-- a loop that appends one value again and again
pub replicate_step : {X : Type 0} (n : ℕ) (x y : X) (old new : List X) → old ≡ replicate n x → y ≡ x → new ≡ old ++ y ∷ [] → new ≡ replicate (n + 1) x
replicate_step n x y old new o e h =
    h ∙ ap (λ ys. ys ++ y ∷ []) o ∙ ap (λ z. replicate n x ++ z ∷ []) e ∙ replicate-append-replicate n 1 x

-- one element that fails
pub list_all_failed : {X : Type 0} (p : X → Bool) (xs : List X) (i : ℕ) (x : X) → i < length xs → x ≡ get_or xs i x → p x ≡ false → list_all p xs ≡ false
list_all_failed p xs i x l e h = list_all_at p xs i x l (ap p (sym e) ∙ h)

-- the end of the loop
pub list_all_passed : {X : Type 0} (p : X → Bool) (xs : List X) (i : ℕ) → length xs ≤ i → list_all p (take i xs) ≡ true → list_all p xs ≡ true
list_all_passed p xs i l h = ap (λ ys. list_all p ys) (sym (take_all i xs l)) ∙ h

-- one more element that passes
pub list_all_more : {X : Type 0} (p : X → Bool) (xs : List X) (i : ℕ) (d : X) → i < length xs → list_all p (take i xs) ≡ true → p (get_or xs i d) ≡ true → list_all p (take (i + 1) xs) ≡ true
list_all_more p xs i d l before here =
    ap (λ ys. list_all p ys) (take_more xs i d l)
    ∙ list_all-append p (take i xs) (get_or xs i d ∷ [])
    ∙ and_from (list_all p (take i xs)) (p (get_or xs i d) && true) before (and_from (p (get_or xs i d)) true here refl)
