-- The first element of a list that passes a test.
use Rattle.std.proofs.Common.{◌≡◌, Bool, true, false, List, [], ◌∷◌, ◌++◌, ◌||◌, refl, sym, ◌∙◌, ⊎_elim}
use Rattle.std.specs.Prelude.{Some, None, is_some, if◌then◌else◌}
use Rattle.std.specs.List.{find, list_any}
use Rattle.std.proofs.lemmas.Bool.{cases_Bool, cond-true, cond-false}

-- it is in the first part
pub find_here : {X : Type 0} (p : X → Bool) (xs ys : List X) (x : X) → Some x ≡ find p xs → Some x ≡ find p (xs ++ ys)
find_here p [] ys x h = absurd (cc)
find_here p (z ∷ xs) ys x h =
    ⊎_elim (λ (t : p z ≡ true). h ∙ cond-true (p z) (Some z) (find p xs) t ∙ sym (cond-true (p z) (Some z) (find p (xs ++ ys)) t)) (λ (f : p z ≡ false). find_here p xs ys x (h ∙ cond-false (p z) (Some z) (find p xs) f) ∙ sym (cond-false (p z) (Some z) (find p (xs ++ ys)) f)) (cases_Bool (p z))

-- nothing is in the first part
pub find_past : {X : Type 0} (p : X → Bool) (xs ys : List X) → None ≡ find p xs → find p ys ≡ find p (xs ++ ys)
find_past p [] ys h = refl
find_past p (z ∷ xs) ys h =
    ⊎_elim (λ (t : p z ≡ true). let bad : None ≡ Some z = h ∙ cond-true (p z) (Some z) (find p xs) t in absurd (cc)) (λ (f : p z ≡ false). find_past p xs ys (h ∙ cond-false (p z) (Some z) (find p xs) f) ∙ sym (cond-false (p z) (Some z) (find p (xs ++ ys)) f)) (cases_Bool (p z))

pub some_any : {X : Type 0} (p : X → Bool) (xs : List X) → is_some (find p xs) ≡ list_any p xs
some_any p [] = refl
some_any p (z ∷ xs) = elim (p z) as (λ (b : Bool). is_some (if b then Some z else find p xs) ≡ (b || list_any p xs)) [ true ↦ refl | false ↦ some_any p xs ]
