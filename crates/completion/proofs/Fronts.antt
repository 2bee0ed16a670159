-- What holds of a list up to a place, and of one element more.
use Rattle.std.proofs.Common.{◌≡◌, ℕ, zero, suc, ◌<◌, Bool, true, List, [], ◌∷◌, length, get_or, take, refl, sym, subst, arith}
use Rattle.std.specs.List.{list_all}
use Rattle.std.proofs.lemmas.Bool.{and_parts, and_from}

-- a weaker test of the elements before, and of the next one
pub front_more : {A : Type 0} (old new : A → Bool) (xs : List A) (i : ℕ) (x d : A) → ((y : A) → old y ≡ true → new y ≡ true) → list_all old (take i xs) ≡ true → i < length xs → get_or xs i d ≡ x → new x ≡ true → list_all new (take (suc i) xs) ≡ true
front_more old new [] i x d weaker h within is here = absurd (omega (arith, within))
front_more old new (y ∷ xs) zero x d weaker h within is here = and_from (new y) true (subst (λ z. new z ≡ true) (sym is) here) refl
front_more old new (y ∷ xs) (suc i) x d weaker h within is here =
    let both = and_parts (old y) (list_all old (take i xs)) h in
    and_from (new y) (list_all new (take (suc i) xs)) (weaker y both.0) (front_more old new xs i x d weaker both.1 (omega (arith, within)) is here)
