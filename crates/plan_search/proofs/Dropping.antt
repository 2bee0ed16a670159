-- What is left of a list behind a place.
use Rattle.std.proofs.Common.{◌≡◌, ℕ, zero, suc, ◌<◌, ◌≤◌, List, [], ◌∷◌, length, drop, get_or, refl, sym, ap, inl, inr, arith}
use Rattle.std.specs.Prelude.{Some, None, slice_get}
use Rattle.tel_base.specs.Members.{In}

pub drop_next : {X : Type 0} (xs ys : List X) (i : ℕ) (x : X) → drop i xs ≡ x ∷ ys → drop (suc i) xs ≡ ys
drop_next [] ys zero x e = absurd (cc)
drop_next [] ys (suc i) x e = absurd (cc)
drop_next (y ∷ xs) ys zero x e = cc
drop_next (y ∷ xs) ys (suc i) x e = drop_next xs ys i x e

pub dropped_within : {X : Type 0} (xs ys : List X) (i : ℕ) (x : X) → drop i xs ≡ x ∷ ys → i < length xs
dropped_within [] ys zero x e = absurd (cc)
dropped_within [] ys (suc i) x e = absurd (cc)
dropped_within (z ∷ xs) ys zero x e = omega arith
dropped_within (z ∷ xs) ys (suc i) x e = omega (arith, dropped_within xs ys i x e)

pub drop_past : {X : Type 0} (xs : List X) (i : ℕ) → length xs ≤ i → drop i xs ≡ []
drop_past [] zero less = refl
drop_past [] (suc i) less = refl
drop_past (x ∷ xs) zero less = absurd (omega (arith, less))
drop_past (x ∷ xs) (suc i) less = drop_past xs i (omega (arith, less))

pub drop_at : {X : Type 0} (xs : List X) (i : ℕ) (x : X) → slice_get xs i ≡ Some x → drop i xs ≡ x ∷ drop (suc i) xs
drop_at [] i x e = absurd (cc)
drop_at {X} (y ∷ xs) zero x e = let same : y ≡ x = cc in ap (λ (z : X). z ∷ xs) same
drop_at (y ∷ xs) (suc i) x e = drop_at xs i x e

pub drop_get_or : {X : Type 0} (xs : List X) (i : ℕ) (d : X) → i < length xs → drop i xs ≡ get_or xs i d ∷ drop (suc i) xs
drop_get_or [] i d less = absurd (omega (arith, less))
drop_get_or (y ∷ xs) zero d less = refl
drop_get_or (y ∷ xs) (suc i) d less = drop_get_or xs i d (omega (arith, less))

pub get_at : {X : Type 0} (xs : List X) (i : ℕ) (x : X) → i < length xs → x ≡ get_or xs i x → slice_get xs i ≡ Some x
get_at [] i x less is = absurd (omega (arith, less))
get_at (y ∷ xs) zero x less is = ap Some (sym is)
get_at (y ∷ xs) (suc i) x less is = get_at xs i x (omega (arith, less)) is

pub In-get : {X : Type 0} (xs : List X) (i : ℕ) (x : X) → slice_get xs i ≡ Some x → In x xs
In-get [] i x e = absurd (cc)
In-get (y ∷ xs) zero x e = let same : y ≡ x = cc in inl same
In-get (y ∷ xs) (suc i) x e = inr (In-get xs i x e)

pub get_past : {X : Type 0} (xs : List X) (i : ℕ) → length xs ≤ i → slice_get xs i ≡ None
get_past [] i less = refl
get_past (y ∷ xs) zero less = absurd (omega (arith, less))
get_past (y ∷ xs) (suc i) less = get_past xs i (omega (arith, less))
