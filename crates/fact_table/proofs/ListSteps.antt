-- Lists by number, when one of them is written.
use Rattle.std.proofs.Common.{◌≡◌, ◌≢◌, ℕ, zero, suc, ◌<◌, ◌≤◌, List, [], ◌∷◌, ◌++◌, length, get_or, refl, ap, ◌∙◌, ◌⊎◌, arith, inl, inr}
use Rattle.std.proofs.lemmas.Bool.{cases_order}
use Rattle.std.specs.Prelude.{slice_set, slice_index_or}
use Rattle.std.specs.Global.{Vec}
use Rattle.std.proofs.lemmas.List.{get_or-set_other, get_or-set_same}
use Rattle.fact_table.specs.Lists.{lists_of, list_at, room_of, rooms_of, room_at}

pub lists_of-set : (xs : List (Vec ℕ)) (i : ℕ) (v : Vec ℕ) → lists_of (slice_set xs i v) ≡ slice_set (lists_of xs) i v.items
lists_of-set [] i v = refl
lists_of-set (x ∷ xs) zero v = refl
lists_of-set (x ∷ xs) (suc i) v = ap (λ (l : List (List ℕ)). x.items ∷ l) (lists_of-set xs i v)

pub list_at-get : (xs : List (Vec ℕ)) (i : ℕ) (d : Vec ℕ) → i < length xs → list_at (lists_of xs) i ≡ (get_or xs i d).items
list_at-get [] i d l = absurd (omega (arith, l))
list_at-get (x ∷ xs) zero d l = refl
list_at-get (x ∷ xs) (suc i) d l = list_at-get xs i d (omega (arith, l))

pub set_same : (xs : List (List ℕ)) (i : ℕ) → slice_set xs i (list_at xs i) ≡ xs
set_same [] i = refl
set_same (x ∷ xs) zero = refl
set_same (x ∷ xs) (suc i) = ap (λ (l : List (List ℕ)). x ∷ l) (set_same xs i)

rooms_of-set : (xs : List (Vec ℕ)) (i : ℕ) (v : Vec ℕ) → rooms_of (slice_set xs i v) ≡ slice_set (rooms_of xs) i (room_of v)
rooms_of-set [] i v = refl
rooms_of-set (x ∷ xs) zero v = refl
rooms_of-set (x ∷ xs) (suc i) v = ap (λ (l : List ℕ). room_of x ∷ l) (rooms_of-set xs i v)

pub room_at-get : (xs : List (Vec ℕ)) (i : ℕ) (d : Vec ℕ) → i < length xs → room_at xs i ≡ room_of (get_or xs i d)
room_at-get [] i d l = absurd (omega (arith, l))
room_at-get (x ∷ xs) zero d l = refl
room_at-get (x ∷ xs) (suc i) d l = room_at-get xs i d (omega (arith, l))

-- a list that is written changes no other list's room
pub room_at-other : (xs : List (Vec ℕ)) (i : ℕ) (v : Vec ℕ) (other : ℕ) → other ≢ i → room_at (slice_set xs i v) other ≡ room_at xs other
room_at-other xs i v other apart = ap (λ (l : List ℕ). slice_index_or l other 0) (rooms_of-set xs i v) ∙ get_or-set_other (rooms_of xs) i other (room_of v) 0 apart

pub length-rooms_of : (xs : List (Vec ℕ)) → length (rooms_of xs) ≡ length xs
length-rooms_of [] = refl
length-rooms_of (x ∷ xs) = let rest = length-rooms_of xs in omega (arith, rest)

pub length-lists_of : (xs : List (Vec ℕ)) → length (lists_of xs) ≡ length xs
length-lists_of [] = refl
length-lists_of (x ∷ xs) = let rest = length-lists_of xs in omega (arith, rest)

-- a list that is written has its room
pub room_at-written : (xs : List (Vec ℕ)) (i : ℕ) (v : Vec ℕ) → i < length xs → room_at (slice_set xs i v) i ≡ room_of v
room_at-written xs i v inside =
    let len = length-rooms_of xs in
    ap (λ (l : List ℕ). slice_index_or l i 0) (rooms_of-set xs i v) ∙ get_or-set_same (rooms_of xs) i (room_of v) 0 (omega (arith, inside, len))

-- rooms don't fall where that of the written list doesn't
pub rooms_rise : (xs : List (Vec ℕ)) (i : ℕ) (v : Vec ℕ) → i < length xs → room_at xs i ≤ room_of v → (other : ℕ) → room_at xs other ≤ room_at (slice_set xs i v) other
rooms_rise xs i v inside more other = by (cases_order other i)
  where
    apart_by : other ≢ i → room_at xs other ≤ room_at (slice_set xs i v) other
    apart_by apart = let same = room_at-other xs i v other apart in omega (arith, same)

    by : (other ≡ i) ⊎ ((other < i) ⊎ (i < other)) → room_at xs other ≤ room_at (slice_set xs i v) other
    by (inl is) =
        let same : room_at xs other ≡ room_at xs i = ap (room_at xs) is in
        let new : room_at (slice_set xs i v) other ≡ room_of v = ap (room_at (slice_set xs i v)) is ∙ room_at-written xs i v inside in
        omega (arith, same, new, more)
    by (inr (inl below)) = apart_by (λ is. omega (arith, is, below))
    by (inr (inr above)) = apart_by (λ is. omega (arith, is, above))

-- an empty list at the end is no other than none
pub list_at-pushed : (xs : List (Vec ℕ)) (v : Vec ℕ) → v.items ≡ [] → (number : ℕ) → list_at (lists_of (xs ++ v ∷ [])) number ≡ list_at (lists_of xs) number
list_at-pushed [] v empty zero = empty
list_at-pushed [] v empty (suc number) = refl
list_at-pushed (x ∷ xs) v empty zero = refl
list_at-pushed (x ∷ xs) v empty (suc number) = list_at-pushed xs v empty number

pub room_at-pushed : (xs : List (Vec ℕ)) (v : Vec ℕ) (number : ℕ) → room_at xs number ≤ room_at (xs ++ v ∷ []) number
room_at-pushed [] v number = omega arith
room_at-pushed (x ∷ xs) v zero = omega arith
room_at-pushed (x ∷ xs) v (suc number) = room_at-pushed xs v number
