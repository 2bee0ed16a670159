-- Tests that agree on what stands in two lists find the same there.
use Rattle.std.proofs.Common.{◌≡◌, ◌+◌, Bool, true, not, cond, ◌||◌, List, [], ◌∷◌, map, length, refl, sym, Some, None, nat_lt, position}
use Rattle.std.specs.List.{list_all, list_any, position_or_len}
use Rattle.std.proofs.lemmas.Bool.{and_parts}
use Rattle.std.proofs.lemmas.List.{length-map}

-- a test of elements that pass another one, and the test of what a function makes of them
module _ {X Y : Type 0} (make : X → Y) (q r : X → Bool) (p : Y → Bool) (agree : (x : X) → r x ≡ true → q x ≡ p (make x)) where
  pub any_same : (xs : List X) → list_all r xs ≡ true → list_any q xs ≡ list_any p (map make xs)
  any_same [] all = refl
  any_same (x ∷ xs) all =
      let both = and_parts (r x) (list_all r xs) all in
      let here = agree x both.0 in
      let rest = any_same xs both.1 in
      λ i. here i || rest i

  pub place_same : (xs : List X) → list_all r xs ≡ true → position_or_len q xs ≡ position_or_len p (map make xs)
  place_same [] all = refl
  place_same (x ∷ xs) all =
      let both = and_parts (r x) (list_all r xs) all in
      let here = agree x both.0 in
      let rest = place_same xs both.1 in
      λ i. cond (not (here i)) (1 + rest i) 0

  pub position_same : (xs : List X) → list_all r xs ≡ true → position q xs ≡ position p (map make xs)
  position_same xs all =
      let place = place_same xs all in
      let long : length xs ≡ length (map make xs) = sym (length-map xs make) in
      λ i. cond (nat_lt (place i) (long i)) (Some (place i)) None
