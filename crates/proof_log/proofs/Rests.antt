-- What is left of a list from a place on begins with the item there.
use Rattle.std.specs.Prelude.{◌≡◌, ℕ, ◌+◌, ◌<◌, List, ◌++◌, length, drop}
use Rattle.std.specs.List.{flat_map}
use Rattle.std.proofs.Common.{ap, get_or, add-one, drop-cons}

pub pieces-rest : {X : Type 0} (f : X → List ℕ) (xs : List X) (i : ℕ) (d : X) → i < length xs
    → flat_map f (drop i xs) ≡ f (get_or xs i d) ++ flat_map f (drop (i + 1) xs)
pieces-rest f xs i d within = rw add-one (ap (flat_map f) (drop-cons xs i d within))
