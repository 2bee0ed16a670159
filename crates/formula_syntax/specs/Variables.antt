-- The variables of a statement, and the index of their places.
use Rattle.std.specs.Prelude.{◌≡◌, ℕ, suc, List, [], ◌∷◌, Option, Some, None, if◌then◌else◌, bytes_eq}
use Rattle.std.specs.Option.{option_map}
use Rattle.indexmap.specs.IndexMap.{IndexMap, get}

-- the first place of a name, if it is there
abbrev pub found : List ℕ → List (List ℕ) → Option ℕ
found name [] = None
found name (first ∷ more) = if bytes_eq name first then Some 0 else option_map suc (found name more)

-- the map has the first place of each name
pub record IsIndex {S : Type 0} (places : IndexMap (List ℕ) ℕ S) (names : List (List ℕ)) : Type 0 where
  pub finds : (name : List ℕ) → get bytes_eq places name ≡ found name names
