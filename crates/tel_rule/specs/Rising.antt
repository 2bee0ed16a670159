-- Lists that strictly rise: numbers by value, and names by their bytes, a name before those that it begins.
use Rattle.std.specs.Prelude.{ℕ, Bool, true, ◌&&◌, List, [], ◌∷◌, nat_lt}
use Rattle.std.specs.List.{list_any}
use Rattle.std.specs.Ordering.{is_lt, match_ordering}
use Rattle.std.specs.Str.{bytes_eq}
pub use Rattle.tel_term.specs.Order.{name_cmp}

-- whether a name comes strictly before another
abbrev pub name_lt : List ℕ → List ℕ → Bool
name_lt a b = is_lt (name_cmp a b)

-- whether each element is below the next, by a test of two
abbrev pub rises : {X : Type 0} → (X → X → Bool) → List X → Bool
rises below [] = true
rises below (x ∷ []) = true
rises below (x ∷ y ∷ more) = below x y && rises below (y ∷ more)

abbrev pub numbers_rise : List ℕ → Bool
numbers_rise xs = rises nat_lt xs

abbrev pub names_rise : List (List ℕ) → Bool
names_rise names = rises name_lt names

-- a rising list with one name more, at its place, unless it is there
abbrev pub with_name : List ℕ → List (List ℕ) → List (List ℕ)
with_name name [] = name ∷ []
with_name name (first ∷ more) = match_ordering (name_cmp name first) (name ∷ first ∷ more) (first ∷ more) (first ∷ with_name name more)

-- a rising list with these names more
abbrev pub with_names : List (List ℕ) → List (List ℕ) → List (List ℕ)
with_names [] names = names
with_names (name ∷ more) names = with_names more (with_name name names)

-- the names, each once, in rising order
abbrev pub rising_set : List (List ℕ) → List (List ℕ)
rising_set names = with_names names []

-- whether a name is among these
abbrev pub has_name : List (List ℕ) → List ℕ → Bool
has_name names name = list_any (bytes_eq name) names
