-- Laws of rising lists of names.
use Rattle.std.specs.Prelude.{◌≡◌, ℕ, List, IsTrue}
use Rattle.tel_rule.specs.Rising.{names_rise, rising_set, has_name}

-- the rising set of names strictly rises
abbrev pub RisingSetRises : Type 0
RisingSetRises = (names : List (List ℕ)) → IsTrue (names_rise (rising_set names))

-- the rising set of names has the same members
abbrev pub RisingSetHasTheNames : Type 0
RisingSetHasTheNames = (names : List (List ℕ)) (name : List ℕ) → has_name (rising_set names) name ≡ has_name names name

-- two lists that strictly rise and have the same members are one
abbrev pub RisingListsAreSets : Type 0
RisingListsAreSets =
    (a b : List (List ℕ)) → IsTrue (names_rise a) → IsTrue (names_rise b) → ((name : List ℕ) → has_name a name ≡ has_name b name) → a ≡ b
