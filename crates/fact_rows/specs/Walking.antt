-- The rows of a tuple, one behind another.
use Rattle.std.specs.Prelude.{◌≡◌, pos, ◌+ℤ◌, int_le, Bool, true, false, List, [], ◌∷◌, ◌++◌, map, Option, Some, None, IsTrue}
use Rattle.std.specs.List.{list_all, flat_map}
use Rattle.tel_term.specs.declared.terms.Value.{Value}
use Rattle.tel_term.specs.declared.terms.Value.TheVariants as values
use Rattle.tel_semantics.specs.Tables.{numbers_between, choices}
use Rattle.fact_rows.specs.declared.values.Values.{Values}
use Rattle.fact_rows.specs.declared.values.Values.TheVariants as kinds

-- ---- the values of an argument

abbrev pub all_of : Values → List Value
all_of (kinds.One value) = value ∷ []
all_of (kinds.Range low high) = numbers_between low high

abbrev pub first_of : Values → Value
first_of (kinds.One value) = value
first_of (kinds.Range low high) = values.Num low

-- those behind one of them
abbrev pub behind : Values → Value → List Value
behind (kinds.One value) now = []
behind (kinds.Range low high) (values.Num number) = numbers_between (number +ℤ pos 1) high
behind (kinds.Range low high) (values.Sym symbol) = []

-- there is a value
abbrev pub has_first : Values → Bool
has_first (kinds.One value) = true
has_first (kinds.Range low high) = int_le low high

-- the values of an argument, where it has any
abbrev pub AreValues : Option Values → List Value → Type 0
AreValues None list = list ≡ []
AreValues (Some found) list = IsTrue (has_first found) × (all_of found ≡ list)

-- the next value, where there is one
abbrev pub IsNext : Values → Value → Option Value → Type 0
IsNext all now None = behind all now ≡ []
IsNext all now (Some next) = behind all now ≡ next ∷ behind all next

-- ---- rows

-- those behind a row: first those that differ from it further on
abbrev pub rows_behind : List Values → List Value → List (List Value)
rows_behind [] row = []
rows_behind (column ∷ more) [] = []
rows_behind (column ∷ more) (now ∷ row) =
    map (λ (rest : List Value). now ∷ rest) (rows_behind more row)
    ++ flat_map (λ (value : Value). map (λ (rest : List Value). value ∷ rest) (choices (map all_of more))) (behind column now)

-- one value or more in each column, if there are any columns
abbrev pub AreFull : List Values → Type 0
AreFull columns = IsTrue (list_all has_first columns)

-- the columns of rows, where there are any
abbrev pub AreColumns : Option (List Values) → List (List Value) → Type 0
AreColumns None rows = rows ≡ []
AreColumns (Some columns) rows = AreFull columns × (choices (map all_of columns) ≡ rows)

-- a row was turned to the one behind it, where there is one
abbrev pub Turns : List Values → List Value → List Value → Bool → Type 0
Turns columns old new true = rows_behind columns old ≡ new ∷ rows_behind columns new
Turns columns old new false = rows_behind columns old ≡ []
