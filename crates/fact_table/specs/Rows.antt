-- The rows of a table, and the places of those that have a value in a column.
use Rattle.std.specs.Prelude.{ℕ, Bool, false, List, [], ◌∷◌, ◌++◌, map, filter, slice_get, slice_index_or, Option, Some, None, if◌then◌else◌}
use Rattle.std.specs.List.{list_any, enumerate_from}
use Rattle.tel_term.specs.declared.terms.Value.{Value}
use Rattle.tel_rule.specs.Atoms.{value_eq, values_eq}

-- the rows of a predicate, by its number; of one that was never named there is none
abbrev pub rows_of : List (List (List Value)) → ℕ → List (List Value)
rows_of tables predicate = slice_index_or tables predicate []

-- whether a row is among these
abbrev pub has_row : List (List Value) → List Value → Bool
has_row rows row = list_any (values_eq row) rows

-- the rows and this one, which is put at the end unless it is there
abbrev pub with_row : List (List Value) → List Value → List (List Value)
with_row rows row = if has_row rows row then rows else rows ++ row ∷ []

abbrev pub is_value : Option Value → Value → Bool
is_value None value = false
is_value (Some other) value = value_eq other value

-- whether a row has this value in a column, from 0
abbrev pub has_at : List Value → ℕ → Value → Bool
has_at row column value = is_value (slice_get row column) value

-- the places, from 0, of the rows that have this value in this column
abbrev pub places_with : List (List Value) → ℕ → Value → List ℕ
places_with rows column value = map (λ (r : ℕ × List Value). r.0) (filter (λ (r : ℕ × List Value). has_at r.1 column value) (enumerate_from 0 rows))
