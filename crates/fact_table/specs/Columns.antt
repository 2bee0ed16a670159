-- The places of each value in a column, as they are held: the list with the number of the cell.
use Rattle.std.specs.Prelude.{◌≡◌, ℕ, ◌<◌, ◌≤◌, Bool, ◌&&◌, ◌==◌, List, [], ◌∷◌, ◌++◌, length, slice_get, Some, if◌then◌else◌}
use Rattle.std.specs.List.{position_or_len}
use Rattle.tel_term.specs.declared.terms.Value.{Value}
use Rattle.tel_rule.specs.Atoms.{value_eq}
use Rattle.fact_table.specs.declared.columns.Cell.{Cell}
use Rattle.fact_table.specs.declared.columns.Columns.{Columns}
use Rattle.fact_table.specs.Lists.{lists_of, list_at, room_at}
use Rattle.fact_table.specs.Rows.{has_at}

abbrev pub same_cell : Cell → Cell → Bool
same_cell a b = (a.column == b.column) && value_eq a.value b.value

-- the number of a cell among these; their count, where it isn't there
abbrev pub number_of : List Cell → Cell → ℕ
number_of cells cell = position_or_len (same_cell cell) cells

abbrev pub places : Columns → Cell → List ℕ
places columns cell = list_at (lists_of columns.lists.items) (number_of columns.cells.keys cell)

-- each cell has a list, and the lists that are left are empty
pub record AreListed (columns : Columns) : Type 0 where
  pub listed : length columns.cells.keys ≤ length columns.lists.items
  pub spare : (number : ℕ) → length columns.cells.keys ≤ number → list_at (lists_of columns.lists.items) number ≡ []

-- a cell is there, and its list takes one place more without memory
pub record HasRoom (columns : Columns) (cell : Cell) : Type 0 where
  pub there : number_of columns.cells.keys cell < length columns.cells.keys
  pub room : 0 < room_at columns.lists.items (number_of columns.cells.keys cell)

-- the same of each cell of a row from one column to before another
abbrev pub HaveRoom : Columns → List Value → ℕ → ℕ → Type 0
HaveRoom columns row from to =
    (column : ℕ) (value : Value) → from ≤ column → column < to → slice_get row column ≡ Some value → HasRoom columns (record { column = column; value = value })

-- places stay, and so does room
pub record Keeps (old new : Columns) : Type 0 where
  pub listed : AreListed new
  pub places_stay : (cell : Cell) → places new cell ≡ places old cell
  pub room_stays : (cell : Cell) → HasRoom old cell → HasRoom new cell

-- the places of a cell, after one was put at the end of those of another
abbrev pub with_place : Cell → ℕ → Cell → List ℕ → List ℕ
with_place cell place other held = if same_cell cell other then held ++ place ∷ [] else held

-- this place, where the row has the cell
abbrev pub if_in : List Value → Cell → ℕ → List ℕ
if_in row cell place = if has_at row cell.column cell.value then place ∷ [] else []
