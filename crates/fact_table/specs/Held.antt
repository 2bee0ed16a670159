-- How the places of a table are held.
use Rattle.std.specs.Prelude.{◌≡◌, List}
use Rattle.tel_term.specs.declared.terms.Value.{Value}
use Rattle.fact_table.specs.declared.columns.Cell.{Cell}
use Rattle.fact_table.specs.declared.columns.Columns.{Columns}
use Rattle.fact_table.specs.Rows.{places_with}
use Rattle.fact_table.specs.Columns.{places, AreListed}

-- for each value in a column the places of the rows that have it
pub record IsHeld (rows : List (List Value)) (columns : Columns) : Type 0 where
  pub listed : AreListed columns
  pub places_are : (cell : Cell) → places columns cell ≡ places_with rows cell.column cell.value
