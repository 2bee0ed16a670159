use Rattle.std.proofs.Common.{◌≡◌, ◌++◌, take, length}
use Rattle.fact_table.specs.declared.columns.Cell.{Cell}
use Rattle.fact_table.specs.Columns.{places, if_in, AreListed, HaveRoom}
use Rattle.fact_table.proofs.columns.Columns.put_row.Given as goal

abbrev pub invariant-loop-column : goal.invariant-loop-column
invariant-loop-column l =
    AreListed l.self × ((other : Cell) → places l.self other ≡ places l.initial.self other ++ if_in (take l.column l.row) other l.place) × HaveRoom l.self l.row l.column (length l.row)
