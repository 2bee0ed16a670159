use Rattle.fact_table.specs.Columns.{HaveRoom, Keeps}
use Rattle.fact_table.proofs.columns.Columns.reserve_row.Given as goal

abbrev pub invariant-loop-column : goal.invariant-loop-column
invariant-loop-column l = Keeps l.initial.self l.self × HaveRoom l.self l.row 0 l.column
