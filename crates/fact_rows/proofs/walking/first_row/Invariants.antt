use Rattle.std.proofs.Common.{◌≡◌, map, take}
use Rattle.fact_rows.specs.Walking.{first_of}
use Rattle.fact_rows.proofs.walking.first_row.Given as goal

abbrev pub invariant-loop-column : goal.invariant-loop-column
invariant-loop-column l = l.row.items ≡ map first_of (take l.column-index l.columns)
