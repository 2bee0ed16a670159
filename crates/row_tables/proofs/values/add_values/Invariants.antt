use Rattle.std.proofs.Common.{length, ◌-◌, ◌≤◌}
use Rattle.row_tables.proofs.values.add_values.Given as goal

abbrev pub invariant-values : goal.invariant-values
invariant-values l = l.at ≤ length l.line

abbrev pub decreases-values : goal.decreases-values
decreases-values l = length l.line - l.at
