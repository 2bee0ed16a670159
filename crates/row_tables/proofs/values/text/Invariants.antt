use Rattle.std.proofs.Common.{length, ◌-◌}
use Rattle.row_tables.proofs.values.text.Given as goal

abbrev pub decreases-text : goal.decreases-text
decreases-text l = length l.bytes - l.at
