use Rattle.instance_build.proofs.Rows.{rows_are_in_range}
use Rattle.instance_build.proofs.laws.rows_in_range.Goals as goal

pub returns : goal.returns
returns c = rows_are_in_range
