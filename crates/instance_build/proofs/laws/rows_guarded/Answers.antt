use Rattle.instance_build.proofs.Rows.{rows_are_guarded}
use Rattle.instance_build.proofs.laws.rows_guarded.Goals as goal

pub returns : goal.returns
returns c = rows_are_guarded
