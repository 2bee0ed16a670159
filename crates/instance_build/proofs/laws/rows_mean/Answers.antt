use Rattle.instance_build.proofs.Rows.{rows_mean_instances}
use Rattle.instance_build.proofs.laws.rows_mean.Goals as goal

pub returns : goal.returns
returns c = rows_mean_instances
