use Rattle.instance_laws.proofs.Rows.{rows-instances}
use Rattle.instance_laws.proofs.laws.rows_are_instances.Goals as goal

pub returns : goal.returns
returns c = rows-instances
