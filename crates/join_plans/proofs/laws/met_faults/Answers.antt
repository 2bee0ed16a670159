use Rattle.join_plans.proofs.Ranges.{ranges_exact}
use Rattle.join_plans.proofs.laws.met_faults.Goals as goal

pub returns : goal.returns
returns c = ranges_exact
