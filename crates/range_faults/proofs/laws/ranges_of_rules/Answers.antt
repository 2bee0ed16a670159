use Rattle.range_faults.proofs.Found.{ranges_are_found}
use Rattle.range_faults.proofs.laws.ranges_of_rules.Goals as goal

pub returns : goal.returns
returns c = ranges_are_found
