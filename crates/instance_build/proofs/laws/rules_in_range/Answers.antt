use Rattle.instance_build.proofs.ListsInRange.{instances_are_in_range}
use Rattle.instance_build.proofs.laws.rules_in_range.Goals as goal

pub returns : goal.returns
returns c = instances_are_in_range
