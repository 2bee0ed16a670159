use Rattle.instance_build.proofs.Said.{instances_mean_rules}
use Rattle.instance_build.proofs.laws.rules_mean.Goals as goal

pub returns : goal.returns
returns c = instances_mean_rules
