use Rattle.instance_build.proofs.Said.{instances_are_guarded}
use Rattle.instance_build.proofs.laws.rules_guarded.Goals as goal

pub returns : goal.returns
returns c = instances_are_guarded
