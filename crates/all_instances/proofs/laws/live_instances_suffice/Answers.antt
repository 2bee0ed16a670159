use Rattle.all_instances.proofs.Suffices.{live_suffice}
use Rattle.all_instances.proofs.laws.live_instances_suffice.Goals as goal

pub returns : goal.returns
returns c = live_suffice
