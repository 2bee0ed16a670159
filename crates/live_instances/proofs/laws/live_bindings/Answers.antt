use Rattle.live_instances.proofs.OneList.{live-one}
use Rattle.live_instances.proofs.laws.live_bindings.Goals as goal

pub returns : goal.returns
returns c = live-one
