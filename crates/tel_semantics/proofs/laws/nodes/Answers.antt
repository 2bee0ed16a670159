use Rattle.tel_semantics.proofs.NodeLaws.{nodes_mean}
use Rattle.tel_semantics.proofs.laws.nodes.Goals as goal

pub returns : goal.returns
returns c = nodes_mean
