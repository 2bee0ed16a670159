use Rattle.stable_models.proofs.LawProofs.{supported_nodes, stable_supported_at, stable_nodes, closed_nodes}
use Rattle.stable_models.proofs.laws.nodes.Goals as goal

pub returns-clause-supported : goal.returns-clause-supported
returns-clause-supported c = supported_nodes

pub returns-clause-sound : goal.returns-clause-sound
returns-clause-sound c = stable_supported_at

pub returns-clause-stable : goal.returns-clause-stable
returns-clause-stable c = stable_nodes

pub returns-clause-closed : goal.returns-clause-closed
returns-clause-closed c = closed_nodes
