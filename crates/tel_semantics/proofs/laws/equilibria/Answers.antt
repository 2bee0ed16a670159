use Rattle.tel_semantics.proofs.ExactList.{list_of-equilibria}
use Rattle.tel_semantics.proofs.laws.equilibria.Goals as goal

pub returns : goal.returns
returns c = list_of-equilibria
