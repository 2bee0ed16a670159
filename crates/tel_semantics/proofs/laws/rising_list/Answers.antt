use Rattle.tel_semantics.proofs.Ordered.{list_of-rises}
use Rattle.tel_semantics.proofs.laws.rising_list.Goals as goal

pub returns : goal.returns
returns c = list_of-rises
