use Rattle.tel_semantics.proofs.ExactList.{models_meet_all}
use Rattle.tel_semantics.proofs.laws.models.Goals as goal

pub returns : goal.returns
returns c = models_meet_all
