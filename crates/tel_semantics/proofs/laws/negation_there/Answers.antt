use Rattle.tel_semantics.proofs.SatLaws.{sat-negation}
use Rattle.tel_semantics.proofs.laws.negation_there.Goals as goal

pub returns : goal.returns
returns c = sat-negation
