use Rattle.tel_semantics.proofs.SatLaws.{sat-agree}
use Rattle.tel_semantics.proofs.laws.agreement.Goals as goal

pub returns : goal.returns
returns c = sat-agree
