use Rattle.tel_semantics.proofs.SatLaws.{sat-persists}
use Rattle.tel_semantics.proofs.laws.persistence.Goals as goal

pub returns : goal.returns
returns c = sat-persists
