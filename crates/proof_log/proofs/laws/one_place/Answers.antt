use Rattle.proof_log.specs.Texts.{IsLineText}
use Rattle.proof_log.proofs.Sequences.{stops-once}
use Rattle.proof_log.proofs.laws.one_place.Goals as goal

pub returns : goal.returns
returns c = stops-once IsLineText
