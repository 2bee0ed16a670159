use Rattle.rule_check.proofs.SomeCause.{sound_or_cause}
use Rattle.rule_check.proofs.laws.some_outcome.Goals as goal

pub returns : goal.returns
returns c = sound_or_cause
