use Rattle.rule_check.proofs.OneCause.{one_cause, sound_none}
use Rattle.rule_check.proofs.laws.one_first_cause.Goals as goal

pub returns-clause-one : goal.returns-clause-one
returns-clause-one c = one_cause

pub returns-clause-none : goal.returns-clause-none
returns-clause-none c = sound_none
