use Rattle.live_instances.proofs.Outcomes.{outcomes-one, rules-leave}
use Rattle.live_instances.proofs.laws.one_outcome.Goals as goal

pub returns-clause-one : goal.returns-clause-one
returns-clause-one c = outcomes-one

pub returns-clause-range : goal.returns-clause-range
returns-clause-range c = rules-leave
