use Rattle.stable_models.proofs.SettledModules.{templates_settled}
use Rattle.stable_models.proofs.PlainModules.{templates_apart, templates_plain}
use Rattle.stable_models.proofs.laws.settled_modules.Goals as goal

pub returns-clause-settled : goal.returns-clause-settled
returns-clause-settled c = templates_settled

pub returns-clause-apart : goal.returns-clause-apart
returns-clause-apart c = templates_apart

pub returns-clause-plain : goal.returns-clause-plain
returns-clause-plain c = templates_plain
