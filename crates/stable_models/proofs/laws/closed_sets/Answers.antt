use Rattle.stable_models.proofs.LawProofs.{models_closed, closed_models}
use Rattle.stable_models.proofs.laws.closed_sets.Goals as goal

pub returns-clause-closed : goal.returns-clause-closed
returns-clause-closed c = models_closed

pub returns-clause-models : goal.returns-clause-models
returns-clause-models c = closed_models
