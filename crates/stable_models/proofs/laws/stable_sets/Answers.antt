use Rattle.stable_models.proofs.LawProofs.{models_are_stable, stable_are_models, sets_differ}
use Rattle.stable_models.proofs.laws.stable_sets.Goals as goal

pub returns-clause-models : goal.returns-clause-models
returns-clause-models c = models_are_stable

pub returns-clause-sets : goal.returns-clause-sets
returns-clause-sets c = stable_are_models

pub returns-clause-one : goal.returns-clause-one
returns-clause-one c = sets_differ
