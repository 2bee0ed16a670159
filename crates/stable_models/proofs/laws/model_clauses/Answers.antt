use Rattle.stable_models.proofs.ValuedModels.{models_valued, models_satisfy}
use Rattle.stable_models.proofs.laws.model_clauses.Goals as goal

pub returns-clause-valued : goal.returns-clause-valued
returns-clause-valued c = models_valued

pub returns-clause-clauses : goal.returns-clause-clauses
returns-clause-clauses c = models_satisfy
