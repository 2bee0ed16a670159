use Rattle.completion.proofs.laws.stable_sets.Goals as goal
use Rattle.completion.proofs.StableSets.{stable_complete, stable_satisfy}

pub returns-clause-complete : goal.returns-clause-complete
returns-clause-complete c = stable_complete

pub returns-clause-clauses : goal.returns-clause-clauses
returns-clause-clauses c = stable_satisfy
