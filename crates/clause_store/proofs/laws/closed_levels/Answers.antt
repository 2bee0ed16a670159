use Rattle.clause_store.proofs.Levels.{closure_closed, closed_closure, closure_stays}
use Rattle.clause_store.proofs.laws.closed_levels.Goals as goal

pub returns-clause-closed : goal.returns-clause-closed
returns-clause-closed c = closure_closed

pub returns-clause-closure : goal.returns-clause-closure
returns-clause-closure c = closed_closure

pub returns-clause-stays : goal.returns-clause-stays
returns-clause-stays c = closure_stays
