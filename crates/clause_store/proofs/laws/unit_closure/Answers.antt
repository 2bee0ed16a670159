use Rattle.clause_store.proofs.Closures.{up_start, up_keeps, up_grows, conflict_grows}
use Rattle.clause_store.proofs.laws.unit_closure.Goals as goal

pub returns-clause-holds : goal.returns-clause-holds
returns-clause-holds c = up_start

pub returns-clause-keeps : goal.returns-clause-keeps
returns-clause-keeps c = up_keeps

pub returns-clause-least : goal.returns-clause-least
returns-clause-least c clauses start X holds keeps lit up = up X holds keeps

pub returns-clause-grows : goal.returns-clause-grows
returns-clause-grows c = up_grows

pub returns-clause-conflict : goal.returns-clause-conflict
returns-clause-conflict c = conflict_grows
