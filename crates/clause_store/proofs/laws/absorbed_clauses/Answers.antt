use Rattle.clause_store.proofs.Free.{added_is_free, held_is_absorbed}
use Rattle.clause_store.proofs.Counting.{fewer_left, at_most_left}
use Rattle.clause_store.proofs.laws.absorbed_clauses.Goals as goal

pub returns-clause-free : goal.returns-clause-free
returns-clause-free c = added_is_free

pub returns-clause-held : goal.returns-clause-held
returns-clause-held c = held_is_absorbed

pub returns-clause-fewer : goal.returns-clause-fewer
returns-clause-fewer c = fewer_left

pub returns-clause-most : goal.returns-clause-most
returns-clause-most c = at_most_left
