use Rattle.trace_list.proofs.Going.{listed_is_front, listed_is_small}
use Rattle.trace_list.proofs.laws.listed_traces.Goals as goal

pub returns-clause-front : goal.returns-clause-front
returns-clause-front c = listed_is_front

pub returns-clause-small : goal.returns-clause-small
returns-clause-small c = listed_is_small
