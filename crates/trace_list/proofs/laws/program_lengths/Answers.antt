use Rattle.trace_list.proofs.Extending.{new_has_left, extended_has_length, length_has_left, left_stays, length_has_vars}
use Rattle.trace_list.proofs.laws.program_lengths.Goals as goal

pub returns-clause-new : goal.returns-clause-new
returns-clause-new c = new_has_left

pub returns-clause-extended : goal.returns-clause-extended
returns-clause-extended c = extended_has_length

pub returns-clause-left : goal.returns-clause-left
returns-clause-left c = length_has_left

pub returns-clause-stays : goal.returns-clause-stays
returns-clause-stays c = left_stays

pub returns-clause-vars : goal.returns-clause-vars
returns-clause-vars c = length_has_vars
