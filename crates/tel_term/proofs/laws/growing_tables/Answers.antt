use Rattle.tel_term.proofs.Growth.{with_term-grows, length-with_term, asked-known, with_term-known, value-stays, stays-distinct, stays-symbols}
use Rattle.tel_term.proofs.laws.growing_tables.Goals as goal

pub returns-clause-end : goal.returns-clause-end
returns-clause-end c = with_term-grows

pub returns-clause-one : goal.returns-clause-one
returns-clause-one c = length-with_term

pub returns-clause-known : goal.returns-clause-known
returns-clause-known c = asked-known

pub returns-clause-again : goal.returns-clause-again
returns-clause-again c = with_term-known

pub returns-clause-stays : goal.returns-clause-stays
returns-clause-stays c = value-stays

pub returns-clause-distinct : goal.returns-clause-distinct
returns-clause-distinct c = stays-distinct

pub returns-clause-symbols : goal.returns-clause-symbols
returns-clause-symbols c = stays-symbols
