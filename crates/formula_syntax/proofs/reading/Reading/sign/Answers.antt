use Rattle.formula_syntax.proofs.Onwards.{onward_then}
use Rattle.formula_syntax.proofs.reading.Reading.sign.Goals as goal

pub returns-in-Some-clause-onward : goal.returns-in-Some-clause-onward
returns-in-Some-clause-onward c = onward_then (onward_then c.take-negative.ensures.onward c.take-before.ensures.onward) (onward_then c.in-Some.ensures.onward c.take-after.ensures.onward)

pub returns-in-None-clause-onward : goal.returns-in-None-clause-onward
returns-in-None-clause-onward c = onward_then (onward_then c.take-negative.ensures.onward c.take-before.ensures.onward) c.in-None.ensures.onward
