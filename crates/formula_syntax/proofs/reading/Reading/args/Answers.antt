use Rattle.formula_syntax.proofs.Onwards.{onward_then}
use Rattle.formula_syntax.proofs.reading.Reading.args.Goals as goal

pub returns-in_err-all-clause-onward : goal.returns-in_err-all-clause-onward
returns-in_err-all-clause-onward c = onward_then c.take.ensures.onward (onward_then c.in_ok-first.ensures.onward c.in_err-all.ensures.onward)

pub returns-in_err-expect-clause-onward : goal.returns-in_err-expect-clause-onward
returns-in_err-expect-clause-onward c = onward_then (onward_then c.take.ensures.onward c.in_ok-first.ensures.onward) (onward_then c.in_ok-all.ensures.onward c.in_err-expect.ensures.onward)

pub returns-clause-onward : goal.returns-clause-onward
returns-clause-onward c = onward_then (onward_then c.take.ensures.onward c.in_ok-first.ensures.onward) (onward_then c.in_ok-all.ensures.onward c.in_ok-expect.ensures.onward)
