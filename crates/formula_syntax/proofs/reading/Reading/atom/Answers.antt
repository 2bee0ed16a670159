use Rattle.formula_syntax.proofs.Onwards.{onward_then}
use Rattle.formula_syntax.proofs.reading.Reading.atom.Goals as goal

pub returns-in_err-args-clause-onward : goal.returns-in_err-args-clause-onward
returns-in_err-args-clause-onward c = onward_then c.in_ok-sign.ensures.onward c.in_err-args.ensures.onward

pub returns-in_err-from_slice-clause-onward : goal.returns-in_err-from_slice-clause-onward
returns-in_err-from_slice-clause-onward c = onward_then c.in_ok-sign.ensures.onward c.in_ok-args.ensures.onward

pub returns-clause-onward : goal.returns-clause-onward
returns-clause-onward c = onward_then c.in_ok-sign.ensures.onward c.in_ok-args.ensures.onward
