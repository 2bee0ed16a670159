use Rattle.range_faults.proofs.Ruled.{marks_of}
use Rattle.range_faults.proofs.planning.mark_rows.Goals as goal

pub returns-clause-marks : goal.returns-clause-marks
returns-clause-marks g c = λ statements rows tables symbols head rule_in.
    marks_of (g.N.TableNumbers.number c.args.numbers.now) statements rows tables symbols c.args.rule.now head c.args.body.now rule_in c.in_ok-marks.marks.items c.len.result c.len.ensures c.in_ok-marks.ensures.all
