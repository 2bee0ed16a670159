use Rattle.unfounded_sets.specs.Unfounded.{body_lits}
use Rattle.unfounded_sets.proofs.Marked.{found_false, mark_more}
use Rattle.unfounded_sets.proofs.answering.mark_body.Goals as goal

pub bounds-marks-lit : goal.bounds-marks-lit
bounds-marks-lit c = c.requires c.in-Some.lit (found_false c.args.trail.now.entries (body_lits c.args.rule.now) c.in-Some.lit c.in-Some.ensures)

pub returns-in-Some-clause-marks : goal.returns-in-Some-clause-marks
returns-in-Some-clause-marks c =
    mark_more c.args.trail.now.entries (body_lits c.args.rule.now) c.args.marks.now c.in-Some.lit (c.requires c.in-Some.lit (found_false c.args.trail.now.entries (body_lits c.args.rule.now) c.in-Some.lit c.in-Some.ensures)) c.in-Some.ensures
