use Rattle.std.proofs.Common.{◌∙◌, map}
use Rattle.tel_base.specs.Literals.{lit_of}
use Rattle.unfounded_sets.specs.Unfounded.{is_false, no_lit}
use Rattle.unfounded_sets.proofs.Finding.{find_here, find_past}
use Rattle.unfounded_sets.proofs.bodies.false_among.Goals as goal

pub returns-in-Some : goal.returns-in-Some
returns-in-Some c = find_here (is_false c.args.trail.now.entries) (map lit_of c.args.pos.now) (map no_lit c.args.neg.now) c.in-Some.lit c.in-Some.ensures

pub returns-in-None : goal.returns-in-None
returns-in-None c = c.first_true.ensures ∙ find_past (is_false c.args.trail.now.entries) (map lit_of c.args.pos.now) (map no_lit c.args.neg.now) c.in-None.ensures
