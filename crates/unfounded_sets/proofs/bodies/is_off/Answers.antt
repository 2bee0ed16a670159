use Rattle.std.proofs.Common.{◌∙◌, ap}
use Rattle.std.specs.Prelude.{is_some}
use Rattle.unfounded_sets.specs.Unfounded.{is_false, body_lits}
use Rattle.unfounded_sets.proofs.Finding.{some_any}
use Rattle.unfounded_sets.proofs.bodies.is_off.Goals as goal

pub returns : goal.returns
returns c = c.is_some.ensures ∙ ap is_some c.false_lit.ensures ∙ some_any (is_false c.args.trail.now.entries) (body_lits c.args.rule.now)
