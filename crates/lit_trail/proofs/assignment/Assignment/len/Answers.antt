use Rattle.std.proofs.Common.{◌∙◌}
use Rattle.lit_trail.proofs.Places.{count_is}
use Rattle.lit_trail.proofs.assignment.Assignment.len.Goals as goal

pub returns : goal.returns
returns c = c.len.ensures ∙ c.self.inside.order.ok.0 ∙ count_is _ _ _ c.self.view_is
