use Rattle.std.proofs.Common.{sym, ap, ◌∙◌}
use Rattle.std.specs.Prelude.{is_some}
use Rattle.lit_trail.specs.Entries.{Assigned, spot_in}
use Rattle.lit_trail.proofs.assignment.Assignment.settled.Goals as goal

pub returns : goal.returns
returns c var below = ap is_some (sym (c.self.invariant.0.said var ∙ ap (λ (v : Assigned). spot_in v.entries var) c.self.view_is)) ∙ c.self.invariant.2 var below
