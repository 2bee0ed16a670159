use Rattle.std.proofs.Common.{◌≡◌}
use Rattle.std.specs.List.{find}
use Rattle.lit_trail.specs.Unassigned.{is_open, visible_at, visible_below}
use Rattle.lit_trail.proofs.OpenStates.{rest_of}
use Rattle.lit_trail.proofs.unassigned.first_from.Given as goal

abbrev pub invariant-loop-t : goal.invariant-loop-t
invariant-loop-t l = find (is_open l.assignment.entries) (rest_of (visible_at l.space.counts) l.states l.t) ≡ find (is_open l.assignment.entries) (visible_below l.space.counts l.states)
