use Rattle.std.proofs.Common.{◌≡◌, drop, length}
use Rattle.std.specs.List.{list_any}
use Rattle.unfounded_sets.specs.Least.{wanted_below, at}
use Rattle.unfounded_sets.specs.Marks.{rest_of}
use Rattle.unfounded_sets.proofs.answering.any_left.Given as goal

abbrev pub invariant-loop-var : goal.invariant-loop-var
invariant-loop-var l = list_any (rest_of (wanted_below l.ground l.trail.entries (length l.found)) (at l.found)) (drop l.var-index l.vars) ≡ list_any (rest_of (wanted_below l.ground l.trail.entries (length l.found)) (at l.found)) l.vars
