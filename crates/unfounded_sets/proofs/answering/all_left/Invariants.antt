use Rattle.std.proofs.Common.{◌≡◌, ◌-◌, ◌++◌, length}
use Rattle.std.specs.List.{filter, range_with_len}
use Rattle.unfounded_sets.specs.Least.{wanted_below, at}
use Rattle.unfounded_sets.specs.Marks.{rest_of}
use Rattle.unfounded_sets.proofs.answering.all_left.Given as goal

abbrev pub invariant-loop-place : goal.invariant-loop-place
invariant-loop-place l = (l.set.items ++ filter (rest_of (wanted_below l.ground l.trail.entries (length l.found)) (at l.found)) (range_with_len l.place (length l.found - l.place))) ≡ filter (rest_of (wanted_below l.ground l.trail.entries (length l.found)) (at l.found)) (range_with_len 0 (length l.found))
