use Rattle.std.proofs.Common.{◌≡◌, ◌-◌, ◌&&◌, length}
use Rattle.std.specs.List.{find, range_with_len}
use Rattle.unfounded_sets.specs.Unfounded.{is_true}
use Rattle.unfounded_sets.specs.Least.{wanted_below, at}
use Rattle.unfounded_sets.specs.Marks.{rest_of}
use Rattle.unfounded_sets.proofs.answering.first_left.Given as goal

abbrev pub invariant-loop-place : goal.invariant-loop-place
invariant-loop-place l = find (λ v. rest_of (wanted_below l.ground l.trail.entries (length l.found)) (at l.found) v && is_true l.trail.entries v) (range_with_len l.place (length l.found - l.place)) ≡ find (λ v. rest_of (wanted_below l.ground l.trail.entries (length l.found)) (at l.found) v && is_true l.trail.entries v) (range_with_len 0 (length l.found))
