use Rattle.std.proofs.Common.{◌≡◌, true, take}
use Rattle.unfounded_sets.specs.Least.{wanted_below, at, all_of}
use Rattle.unfounded_sets.proofs.supported.blocker.Given as goal

abbrev pub invariant-loop-place : goal.invariant-loop-place
invariant-loop-place l = all_of (wanted_below l.ground l.trail.entries l.bound) (at l.found) (take l.place l.vars) ≡ true
