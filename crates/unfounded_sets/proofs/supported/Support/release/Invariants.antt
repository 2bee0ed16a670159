use Rattle.std.proofs.Common.{◌≡◌, ◌+◌, ◌≤◌, true, length}
use Rattle.std.specs.Prelude.{◌==◌}
use Rattle.unfounded_sets.specs.Least.{at, missing}
use Rattle.unfounded_sets.specs.Scanning.{IsScan, AreServed, state_of}
use Rattle.unfounded_sets.specs.Waiting.{row}
use Rattle.unfounded_sets.proofs.supported.Support.release.Given as goal

abbrev pub invariant-waiting : goal.invariant-waiting
invariant-waiting l = record {
  scan : IsScan l.ground l.trail.entries l.bound (state_of l.self);
  found : at l.self.found.items l.var ≡ true;
  served : AreServed l.ground l.trail.entries l.bound (λ v. l.var == v) (length l.ground.rules) (state_of l.self);
  work : missing l.self.found.items + length l.self.fresh.items ≤ missing l.initial.self.found.items + length l.initial.self.fresh.items;
}

abbrev pub decreases-waiting : goal.decreases-waiting
decreases-waiting l = length (row l.self.waits l.var)
