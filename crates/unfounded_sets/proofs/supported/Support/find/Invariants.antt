use Rattle.std.proofs.Common.{◌+◌, length}
use Rattle.unfounded_sets.specs.Least.{missing}
use Rattle.unfounded_sets.specs.Scanning.{IsScan, AreServed, none, state_of}
use Rattle.unfounded_sets.proofs.supported.Support.find.Given as goal

abbrev pub invariant-scanning : goal.invariant-scanning
invariant-scanning l = record {
  scan : IsScan l.ground l.trail.entries l.bound (state_of l.self);
  served : AreServed l.ground l.trail.entries l.bound none (length l.ground.rules) (state_of l.self);
}

abbrev pub decreases-scanning : goal.decreases-scanning
decreases-scanning l = missing l.self.found.items + length l.self.fresh.items
