use Rattle.unfounded_sets.specs.Scanning.{IsScan, AreServed, none, state_of}
use Rattle.unfounded_sets.proofs.supported.Support.start.Given as goal

abbrev pub invariant-loop-number : goal.invariant-loop-number
invariant-loop-number l = record {
  scan : IsScan l.ground l.trail.entries l.bound (state_of l.self);
  served : AreServed l.ground l.trail.entries l.bound none l.number (state_of l.self);
}
