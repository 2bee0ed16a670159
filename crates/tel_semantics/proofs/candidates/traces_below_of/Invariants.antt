use Rattle.std.proofs.Common.{◌≡◌, ◌≤◌, length, drop}
use Rattle.tel_semantics.specs.Lists.{traces_below}
use Rattle.tel_semantics.proofs.candidates.traces_below_of.Given as goal

abbrev pub invariant-loop-at : goal.invariant-loop-at
invariant-loop-at l = (l.at ≤ length l.trace) × (l.traces ≡ traces_below (drop l.at l.trace))

abbrev pub decreases-loop-at : goal.decreases-loop-at
decreases-loop-at l = l.at
