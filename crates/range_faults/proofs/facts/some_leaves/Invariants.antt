use Rattle.std.proofs.Common.{◌≡◌, drop}
use Rattle.range_faults.specs.Facts.{some_leaves}
use Rattle.range_faults.proofs.facts.some_leaves.Given as goal

abbrev pub invariant-loop-tuple : goal.invariant-loop-tuple
invariant-loop-tuple l = some_leaves (drop l.tuple-index l.tuples) ≡ some_leaves l.tuples
