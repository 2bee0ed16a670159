use Rattle.std.proofs.Common.{◌≡◌, drop}
use Rattle.live_instances.specs.Reached.{tuple_fault}
use Rattle.range_faults.specs.Facts.{first_of}
use Rattle.range_faults.proofs.facts.tuple_fault.Given as goal

abbrev pub invariant-loop-arg : goal.invariant-loop-arg
invariant-loop-arg l = first_of l.found (tuple_fault (drop l.arg-index l.tuple)) ≡ tuple_fault l.tuple
