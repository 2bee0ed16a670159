use Rattle.std.proofs.Common.{◌≡◌, map, drop}
use Rattle.tel_term.specs.Arithmetic.{expr_value}
use Rattle.live_instances.specs.Reached.{first_fault}
use Rattle.range_faults.specs.Facts.{first_of}
use Rattle.range_faults.specs.Operations.{all_said}
use Rattle.range_faults.proofs.faults.first_fault.Given as goal

abbrev pub invariant-loop-operation : goal.invariant-loop-operation
invariant-loop-operation l = first_of l.found (first_fault (map (expr_value l.values) (all_said (drop l.operation-index l.operations)))) ≡ first_fault (map (expr_value l.values) (all_said l.operations))
