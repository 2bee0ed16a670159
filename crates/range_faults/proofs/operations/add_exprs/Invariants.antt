use Rattle.std.proofs.Common.{◌≡◌, ◌++◌, drop}
use Rattle.range_faults.specs.Operations.{operations, all_said}
use Rattle.range_faults.proofs.operations.add_exprs.Given as goal

abbrev pub invariant-loop-expr : goal.invariant-loop-expr
invariant-loop-expr l = all_said l.found.items ++ operations (drop l.expr-index l.exprs) ≡ all_said l.initial.found.items ++ operations l.exprs
