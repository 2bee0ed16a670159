use Rattle.std.proofs.Common.{◌≡◌, ◌++◌, drop}
use Rattle.rule_goals.specs.Laws.{body_exprs}
use Rattle.range_faults.specs.Operations.{operations, all_said}
use Rattle.range_faults.proofs.operations.add_body.Given as goal

abbrev pub invariant-loop-literal : goal.invariant-loop-literal
invariant-loop-literal l = all_said l.found.items ++ operations (body_exprs (drop l.literal-index l.body)) ≡ all_said l.initial.found.items ++ operations (body_exprs l.body)
