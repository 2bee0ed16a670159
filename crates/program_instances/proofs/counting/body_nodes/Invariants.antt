use Rattle.std.proofs.Common.{◌≡◌, take}
use Rattle.std.specs.List.{sum_by}
use Rattle.program_theory.specs.Instances.{literal_nodes}
use Rattle.program_instances.specs.Adding.{capped}
use Rattle.program_instances.proofs.counting.body_nodes.Given as goal

abbrev pub invariant-loop-literal : goal.invariant-loop-literal
invariant-loop-literal l = l.total ≡ capped (sum_by literal_nodes (take l.literal-index l.body))
