use Rattle.std.proofs.Common.{◌≡◌, map}
use Rattle.std.specs.List.{range_with_len}
use Rattle.formula_unfold.specs.Nodes.{node_at}
use Rattle.step_module.proofs.steps.nodes_at.Given as goal

abbrev pub invariant-loop-node : goal.invariant-loop-node
invariant-loop-node l = l.nodes ≡ map (node_at l.template l.t) (range_with_len 0 l.node)
