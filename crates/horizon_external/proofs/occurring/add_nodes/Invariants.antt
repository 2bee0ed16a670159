use Rattle.std.proofs.Common.{◌≡◌, ◌++◌, drop}
use Rattle.std.specs.List.{flat_map}
use Rattle.horizon_external.specs.Occurring.{node_vars}
use Rattle.horizon_external.proofs.occurring.add_nodes.Given as goal

abbrev pub invariant-loop-node : goal.invariant-loop-node
invariant-loop-node l = l.vars ++ flat_map node_vars (drop l.node-index l.nodes) ≡ l.initial.vars ++ flat_map node_vars l.nodes
