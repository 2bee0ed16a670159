use Rattle.std.proofs.Common.{◌≡◌, ◌++◌, drop}
use Rattle.std.specs.List.{flat_map}
use Rattle.normal_program.specs.ModuleClauses.{node_clauses}
use Rattle.completion.proofs.shapes.add_nodes.Given as goal

abbrev pub invariant-loop-node : goal.invariant-loop-node
invariant-loop-node l = l.clauses.items ++ flat_map node_clauses (drop l.node-index l.nodes) ≡ l.initial.clauses.items ++ flat_map node_clauses l.nodes
