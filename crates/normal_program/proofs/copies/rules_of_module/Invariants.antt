use Rattle.std.proofs.Common.{◌≡◌, ◌++◌, drop}
use Rattle.std.specs.List.{flat_map}
use Rattle.normal_program.specs.Shapes.{rules_of_node}
use Rattle.normal_program.specs.Grounds.{all_rules}
use Rattle.normal_program.proofs.copies.rules_of_module.Given as goal

abbrev pub invariant-loop-node : goal.invariant-loop-node
invariant-loop-node l = l.rules.items ++ flat_map rules_of_node (drop l.node-index l.node-items) ≡ all_rules l.step
