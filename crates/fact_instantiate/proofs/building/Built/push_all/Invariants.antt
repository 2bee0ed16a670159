use Rattle.std.proofs.Common.{◌≡◌, ◌++◌, drop, length}
use Rattle.instance_build.specs.Instances.{in_row}
use Rattle.fact_instantiate.specs.Building.{built_statements}
use Rattle.fact_instantiate.proofs.building.Built.push_all.Given as goal

abbrev pub invariant-loop-number : goal.invariant-loop-number
invariant-loop-number l = record {
  instances : l.self.instances ++ (in_row (built_statements l.numbers l.number (drop l.number l.statements) (drop l.number l.live)) (length l.self.nodes)).0 ≡ l.initial.self.instances ++ (in_row (built_statements l.numbers 0 l.statements l.live) (length l.initial.self.nodes)).0;
  nodes : l.self.nodes ++ (in_row (built_statements l.numbers l.number (drop l.number l.statements) (drop l.number l.live)) (length l.self.nodes)).1 ≡ l.initial.self.nodes ++ (in_row (built_statements l.numbers 0 l.statements l.live) (length l.initial.self.nodes)).1;
}
