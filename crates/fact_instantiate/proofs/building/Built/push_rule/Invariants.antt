use Rattle.std.proofs.Common.{◌≡◌, ◌++◌, map, drop, length}
use Rattle.instance_build.specs.Instances.{in_row}
use Rattle.fact_instantiate.specs.Building.{built_rule}
use Rattle.fact_instantiate.proofs.building.Built.push_rule.Given as goal

abbrev pub invariant-loop-binding : goal.invariant-loop-binding
invariant-loop-binding l = record {
  instances : l.self.instances ++ (in_row (map (built_rule l.numbers l.number l.part l.head l.body) (drop l.binding-index l.live)) (length l.self.nodes)).0 ≡ l.initial.self.instances ++ (in_row (map (built_rule l.numbers l.number l.part l.head l.body) l.live) (length l.initial.self.nodes)).0;
  nodes : l.self.nodes ++ (in_row (map (built_rule l.numbers l.number l.part l.head l.body) (drop l.binding-index l.live)) (length l.self.nodes)).1 ≡ l.initial.self.nodes ++ (in_row (map (built_rule l.numbers l.number l.part l.head l.body) l.live) (length l.initial.self.nodes)).1;
}
