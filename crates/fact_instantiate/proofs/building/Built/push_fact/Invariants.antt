use Rattle.std.proofs.Common.{◌≡◌, ◌++◌, map, drop}
use Rattle.fact_instantiate.specs.Building.{fact_instance}
use Rattle.fact_instantiate.proofs.building.Built.push_fact.Given as goal

abbrev pub invariant-loop-row : goal.invariant-loop-row
invariant-loop-row l = record {
  instances : l.self.instances ++ map (fact_instance l.numbers l.number l.part l.fact) (drop l.row-index l.live) ≡ l.initial.self.instances ++ map (fact_instance l.numbers l.number l.part l.fact) l.live;
  nodes : l.self.nodes ≡ l.initial.self.nodes;
}
