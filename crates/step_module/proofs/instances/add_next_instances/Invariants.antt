use Rattle.std.proofs.Common.{◌≡◌, ◌++◌, drop}
use Rattle.step_module.specs.Rules.{instance_next, numbered}
use Rattle.step_module.proofs.instances.add_next_instances.Given as goal

abbrev pub invariant-loop-instance : goal.invariant-loop-instance
invariant-loop-instance l = record {
  place : l.number ≡ l.instance-index;
  rules : l.rules ++ numbered (instance_next l.space.counts l.t) l.number (drop l.instance-index l.instances) ≡ l.initial.rules ++ numbered (instance_next l.space.counts l.t) 0 l.instances;
}
