use Rattle.std.proofs.Common.{◌≡◌, true, take}
use Rattle.std.specs.List.{list_all}
use Rattle.tel_rule.specs.declared.ground.Instance.{Instance}
use Rattle.tel_semantics.specs.Traces.{test_of}
use Rattle.tel_semantics.specs.Theory.{demand_of, meets}
use Rattle.tel_semantics.specs.Walking.{seen}
use Rattle.tel_semantics.proofs.walking.HtTrace.meets_instances.Given as goal

abbrev pub invariant-loop-instance : goal.invariant-loop-instance
invariant-loop-instance l =
    list_all (λ (instance : Instance). meets l.self.length (test_of (seen l.self.world l.self.here.now l.self.there.now)) (test_of l.self.there.now) (demand_of l.template.nodes instance)) (take l.instance-index l.instance-items) ≡ true
