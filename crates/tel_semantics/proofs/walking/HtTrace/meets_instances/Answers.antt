use Rattle.std.proofs.Common.{◌∙◌, List, map, sym, ap, arith}
use Rattle.std.proofs.lemmas.List.Folds.{list_all-map}
use Rattle.tel_rule.specs.declared.ground.Instance.{Instance}
use Rattle.tel_rule.specs.Ground.{Ground}
use Rattle.tel_semantics.specs.Traces.{test_of}
use Rattle.tel_semantics.specs.Theory.{demand_of, meets, is_model}
use Rattle.tel_semantics.specs.Walking.{seen}
use Rattle.tel_semantics.proofs.ListSteps.{list_all_failed, list_all_passed}
use Rattle.tel_semantics.proofs.walking.HtTrace.meets_instances.Goals as goal

pub returns-then-not-meets_everywhere : goal.returns-then-not-meets_everywhere
returns-then-not-meets_everywhere c =
    let self = c.args.self.now in
    let test = meets self.length (test_of (seen self.world self.here.now self.there.now)) (test_of self.there.now) in
    let demand = demand_of c.args.template.now.nodes in
    let listed = c.as_slice-instance-items.ensures ∙ ap (λ (program : Ground). program.instances) c.template.view_is in
    let instances = c.as_slice-instance-items.result.now in
    sym (ap (λ (all : List Instance). is_model (map demand all) self.length (test_of (seen self.world self.here.now self.there.now)) (test_of self.there.now)) (sym listed) ∙ list_all-map test demand instances ∙ list_all_failed (λ (instance : Instance). test (demand instance)) instances c.loop-instance.instance-index c.instance-item.result (omega arith) c.instance-item.is (sym c.meets_everywhere.ensures ∙ c.if-not-meets_everywhere.true))

pub returns : goal.returns
returns c =
    let self = c.args.self.now in
    let test = meets self.length (test_of (seen self.world self.here.now self.there.now)) (test_of self.there.now) in
    let demand = demand_of c.args.template.now.nodes in
    let listed = c.as_slice-instance-items.ensures ∙ ap (λ (program : Ground). program.instances) c.template.view_is in
    let instances = c.as_slice-instance-items.result.now in
    sym (ap (λ (all : List Instance). is_model (map demand all) self.length (test_of (seen self.world self.here.now self.there.now)) (test_of self.there.now)) (sym listed) ∙ list_all-map test demand instances ∙ list_all_passed (λ (instance : Instance). test (demand instance)) instances c.loop-instance.instance-index (omega arith) c.loop-instance.invariant)
