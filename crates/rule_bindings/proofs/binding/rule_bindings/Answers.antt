use Rattle.std.proofs.Common.{ℕ, length, subst}
use Rattle.std.proofs.lemmas.Result.{IfOk-weaker}
use Rattle.live_instances.specs.Instances.{AreLive}
use Rattle.live_bindings.specs.Limits.{AreMore}
use Rattle.rule_bindings.proofs.Plans.{err_then, planned_by}
use Rattle.rule_bindings.proofs.binding.rule_bindings.Goals as goal

pub returns-clause-live : goal.returns-clause-live
returns-clause-live g c =
    IfOk-weaker c.find_live_bindings.result _ _
    (λ found says statements rows bound.
    subst (λ (n : ℕ). AreLive statements c.args.symbols.now n c.args.head.now c.args.body.now found.items) c.len-vars.ensures
    (says statements rows
    (planned_by c.args.tables.now c.args.symbols.now c.in_ok-plan.plan.places c.args.head.now c.args.body.now statements rows c.in_ok-plan.plan.steps.items c.as_slice.result.now (length c.args.rule.now.vars) c.len-vars.result c.as_slice.ensures.value c.len-vars.ensures (c.in_ok-plan.ensures statements rows c.args.symbols.now c.args.head.now bound).planned)))
    c.find_live_bindings.ensures.live

pub returns-clause-large : goal.returns-clause-large
returns-clause-large g c =
    err_then c.find_live_bindings.result _ _
    (λ says statements rows bound.
    subst (λ (n : ℕ). AreMore statements c.args.symbols.now n c.args.head.now c.args.body.now c.args.most) c.len-vars.ensures
    (says statements rows
    (planned_by c.args.tables.now c.args.symbols.now c.in_ok-plan.plan.places c.args.head.now c.args.body.now statements rows c.in_ok-plan.plan.steps.items c.as_slice.result.now (length c.args.rule.now.vars) c.len-vars.result c.as_slice.ensures.value c.len-vars.ensures (c.in_ok-plan.ensures statements rows c.args.symbols.now c.args.head.now bound).planned)))
    c.find_live_bindings.ensures.large
