use Rattle.std.proofs.Common.{◌≡◌, ◌∙◌, ◌<◌, ℕ, List, length, sym, subst}
use Rattle.tel_term.specs.declared.terms.Value.{Value}
use Rattle.rule_settings.specs.Said as settings
use Rattle.rule_goals.specs.Said as goals
use Rattle.live_instances.specs.Reached.{set_by}
use Rattle.plan_order.specs.Goals.{AreBelow}
use Rattle.range_faults.specs.Operations.{all_said}
use Rattle.range_faults.proofs.Tested.{agrees_at, stops_nowhere}
use Rattle.range_faults.proofs.testing.leaves.Goals as goal

pub settle-requires : goal.settle-requires
settle-requires c = subst (λ (l : List Value). AreBelow (length l) (set_by (settings.all_said c.args.settings.now))) (sym c.copy_from_slice.ensures.after) c.requires.below

pub returns-in-Some-clause-leaves : goal.returns-in-Some-clause-leaves
returns-in-Some-clause-leaves c =
    let long : length c.mark_unset.new.unset ≡ length c.args.env.now = c.mark_unset.ensures.len ∙ c.requires.unset in
    agrees_at (all_said c.args.operations.now) (settings.all_said c.args.settings.now) (goals.all_said c.args.late.now) c.args.env.now c.copy_from_slice.new.self c.settle.new.values c.in-Some.number c.settle.result c.mark_unset.new.unset c.all_agree.result
    c.copy_from_slice.ensures.after c.settle.ensures.stop c.in-Some.is (λ v less. c.mark_unset.ensures.marks v (subst (λ (n : ℕ). v < n) c.mark_unset.ensures.len less))
    (subst (λ (n : ℕ). AreBelow n (set_by (settings.all_said c.args.settings.now))) (sym long) c.requires.below) c.all_agree.ensures

pub returns-in-None-clause-leaves : goal.returns-in-None-clause-leaves
returns-in-None-clause-leaves c = stops_nowhere (all_said c.args.operations.now) (settings.all_said c.args.settings.now) (goals.all_said c.args.late.now) c.args.env.now c.copy_from_slice.new.self c.settle.new.values c.settle.result c.copy_from_slice.ensures.after c.settle.ensures.stop c.in-None.is
