use Rattle.std.proofs.Common.{◌≡◌, ◌∙◌, ◌+◌, ◌<◌, ℕ, drop, length, sym, ap, subst, rules}
use Rattle.std.specs.Prelude.{Option, None}
use Rattle.rule_settings.specs.Said as settings
use Rattle.range_faults.specs.Operations.{all_said}
use Rattle.range_faults.specs.Testing.{stop_at}
use Rattle.range_faults.proofs.Tested.{var_below, one_set, one_stops}
use Rattle.range_faults.proofs.testing.settle.Goals as goal

pub set_one-requires : goal.set_one-requires
set_one-requires c =
    subst (λ (n : ℕ). c.setting_at-setting.result.var < n) (sym c.loop-number.invariant.len)
    (var_below c.args.settings.now c.loop-number.number c.setting_at-setting.result (length c.args.values.now) c.setting_at-setting.ensures c.requires)

pub returns-in-Some-clause-stop : goal.returns-in-Some-clause-stop
returns-in-Some-clause-stop c =
    one_stops (all_said c.args.operations.now) c.args.settings.now c.loop-number.number c.setting_at-setting.result c.args.values.now c.loop-number.values c.set_one.new.values c.set_one.result c.in-Some.fault c.setting_at-setting.ensures
    c.loop-number.invariant.stop (c.set_one.ensures.goes (all_said c.args.operations.now) (drop (c.loop-number.number + 1) (settings.all_said c.args.settings.now))) c.in-Some.is
    ∙ ap (λ (o : Option ℕ). stop_at (settings.all_said c.args.settings.now) c.set_one.new.values o) (sym c.stop_by.ensures)

pub loop-number-preserved : goal.loop-number-preserved
loop-number-preserved c =
    let none : c.set_one.result ≡ None = search rules in
    record {
      stop = one_set (all_said c.args.operations.now) c.args.settings.now c.loop-number.number c.setting_at-setting.result c.args.values.now c.loop-number.values c.set_one.new.values c.set_one.result c.setting_at-setting.ensures
          c.loop-number.invariant.stop (c.set_one.ensures.goes (all_said c.args.operations.now) (drop (c.loop-number.number + 1) (settings.all_said c.args.settings.now))) none;
      len = c.set_one.ensures.len ∙ c.loop-number.invariant.len;
    }
