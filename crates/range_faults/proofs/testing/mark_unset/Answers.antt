use Rattle.std.proofs.Common.{◌∙◌, ◌<◌, ℕ, sym, subst}
use Rattle.rule_binding.specs.Closure.{marked}
use Rattle.range_faults.proofs.Tested.{one_mark}
use Rattle.range_faults.proofs.testing.mark_unset.Goals as goal

pub loop-number-preserved : goal.loop-number-preserved
loop-number-preserved c = record {
  marks = λ v less.
      one_mark c.args.settings.now c.loop-number.number c.setting_at-setting.result v (marked c.loop-number.unset v) (marked c.mark_setting.new.unset v) c.setting_at-setting.ensures
      (c.mark_setting.ensures.marks v (subst (λ (n : ℕ). v < n) (sym c.loop-number.invariant.len) less))
      ∙ c.loop-number.invariant.marks v less;
  len = c.mark_setting.ensures.len ∙ c.loop-number.invariant.len;
}
