use Rattle.std.proofs.Common.{◌≡◌, ◌<◌, ◌||◌, ℕ, drop, length}
use Rattle.rule_binding.specs.Binding.{has}
use Rattle.rule_binding.specs.Closure.{marked}
use Rattle.live_instances.specs.Reached.{set_by}
use Rattle.rule_settings.specs.Said.{all_said}
use Rattle.range_faults.proofs.testing.mark_unset.Given as goal

abbrev pub invariant-loop-number : goal.invariant-loop-number
invariant-loop-number l = record {
  marks : (v : ℕ) → v < length l.initial.unset → (marked l.unset v || has (set_by (drop l.number (all_said l.settings))) v) ≡ has (set_by (drop l.from (all_said l.settings))) v;
  len : length l.unset ≡ length l.initial.unset;
}
