use Rattle.std.proofs.Common.{◌≡◌, ◌<◌, ◌||◌, ℕ, length, drop}
use Rattle.rule_binding.specs.Binding.{has, whole_args}
use Rattle.rule_binding.specs.Closure.{marked}
use Rattle.rule_settings.proofs.rows.mark_args.Given as goal

abbrev pub invariant-loop-arg : goal.invariant-loop-arg
invariant-loop-arg l = (v : ℕ) → v < length l.marks → (marked l.marks v || has (whole_args (drop l.arg-index l.args)) v) ≡ (marked l.initial.marks v || has (whole_args l.args) v)
