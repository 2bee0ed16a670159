use Rattle.std.proofs.Common.{◌≡◌, ◌-◌, ℕ, vec_len}
use Rattle.rule_binding.specs.Closure.{marked}
use Rattle.rule_settings.proofs.marks.reach_marks.Given as goal

abbrev pub invariant-room : goal.invariant-room
invariant-room l = (v : ℕ) → marked l.marks.items v ≡ marked l.initial.marks.items v

abbrev pub decreases-room : goal.decreases-room
decreases-room l = l.len - vec_len l.marks
