use Rattle.std.proofs.Common.{◌≡◌, ◌-◌, ℕ, vec_len}
use Rattle.rule_settings.specs.Waiting.{waiting_at}
use Rattle.rule_settings.proofs.waiters.reach_waiting.Given as goal

abbrev pub invariant-room : goal.invariant-room
invariant-room l = (v : ℕ) → waiting_at l.waiting.items v ≡ waiting_at l.initial.waiting.items v

abbrev pub decreases-room : goal.decreases-room
decreases-room l = l.len - vec_len l.waiting
