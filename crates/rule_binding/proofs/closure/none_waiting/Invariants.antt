use Rattle.std.proofs.Common.{◌≡◌, ℕ, [], vec_len}
use Rattle.rule_binding.specs.Waiting.{waiting_at}
use Rattle.rule_binding.proofs.closure.none_waiting.Given as goal

abbrev pub invariant-loop : goal.invariant-loop
invariant-loop l = record {
  len : vec_len l.waiting ≡ l.counter;
  none : (v : ℕ) → waiting_at l.waiting.items v ≡ [];
}
