use Rattle.std.proofs.Common.{◌≡◌, ℕ, [], vec_len, get_or}
use Rattle.completion.proofs.supports.empty_rows.Given as goal

abbrev pub invariant-loop : goal.invariant-loop
invariant-loop l = record {
  len : vec_len l.rows ≡ l.counter;
  rows : (k : ℕ) → get_or l.rows.items k [] ≡ [];
}
