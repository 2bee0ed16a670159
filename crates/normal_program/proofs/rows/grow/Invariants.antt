use Rattle.std.proofs.Common.{◌≡◌, ℕ, [], get_or, vec_len}
use Rattle.normal_program.proofs.rows.grow.Given as goal

abbrev pub invariant-loop : goal.invariant-loop
invariant-loop l = record {
  len : vec_len l.rows ≡ l.counter;
  rows : (var : ℕ) → get_or l.rows.items var [] ≡ get_or l.initial.rows.items var [];
}
