use Rattle.std.proofs.Common.{◌≡◌, ◌≤◌, ℕ, false, get_or, vec_len}
use Rattle.normal_program.proofs.marks.grow.Given as goal

abbrev pub invariant-loop : goal.invariant-loop
invariant-loop l = record {
  len : vec_len l.marks ≡ l.counter;
  stays : vec_len l.initial.marks ≤ vec_len l.marks;
  marks : (var : ℕ) → get_or l.marks.items var false ≡ get_or l.initial.marks.items var false;
}
