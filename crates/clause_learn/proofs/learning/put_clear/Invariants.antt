use Rattle.std.proofs.Common.{◌≡◌, ◌≤◌, ◌++◌, replicate, false}
use Rattle.std.specs.Prelude.{vec_capacity}
use Rattle.clause_learn.proofs.learning.put_clear.Given as goal

abbrev pub invariant-loop : goal.invariant-loop
invariant-loop l = (l.marks.items ≡ l.fn.marks.items ++ replicate l.counter false) × (vec_capacity l.fn.marks ≤ vec_capacity l.marks)
