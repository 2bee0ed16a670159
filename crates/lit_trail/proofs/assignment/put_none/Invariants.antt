use Rattle.std.proofs.Common.{◌≡◌, ◌≤◌, ◌++◌, replicate}
use Rattle.std.specs.Prelude.{vec_capacity, None}
use Rattle.lit_trail.proofs.assignment.put_none.Given as goal

abbrev pub invariant-loop : goal.invariant-loop
invariant-loop l = (l.table.items ≡ l.fn.table.items ++ replicate l.counter None) × (vec_capacity l.fn.table ≤ vec_capacity l.table)
