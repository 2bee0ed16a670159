use Rattle.std.proofs.Common.{◌≡◌, ◌++◌}
use Rattle.std.specs.List.{flat_map}
use Rattle.normal_program.specs.ModuleClauses.{listed}
use Rattle.completion.proofs.ordering.list_all.Given as goal

abbrev pub invariant-loop-clause : goal.invariant-loop-clause
invariant-loop-clause l = l.clauses.items ++ flat_map listed l.clause-iterator.rest.items ≡ flat_map listed l.fn.stated.items
