use Rattle.std.proofs.Common.{◌≡◌, ◌++◌, map, drop}
use Rattle.normal_program.specs.ModuleClauses.{pair_clause}
use Rattle.completion.proofs.modules.add_pairs.Given as goal

abbrev pub invariant-loop-pair : goal.invariant-loop-pair
invariant-loop-pair l = l.clauses.items ++ map pair_clause (drop l.pair-index l.pairs) ≡ l.initial.clauses.items ++ map pair_clause l.pairs
