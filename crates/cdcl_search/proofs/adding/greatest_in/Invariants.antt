use Rattle.std.proofs.Common.{◌≡◌, max, drop}
use Rattle.cdcl_search.specs.Searches.{greatest_in}
use Rattle.cdcl_search.proofs.adding.greatest_in.Given as goal

abbrev pub invariant-loop-clause : goal.invariant-loop-clause
invariant-loop-clause l = max l.most (greatest_in (drop l.clause-index l.clauses)) ≡ greatest_in l.clauses
