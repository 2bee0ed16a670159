use Rattle.std.proofs.Common.{◌≡◌, ◌+◌, drop, length}
use Rattle.cdcl_search.specs.Searches.{literal_count}
use Rattle.cdcl_search.proofs.adding.literals.Given as goal

abbrev pub invariant-loop-clause : goal.invariant-loop-clause
invariant-loop-clause l = l.count + literal_count (drop l.clause-index l.clauses) ≡ literal_count l.clauses
