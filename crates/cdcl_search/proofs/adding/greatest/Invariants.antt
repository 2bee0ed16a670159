use Rattle.std.proofs.Common.{◌≡◌, max, drop}
use Rattle.cdcl_search.specs.Searches.{greatest}
use Rattle.cdcl_search.proofs.adding.greatest.Given as goal

abbrev pub invariant-loop-var : goal.invariant-loop-var
invariant-loop-var l = max l.most (greatest (drop l.var-index l.vars)) ≡ greatest l.vars
