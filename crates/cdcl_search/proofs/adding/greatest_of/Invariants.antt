use Rattle.std.proofs.Common.{◌≡◌, max, drop}
use Rattle.horizon_external.specs.Occurring.{lit_vars}
use Rattle.cdcl_search.specs.Searches.{greatest}
use Rattle.cdcl_search.proofs.adding.greatest_of.Given as goal

abbrev pub invariant-loop-lit : goal.invariant-loop-lit
invariant-loop-lit l = max l.most (greatest (lit_vars (drop l.lit-index l.lits))) ≡ greatest (lit_vars l.lits)
