use Rattle.std.proofs.Common.{◌≡◌, ◌++◌, drop}
use Rattle.horizon_external.specs.Occurring.{lit_vars}
use Rattle.horizon_external.proofs.occurring.add_lits.Given as goal

abbrev pub invariant-loop-lit : goal.invariant-loop-lit
invariant-loop-lit l = l.vars ++ lit_vars (drop l.lit-index l.lits) ≡ l.initial.vars ++ lit_vars l.lits
