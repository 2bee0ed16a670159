use Rattle.std.proofs.Common.{arith}
use Rattle.unfounded_sets.proofs.Limits.{vars_more}
use Rattle.unfounded_sets.proofs.bounds.above_vars.Goals as goal

pub loop-var-preserved : goal.loop-var-preserved
loop-var-preserved c =
    let is = c.above-bound.ensures.is in
    let old = c.loop-var.invariant in
    (vars_more c.args.vars.now c.loop-var.var-index c.loop-var.bound c.above-bound.result old.0 c.loop-var-test.true is, omega (arith, is, old.1), c.above-bound.ensures.small)
