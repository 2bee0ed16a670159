use Rattle.std.proofs.Common.{arith}
use Rattle.unfounded_sets.proofs.Limits.{lits_more}
use Rattle.unfounded_sets.proofs.bounds.above_lits.Goals as goal

pub loop-lit-preserved : goal.loop-lit-preserved
loop-lit-preserved c =
    let is = c.above-bound.ensures.is in
    let old = c.loop-lit.invariant in
    (lits_more c.args.lits.now c.loop-lit.lit-index c.loop-lit.bound c.above-bound.result _ old.0 c.loop-lit-test.true is, omega (arith, is, old.1), c.above-bound.ensures.small)
