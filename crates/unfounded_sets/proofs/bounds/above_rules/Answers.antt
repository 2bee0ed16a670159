use Rattle.std.proofs.Common.{◌≡◌, true, List, ℕ, subst}
use Rattle.unfounded_sets.specs.Marks.{all_below}
use Rattle.unfounded_sets.proofs.Limits.{rules_more}
use Rattle.unfounded_sets.proofs.bounds.above_rules.Goals as goal

pub loop-rule-preserved : goal.loop-rule-preserved
loop-rule-preserved c =
    let old = c.loop-rule.invariant in
    let got = c.above_vars-bound.ensures in
    (rules_more c.args.rules.now c.loop-rule.rule-index c.loop-rule.bound c.above_vars-bound.result c.rule-item.result old.0 c.loop-rule-test.true c.rule-item.is got.least (subst (λ (vars : List ℕ). all_below c.above_vars-bound.result vars ≡ true) c.as_slice.ensures got.vars), got.small)
