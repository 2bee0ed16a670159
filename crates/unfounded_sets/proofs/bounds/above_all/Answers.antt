use Rattle.std.proofs.Common.{◌≡◌, true, List, subst}
use Rattle.normal_program.specs.declared.rules.NRule.{NRule}
use Rattle.unfounded_sets.specs.Marks.{are_below}
use Rattle.unfounded_sets.proofs.Limits.{rules_weaker, lits_bound}
use Rattle.unfounded_sets.proofs.bounds.above_all.Goals as goal

pub returns-clause-rules : goal.returns-clause-rules
returns-clause-rules c =
    rules_weaker c.args.ground.now.rules c.above_rules.result c.above_lits.result c.above_lits.ensures.least (subst (λ (rules : List NRule). are_below c.above_rules.result rules ≡ true) c.rules.ensures c.above_rules.ensures.rules)

pub returns-clause-trail : goal.returns-clause-trail
returns-clause-trail c = lits_bound c.args.trail.now.entries c.lits.result.now c.above_lits.result c.lits.ensures c.above_lits.ensures.lits
