use Rattle.rule_plans.proofs.Live.{rule_plans_find}
use Rattle.rule_plans.proofs.laws.plans_of_rules.Goals as goal

pub returns : goal.returns
returns c = rule_plans_find
