use Rattle.plan_order.proofs.RuleGoals.{ordered_rule_plans}
use Rattle.plan_order.proofs.laws.orders_of_rule_goals.Goals as goal

pub returns : goal.returns
returns c = ordered_rule_plans
