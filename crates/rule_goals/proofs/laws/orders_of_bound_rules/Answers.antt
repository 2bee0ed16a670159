use Rattle.rule_goals.proofs.Stuck.{bound_rules}
use Rattle.rule_goals.proofs.laws.orders_of_bound_rules.Goals as goal

pub returns : goal.returns
returns c = bound_rules
