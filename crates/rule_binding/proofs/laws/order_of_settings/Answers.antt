use Rattle.rule_binding.proofs.Settings.{some_order, same_bound}
use Rattle.rule_binding.proofs.laws.order_of_settings.Goals as goal

pub returns-clause-some_order : goal.returns-clause-some_order
returns-clause-some_order c = some_order

pub returns-clause-same : goal.returns-clause-same
returns-clause-same c = same_bound
