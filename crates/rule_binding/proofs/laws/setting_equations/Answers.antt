use Rattle.rule_binding.proofs.Settings.{exist, one_list}
use Rattle.rule_binding.proofs.laws.setting_equations.Goals as goal

pub returns-clause-end : goal.returns-clause-end
returns-clause-end c = exist

pub returns-clause-one : goal.returns-clause-one
returns-clause-one c = one_list
