use Rattle.rule_binding.proofs.Bodies.{one_unbound}
use Rattle.rule_binding.proofs.laws.one_first_unbound.Goals as goal

pub returns : goal.returns
returns c = one_unbound
