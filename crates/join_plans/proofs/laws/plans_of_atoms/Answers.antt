use Rattle.join_plans.proofs.Filling.{plans_are_atoms, filled_once}
use Rattle.join_plans.proofs.laws.plans_of_atoms.Goals as goal

pub returns-clause-exact : goal.returns-clause-exact
returns-clause-exact c = plans_are_atoms

pub returns-clause-once : goal.returns-clause-once
returns-clause-once c = filled_once
