use Rattle.all_instances.proofs.Listed.{listed_of_all, all_are_listed}
use Rattle.all_instances.proofs.laws.models_of_all_instances.Goals as goal

pub returns-clause-listed : goal.returns-clause-listed
returns-clause-listed c = listed_of_all

pub returns-clause-found : goal.returns-clause-found
returns-clause-found c = all_are_listed
