use Rattle.trace_list.proofs.Models.{found_are_models}
use Rattle.trace_list.proofs.laws.found_models.Goals as goal

pub returns : goal.returns
returns c = found_are_models
