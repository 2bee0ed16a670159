use Rattle.template_lengths.proofs.Ordered.{sets_ordered}
use Rattle.template_lengths.proofs.laws.ordered_sets.Goals as goal

pub returns : goal.returns
returns c = sets_ordered
