use Rattle.template_lengths.proofs.Templates.{trails_total}
use Rattle.template_lengths.proofs.laws.total_trails.Goals as goal

pub returns : goal.returns
returns c = trails_total
