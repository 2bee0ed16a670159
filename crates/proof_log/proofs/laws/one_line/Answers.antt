use Rattle.proof_log.proofs.LineStops.{one-line}
use Rattle.proof_log.proofs.laws.one_line.Goals as goal

pub returns : goal.returns
returns c = one-line
