use Rattle.proof_log.proofs.Steps.{puts-nothing, puts-then}
use Rattle.proof_log.proofs.pieces.put_anew.Goals as goal

pub returns-in-Ok : goal.returns-in-Ok
returns-in-Ok g c = puts-then (puts-nothing c.in-Ok.ensures.writes c.in-Ok.ensures.empty) c.put_first.ensures
