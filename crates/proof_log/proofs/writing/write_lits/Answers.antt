use Rattle.proof_log.proofs.Steps.{writes-all}
use Rattle.proof_log.proofs.writing.write_lits.Goals as goal

pub returns-in-Ok : goal.returns-in-Ok
returns-in-Ok g c = writes-all c.requires c.in-Ok.ensures c.flush.ensures.writes
