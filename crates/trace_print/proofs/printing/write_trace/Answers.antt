use Rattle.trace_print.proofs.Steps.{writes-all}
use Rattle.trace_print.proofs.printing.write_trace.Goals as goal

pub returns-in-Ok : goal.returns-in-Ok
returns-in-Ok g c = writes-all c.requires.empty c.in-Ok.ensures c.flush.ensures.writes
