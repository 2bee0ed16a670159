use Rattle.std.proofs.Common.{codes}
use Rattle.tel_semantics.specs.Print.{state_lines}
use Rattle.trace_print.proofs.Steps.{puts-then, puts-short}
use Rattle.trace_print.proofs.lines.put_trace.Goals as goal

pub returns-in-Ok : goal.returns-in-Ok
returns-in-Ok g c = puts-then {a = codes "trace\n"} {b = state_lines c.args.template.now 0 c.args.states.now} c.in-Ok.ensures c.put_states.ensures

pub returns-in-Err : goal.returns-in-Err
returns-in-Err g c = puts-short {a = codes "trace\n"} (state_lines c.args.template.now 0 c.args.states.now) c.in-Err.ensures
