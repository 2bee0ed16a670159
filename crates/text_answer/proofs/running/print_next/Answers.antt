use Rattle.std.proofs.Common.{◌+◌}
use Rattle.text_answer.proofs.Lengths.{nothing_printed}
use Rattle.text_answer.proofs.running.print_next.Goals as goal

pub returns-in-Err-clause-prints : goal.returns-in-Err-clause-prints
returns-in-Err-clause-prints g c = nothing_printed c.args.settings.now c.args.engine.now.template (c.args.engine.now.length + 1) (g.O.Sink.bytes c.args.out.now) (g.O.Sink.faults c.args.out.now)
