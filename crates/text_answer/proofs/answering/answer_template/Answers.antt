use Rattle.text_answer.proofs.Lengths.{run_delivers, write_delivers, memory_delivers}
use Rattle.text_answer.proofs.answering.answer_template.Goals as goal

pub returns-in-Ok-clause-delivers : goal.returns-in-Ok-clause-delivers
returns-in-Ok-clause-delivers g c =
    run_delivers c.args.settings.now c.args.template c.in-Ok.status (g.O.Sink.bytes c.args.out.now) (g.O.Sink.bytes c.print_run.new.out) c.in-Ok.ensures.prints.0

pub returns-in-Err-Write-clause-delivers : goal.returns-in-Err-Write-clause-delivers
returns-in-Err-Write-clause-delivers g c =
    write_delivers c.args.settings.now c.args.template c.in-Err-Write.field-0 (g.O.Sink.bytes c.args.out.now) (g.O.Sink.bytes c.print_run.new.out) (g.O.Sink.faults c.args.out.now) (g.O.Sink.faults c.print_run.new.out) c.in-Err-Write.field-0-is c.in-Err-Write.ensures.prints

pub returns-in-Err-Memory-clause-delivers : goal.returns-in-Err-Memory-clause-delivers
returns-in-Err-Memory-clause-delivers g c =
    memory_delivers c.args.settings.now c.args.template c.in-Err-Memory.field-0 (g.O.Sink.bytes c.args.out.now) (g.O.Sink.bytes c.print_run.new.out) (g.O.Sink.faults c.args.out.now) (g.O.Sink.faults c.print_run.new.out) c.in-Err-Memory.field-0-is c.in-Err-Memory.ensures.prints
