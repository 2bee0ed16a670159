use Rattle.part_syntax.proofs.Decided.{some_verdict}
use Rattle.part_syntax.proofs.OneFault.{one-fault}
use Rattle.part_syntax.proofs.OneProgram.{one-program, fault-no_program}
use Rattle.part_syntax.proofs.laws.one_program.Goals as goal

pub returns : goal.returns
returns c = record { some = some_verdict; program = one-program; fault = one-fault; apart = fault-no_program }
