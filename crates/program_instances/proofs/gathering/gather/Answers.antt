use Rattle.std.proofs.Common.{◌-◌, ◌<◌, arith}
use Rattle.program_instances.proofs.Whole.{gathered-is, more-places}
use Rattle.program_instances.proofs.gathering.gather.Goals as goal

pub returns-in-Ok-clause-gathered : goal.returns-in-Ok-clause-gathered
returns-in-Ok-clause-gathered c =
    let said = c.in-Ok.ensures.gathered in
    gathered-is c.args.program.now c.requires.ready c.as_slice.result.now c.in-Ok.live c.gather_statements.new.atoms (c.args.room - 1) said.0 c.as_slice.ensures said.1

pub returns-in-Err-clause-large : goal.returns-in-Err-clause-large
returns-in-Err-clause-large c = λ large.
    let some : 0 < c.args.room = omega (arith, c.if-room-eq0.false) in
    more-places c.args.program.now c.requires.ready c.as_slice.result.now c.args.room c.as_slice.ensures some (c.in-Err.ensures.large large)
