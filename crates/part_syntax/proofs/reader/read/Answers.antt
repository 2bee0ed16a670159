use Rattle.part_syntax.proofs.OneFault.{one-fault}
use Rattle.part_syntax.proofs.OneProgram.{one-program, fault-no_program}
use Rattle.part_syntax.proofs.ReadPrograms.{if_read, if_failed}
use Rattle.part_syntax.proofs.reader.read.Goals as goal

pub returns-clause-ok : goal.returns-clause-ok
returns-clause-ok c = if_read c.args.texts.now c.read_texts.result _ (λ program is. is) c.read_texts.ensures.ok

pub returns-clause-only : goal.returns-clause-only
returns-clause-only c = if_read c.args.texts.now c.read_texts.result _ (λ program is other also. one-program c.args.texts.now other program also is) c.read_texts.ensures.ok

pub returns-clause-sound : goal.returns-clause-sound
returns-clause-sound c = if_read c.args.texts.now c.read_texts.result _ (λ program is fault stands. fault-no_program c.args.texts.now fault program stands is) c.read_texts.ensures.ok

pub returns-clause-fault : goal.returns-clause-fault
returns-clause-fault c = if_failed c.args.texts.now c.read_texts.result _ (λ why stands. stands) c.read_texts.ensures.err

pub returns-clause-first : goal.returns-clause-first
returns-clause-first c = if_failed c.args.texts.now c.read_texts.result _ (λ why stands other also. one-fault c.args.texts.now other why also stands) c.read_texts.ensures.err

pub returns-clause-none : goal.returns-clause-none
returns-clause-none c = if_failed c.args.texts.now c.read_texts.result _ (λ why stands program is. fault-no_program c.args.texts.now why program stands is) c.read_texts.ensures.err
