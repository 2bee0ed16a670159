use Rattle.std.proofs.Common.{sym, subst}
use Rattle.tel_rule.specs.declared.statements.Program.{Program}
use Rattle.rule_constants.specs.Replaced.{IsReplaced}
use Rattle.text_answer.specs.Delivery.{code_of}
use Rattle.checked_programs.proofs.Ready.{is_ready}
use Rattle.text_answer.proofs.Verdicts.{passed-delivers, cause-delivers}
use Rattle.text_answer.proofs.answering.answer_read.Goals as goal

pub answer_program-requires : goal.answer_program-requires
answer_program-requires g c =
    is_ready c.args.program c.into_program.result c.requires c.in-Ok.ensures.sound (subst (λ (p : Program). IsReplaced c.args.program p) (sym c.into_program.ensures.program) c.in-Ok.ensures.replaced)

pub returns-in-Ok-clause-delivers : goal.returns-in-Ok-clause-delivers
returns-in-Ok-clause-delivers g c =
    passed-delivers _ c.args.settings.now c.args.program c.into_program.result c.in-Ok.ensures.sound
    (subst (λ (p : Program). IsReplaced c.args.program p) (sym c.into_program.ensures.program) c.in-Ok.ensures.replaced) c.answer_program.ensures.delivers

pub returns-in-Err-clause-delivers : goal.returns-in-Err-clause-delivers
returns-in-Err-clause-delivers g c =
    cause-delivers c.args.settings.now c.args.program c.in-Err.cause (code_of c.answer_cause.result) (g.O.Sink.bytes c.args.out.now) (g.O.Sink.bytes c.answer_cause.new.out) c.in-Err.ensures.fault c.answer_cause.ensures.delivers
