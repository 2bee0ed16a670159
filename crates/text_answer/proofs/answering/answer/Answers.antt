use Rattle.text_answer.specs.Delivery.{code_of, Delivers}
use Rattle.text_answer.proofs.Verdicts.{program-delivers, program-answers, program-kind, fault-delivers, fault-answers, fault-kind}
use Rattle.text_answer.proofs.Theories.{texts_readable}
use Rattle.text_answer.proofs.answering.answer.Goals as goal

pub answer_read-requires : goal.answer_read-requires
answer_read-requires g c = texts_readable c.args.texts.now c.in-Ok.program c.requires.small c.in-Ok.ensures.ok

pub returns-in-Ok-clause-delivers : goal.returns-in-Ok-clause-delivers
returns-in-Ok-clause-delivers g c =
    let old = g.O.Sink.bytes c.args.out.now in
    let new = g.O.Sink.bytes c.answer_read.new.out in
    program-delivers (λ status bytes. Delivers (code_of c.answer_read.result) status bytes old new) c.args.settings.now c.args.texts.now c.in-Ok.program c.requires.small c.in-Ok.ensures.only c.in-Ok.ensures.sound c.answer_read.ensures.delivers

pub returns-in-Ok-clause-answers : goal.returns-in-Ok-clause-answers
returns-in-Ok-clause-answers g c =
    program-answers c.args.settings.now c.args.texts.now c.in-Ok.program _ (g.O.Sink.bytes c.args.out.now) (g.O.Sink.bytes c.answer_read.new.out) (texts_readable c.args.texts.now c.in-Ok.program c.requires.small c.in-Ok.ensures.ok) c.requires.small c.in-Ok.ensures.ok c.answer_read.ensures.delivers

pub returns-in-Ok-clause-kind : goal.returns-in-Ok-clause-kind
returns-in-Ok-clause-kind g c =
    program-kind c.args.settings.now c.args.texts.now c.in-Ok.program _ (g.O.Sink.bytes c.args.out.now) (g.O.Sink.bytes c.answer_read.new.out) (texts_readable c.args.texts.now c.in-Ok.program c.requires.small c.in-Ok.ensures.ok) c.requires.small c.in-Ok.ensures.ok c.answer_read.ensures.delivers

pub returns-in-Err-clause-delivers : goal.returns-in-Err-clause-delivers
returns-in-Err-clause-delivers g c =
    fault-delivers c.args.settings.now c.args.texts.now c.in-Err.fault (code_of c.answer_fault.result) (g.O.Sink.bytes c.args.out.now) (g.O.Sink.bytes c.answer_fault.new.out) c.requires.small
    (λ known. record { is = c.in-Err.ensures.fault known; first = c.in-Err.ensures.first known; none = c.in-Err.ensures.none known }) c.answer_fault.ensures.delivers

pub returns-in-Err-clause-answers : goal.returns-in-Err-clause-answers
returns-in-Err-clause-answers g c =
    fault-answers c.args.settings.now c.args.texts.now c.in-Err.fault (code_of c.answer_fault.result) (g.O.Sink.bytes c.args.out.now) (g.O.Sink.bytes c.answer_fault.new.out) c.requires.small
    (λ known. record { is = c.in-Err.ensures.fault known; first = c.in-Err.ensures.first known; none = c.in-Err.ensures.none known }) c.answer_fault.ensures.delivers

pub returns-in-Err-clause-kind : goal.returns-in-Err-clause-kind
returns-in-Err-clause-kind g c =
    fault-kind c.args.settings.now c.in-Err.fault _ (g.O.Sink.bytes c.args.out.now) (g.O.Sink.bytes c.answer_fault.new.out) c.answer_fault.ensures.delivers
