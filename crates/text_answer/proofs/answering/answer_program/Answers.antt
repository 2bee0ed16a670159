use Rattle.std.proofs.Common.{max, refl, subst}
use Rattle.tel_base.specs.declared.places.Place.{Place}
use Rattle.fact_instantiate.specs.declared.fault.GroundFault.{GroundFault}
use Rattle.fact_instantiate.specs.Instantiated.{IsGroundFault}
use Rattle.text_answer.specs.Delivery.{code_of, Delivers}
use Rattle.text_answer.specs.Verdict.{range_line}
use Rattle.text_answer.proofs.Verdicts.{template-delivers, range-delivers, large-delivers, cut_program}
use Rattle.text_answer.proofs.answering.answer_program.Goals as goal

pub returns-in-Ok-clause-delivers : goal.returns-in-Ok-clause-delivers
returns-in-Ok-clause-delivers g c =
    template-delivers (λ status bytes. Delivers (code_of c.answer_template.result) status bytes (g.O.Sink.bytes c.args.out.now) (g.O.Sink.bytes c.answer_template.new.out)) c.args.settings.now c.args.program c.in-Ok.template c.requires.nots c.keeps_ground.ensures c.in-Ok.ensures.template c.answer_template.ensures.delivers

pub returns-in-Err-Large-clause-delivers : goal.returns-in-Err-Large-clause-delivers
returns-in-Err-Large-clause-delivers g c =
    large-delivers (λ status bytes. Delivers (code_of c.refuse_large.result) status bytes (g.O.Sink.bytes c.args.out.now) (g.O.Sink.bytes c.refuse_large.new.out)) c.args.settings.now c.args.program
    (subst (λ (f : GroundFault). IsGroundFault c.args.program (max c.args.settings.now.imax 1) f) c.in-Err-Large.field-0-is c.in-Err-Large.ensures.fault) c.refuse_large.ensures.delivers

pub returns-in-Err-Memory-clause-delivers : goal.returns-in-Err-Memory-clause-delivers
returns-in-Err-Memory-clause-delivers g c = cut_program _ (g.O.Sink.bytes c.args.out.now) (g.O.Sink.bytes c.args.out.now) c.args.settings.now c.args.program refl refl

pub returns-in-Err-Range-clause-delivers : goal.returns-in-Err-Range-clause-delivers
returns-in-Err-Range-clause-delivers g c =
    let old = g.O.Sink.bytes c.args.out.now in
    let new = g.O.Sink.bytes c.refuse_at.new.out in
    let greatest = max c.args.settings.now.imax 1 in
    range-delivers (λ status bytes. Delivers (code_of c.refuse_at.result) status bytes old new) c.args.settings.now c.args.program greatest c.in-Err-Range.place
    (subst (λ (f : GroundFault). IsGroundFault c.args.program greatest f) c.in-Err-Range.field-0-is c.in-Err-Range.ensures.fault)
    (subst (λ (p : Place). Delivers (code_of c.refuse_at.result) 65 (range_line p) old new) c.in-Err-Range.place-is c.refuse_at.ensures.delivers)
