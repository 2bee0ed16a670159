use Rattle.text_answer.specs.Delivery.{code_of}
use Rattle.text_answer.specs.Verdict.{Accepted}
use Rattle.text_answer.proofs.Verdicts.{accepted-complete}
use Rattle.telingo_cli.proofs.top.telingo.Goals as goal

pub returns-clause-complete : goal.returns-clause-complete
returns-clause-complete g c = λ settings whole theory width named reading writing verdict.
    let faults = g.O.Sink.faults in
    rw c.code.ensures
    (accepted-complete settings theory width (code_of c.answer_words.result) (g.O.Sink.bytes c.args.out.now) (g.O.Sink.bytes c.answer_words.new.out) (faults c.args.out.now) (faults c.answer_words.new.out)
    (c.answer_words.ensures.delivers settings whole (Accepted theory width) named reading verdict) c.answer_words.ensures.faults.rose writing)
