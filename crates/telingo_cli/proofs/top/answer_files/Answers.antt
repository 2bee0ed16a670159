use Rattle.std.proofs.Common.{ℕ, ◌<◌, List, length, refl, ap, sym, ◌∙◌, subst, arith}
use Rattle.part_syntax.specs.Programs.{total_bytes}
use Rattle.text_answer.specs.Delivery.{code_of, Delivers}
use Rattle.text_answer.specs.Verdict.{largest_text, IsVerdict, read_line}
use Rattle.telingo_cli.proofs.TextSteps.{told-length, whole-told}
use Rattle.text_answer.proofs.Verdicts.{long-delivers, memory-delivers}
use Rattle.telingo_cli.proofs.top.answer_files.Goals as goal

pub answer-requires-clause-few : goal.answer-requires-clause-few
answer-requires-clause-few g c =
    let each = told-length (g.S.Source.text c.args.texts.now) c.args.files.now c.in-Ok.read.items c.in-Ok.ensures.whole in
    omega (arith, each, ap length c.as_slice.ensures.value, c.requires)

pub returns-in-Ok-clause-delivers : goal.returns-in-Ok-clause-delivers
returns-in-Ok-clause-delivers g c = λ whole verdict told _ is.
    let same = whole-told (g.S.Source.text c.args.texts.now) c.args.files.now whole c.in-Ok.read.items told c.in-Ok.ensures.whole ∙ sym c.as_slice.ensures.value in
    c.answer.ensures.delivers verdict (subst (λ (texts : List (List ℕ)). IsVerdict c.args.settings.now texts verdict) same is)

pub returns-in-Err-Large-clause-delivers : goal.returns-in-Err-Large-clause-delivers
returns-in-Err-Large-clause-delivers g c = λ whole verdict told _ is.
    let long = c.in-Err-Large.ensures.large c.in-Err-Large.field-0-is in
    let same = whole-told (g.S.Source.text c.args.texts.now) c.args.files.now whole long.0 told long.1 in
    long-delivers (λ status bytes. Delivers (code_of c.refuse_large.result) status bytes (g.O.Sink.bytes c.args.out.now) (g.O.Sink.bytes c.refuse_large.new.out)) c.args.settings.now whole
    (subst (λ (texts : List (List ℕ)). largest_text < total_bytes texts) (sym same) long.2) c.refuse_large.ensures.delivers verdict is

pub returns-in-Err-Read-clause-read : goal.returns-in-Err-Read-clause-read
returns-in-Err-Read-clause-read g c = λ _.
    let failed = c.in-Err-Read.ensures.read_only c.in-Err-Read.place c.in-Err-Read.field-0-is in
    (failed.0, failed.1, subst (λ (place : ℕ). Delivers (code_of c.refuse_read.result) 66 (read_line place) (g.O.Sink.bytes c.args.out.now) (g.O.Sink.bytes c.refuse_read.new.out)) (c.in-Err-Read.place-is ∙ failed.2) c.refuse_read.ensures.delivers)

pub returns-in-Err-Read-clause-read_only : goal.returns-in-Err-Read-clause-read_only
returns-in-Err-Read-clause-read_only g c = λ _.
    let failed = c.in-Err-Read.ensures.read_only c.in-Err-Read.place c.in-Err-Read.field-0-is in
    (failed.0, failed.1, subst (λ (place : ℕ). Delivers (code_of c.refuse_read.result) 66 (read_line place) (g.O.Sink.bytes c.args.out.now) (g.O.Sink.bytes c.refuse_read.new.out)) (c.in-Err-Read.place-is ∙ failed.2) c.refuse_read.ensures.delivers)

pub returns-in-Err-Memory-clause-delivers : goal.returns-in-Err-Memory-clause-delivers
returns-in-Err-Memory-clause-delivers g c = λ whole verdict told _ is. memory-delivers c.args.settings.now verdict 71 (g.O.Sink.bytes c.args.out.now) (g.O.Sink.bytes c.args.out.now) refl refl
