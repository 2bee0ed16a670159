use Rattle.std.proofs.Common.{◌∙◌, [], length, false, sym, ap}
use Rattle.std.specs.List.{list_all}
use Rattle.std.specs.Prelude.{Bool}
use Rattle.std.proofs.lemmas.List.{length-replicate}
use Rattle.plan_order.proofs.Ordered.{draft_begins, ordered, stuck}
use Rattle.plan_order.proofs.ordering.order_goals.Goals as goal

pub finish-requires-clause-inside : goal.finish-requires-clause-inside
finish-requires-clause-inside c = λ n there. (c.in_ok-all.ensures n).0 there

pub returns-then-are_all : goal.returns-then-are_all
returns-then-are_all c = λ tables symbols.
    let begins = draft_begins tables symbols c.args.places c.args.goals.now c.in_ok-all.all c.in_ok-known.known c.new-steps.result.items c.new-steps.ensures.items c.in_ok-known.ensures c.in_ok-all.ensures in
    let finished = c.in_ok-finish.ensures.drafts.keeps tables symbols c.args.places begins in
    ordered tables symbols c.args.places c.args.goals.now c.in_ok-finish.field-0 c.finish.new.known c.finish.new.steps.items finished
    (c.in_ok-finish.ensures.drafts.long ∙ ap length c.in_ok-known.ensures ∙ length-replicate c.args.places false)
    c.in_ok-finish.ensures.unready c.requires
    (ap (list_all (λ (mark : Bool). mark)) (sym c.as_slice-2.ensures) ∙ sym c.are_all.ensures ∙ c.if-are_all.true)

pub returns : goal.returns
returns c =
    let begins = draft_begins [] [] c.args.places c.args.goals.now c.in_ok-all.all c.in_ok-known.known c.new-steps.result.items c.new-steps.ensures.items c.in_ok-known.ensures c.in_ok-all.ensures in
    let finished = c.in_ok-finish.ensures.drafts.keeps [] [] c.args.places begins in
    stuck [] [] c.args.places c.args.goals.now c.in_ok-finish.field-0 c.finish.new.known c.finish.new.steps.items finished
    (c.in_ok-finish.ensures.drafts.long ∙ ap length c.in_ok-known.ensures ∙ length-replicate c.args.places false)
    c.in_ok-finish.ensures.unready
    (ap (list_all (λ (mark : Bool). mark)) (sym c.as_slice-2.ensures) ∙ sym c.are_all.ensures ∙ c.if-are_all.false)
