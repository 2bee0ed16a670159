use Rattle.std.proofs.Common.{◌≡◌, ◌∙◌, ◌<◌, ◌≤◌, length, get_or, sym, subst, List}
use Rattle.tel_rule.specs.declared.statements.Arg.{Arg}
use Rattle.tel_semantics.specs.Tables.{tuple_predicate}
use Rattle.fact_rows.specs.Forms.{number_in, form_number}
use Rattle.fact_rows.specs.Filling.{tuple_stated, fact_stated}
use Rattle.fact_rows.proofs.Steps.{step-more, step-over, step-end, at_number, over_number}
use Rattle.fact_rows.proofs.filling.Filling.add_tuples.Goals as goal

pub loop-tuple-preserved : goal.loop-tuple-preserved
loop-tuple-preserved c =
    let number = number_in c.args.numbers.now in
    let forms = c.args.numbers.now.forms in
    let fact = c.args.fact.now in
    let index = c.loop-tuple.tuple-index in
    let tuple = c.tuple-item.result in
    let all = c.as_slice-tuple-items.ensures in
    let its : number (tuple_predicate fact tuple) ≡ c.form_number-table.result =
    sym (c.form_number-table.ensures ∙ (λ i. form_number forms (record { name = c.requires i; negative = fact.negative; arity = c.len.ensures i }))) in
    step-more number (tuple_stated number fact) fact.tuples (fact_stated number fact) c.args.self.now c.loop-tuple.self c.add_tuple.new.self index tuple
    (subst (λ (l : List (List Arg)). index < length l) all c.loop-tuple-test.true)
    (subst (λ (l : List (List Arg)). tuple ≡ get_or l index tuple) all c.tuple-item.is)
    c.loop-tuple.invariant
    (at_number number c.form_number-table.result (tuple_predicate fact tuple) c.as_slice.result.now tuple c.loop-tuple.self c.add_tuple.new.self its c.as_slice.ensures (c.in-Ok.ensures.added number (tuple_predicate fact tuple) its))

pub returns-in-Err-clause-large : goal.returns-in-Err-clause-large
returns-in-Err-clause-large c =
    let number = number_in c.args.numbers.now in
    let forms = c.args.numbers.now.forms in
    let fact = c.args.fact.now in
    let index = c.loop-tuple.tuple-index in
    let tuple = c.tuple-item.result in
    let all = c.as_slice-tuple-items.ensures in
    let its : number (tuple_predicate fact tuple) ≡ c.form_number-table.result =
    sym (c.form_number-table.ensures ∙ (λ i. form_number forms (record { name = c.requires i; negative = fact.negative; arity = c.len.ensures i }))) in
    λ large.
    step-over number (tuple_stated number fact) fact.tuples (fact_stated number fact) c.args.self.now c.loop-tuple.self index tuple
    (subst (λ (l : List (List Arg)). index < length l) all c.loop-tuple-test.true)
    (subst (λ (l : List (List Arg)). tuple ≡ get_or l index tuple) all c.tuple-item.is)
    c.loop-tuple.invariant
    (over_number number c.form_number-table.result (tuple_predicate fact tuple) c.as_slice.result.now tuple c.loop-tuple.self its c.as_slice.ensures (c.in-Err.ensures.large large number (tuple_predicate fact tuple) its))

pub returns-clause-added : goal.returns-clause-added
returns-clause-added c =
    let number = number_in c.args.numbers.now in
    let fact = c.args.fact.now in
    let index = c.loop-tuple.tuple-index in
    step-end number (tuple_stated number fact) fact.tuples (fact_stated number fact) c.args.self.now c.loop-tuple.self index
    (subst (λ (l : List (List Arg)). length l ≤ index) c.as_slice-tuple-items.ensures c.loop-tuple-test.false) c.loop-tuple.invariant
