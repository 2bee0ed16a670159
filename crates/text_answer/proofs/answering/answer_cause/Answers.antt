use Rattle.std.proofs.Common.{List, ℕ, ◌++◌, sym, subst}
use Rattle.std.specs.Prelude.{codes}
use Rattle.rule_check.specs.declared.faults.CheckFault.{CheckFault}
use Rattle.text_answer.specs.Delivery.{code_of, Delivers}
use Rattle.text_answer.specs.Verdict.{line_at}
use Rattle.text_answer.specs.Refusals.{DeliversCause}
use Rattle.text_answer.proofs.answering.answer_cause.Goals as goal

pub returns-in-Unbound-clause-delivers : goal.returns-in-Unbound-clause-delivers
returns-in-Unbound-clause-delivers g c =
    let old = g.O.Sink.bytes c.args.out.now in
    let new = g.O.Sink.bytes c.refuse_named.new.out in
    subst (λ (f : CheckFault). DeliversCause f (code_of c.refuse_named.result) old new) (sym c.in-Unbound.is)
    (subst (λ (name : List ℕ). Delivers (code_of c.refuse_named.result) 65 (line_at (codes "Unbound " ++ name) c.in-Unbound.place) old new) c.as_slice.ensures c.refuse_named.ensures.delivers)

pub returns-in-Const-clause-delivers : goal.returns-in-Const-clause-delivers
returns-in-Const-clause-delivers g c =
    let old = g.O.Sink.bytes c.args.out.now in
    let new = g.O.Sink.bytes c.refuse_named-in-Const.new.out in
    subst (λ (f : CheckFault). DeliversCause f (code_of c.refuse_named-in-Const.result) old new) (sym c.in-Const.is)
    (subst (λ (name : List ℕ). Delivers (code_of c.refuse_named-in-Const.result) 65 (line_at (codes "Const " ++ name) c.in-Const.place) old new) c.as_slice-in-Const.ensures c.refuse_named-in-Const.ensures.delivers)
