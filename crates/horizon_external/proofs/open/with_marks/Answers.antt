use Rattle.std.proofs.Common.{◌≡◌, ℕ, ◌+◌, ◌-◌, false, get_or, ap, ◌∙◌, arith}
use Rattle.horizon_external.proofs.Marks.{marked_more, unmarked_more}
use Rattle.horizon_external.proofs.open.with_marks.Goals as goal
use Rattle.horizon_external.proofs.open.with_marks.Goals.{then-mark+in_ok-push, else-mark}

pub loop-mark-preserved : goal.loop-mark-preserved
loop-mark-preserved c =
    let marks = c.args.marks.now in
    let low = c.args.low in
    let k = c.loop-mark.mark-index in
    let test = λ (var : ℕ). get_or marks (var - low) false in
    let before = c.loop-mark.invariant in
    let here : ((low + k) - low) ≡ k = omega arith in
    elim c.if-mark.branch [
      | then-mark+in_ok-push w ↦ record {
        place = omega (arith, before.place);
        list = marked_more test k low c.loop-mark.var c.loop-mark.list c.if-mark.list before.place (ap (λ (i : ℕ). get_or marks i false) here ∙ w.if-mark.true) before.list (w.list-is ∙ w.in_ok-push.ensures.ok);
      }
      | else-mark w ↦ record {
        place = omega (arith, before.place);
        list = unmarked_more test k low c.loop-mark.list c.if-mark.list (ap (λ (i : ℕ). get_or marks i false) here ∙ w.if-mark.false) before.list w.list-is;
      }
    ]
