use Rattle.std.proofs.Common.{◌∙◌, ℕ, Bool, length, List, Vec, Global, sym, ap}
use Rattle.std.specs.List.{filter, range_with_len}
use Rattle.unfounded_sets.specs.Least.{wanted_below, at}
use Rattle.unfounded_sets.specs.Marks.{rest_of}
use Rattle.unfounded_sets.proofs.Ranges.{keep_one, pass_by}
use Rattle.unfounded_sets.proofs.answering.all_left.Goals as goal
use Rattle.unfounded_sets.proofs.answering.all_left.Goals.{then-is_left+in_ok-push, else-is_left}

abbrev items_of : Vec ℕ Global → List ℕ
items_of vector = vector.items

pub loop-place-preserved : goal.loop-place-preserved
loop-place-preserved c =
    let U : ℕ → Bool = rest_of (wanted_below c.args.ground.now c.args.trail.now.entries (length c.args.found.now)) (at c.args.found.now) in
    let n = length c.args.found.now in
    let all = filter U (range_with_len 0 n) in
    elim c.if-is_left.branch [
      | then-is_left+in_ok-push w ↦ keep_one U n c.loop-place.place c.loop-place.set.items c.if-is_left.set.items all c.loop-place-test.true (sym w.if-is_left.ensures) (ap items_of w.set-is ∙ w.in_ok-push.ensures.items) c.loop-place.invariant
      | else-is_left w ↦ pass_by U n c.loop-place.place c.loop-place.set.items c.if-is_left.set.items all c.loop-place-test.true (sym w.if-is_left.ensures) (ap items_of w.set-is) c.loop-place.invariant
    ]
