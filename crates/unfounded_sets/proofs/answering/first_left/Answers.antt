use Rattle.std.proofs.Common.{◌∙◌, ℕ, Bool, ◌&&◌, length, sym}
use Rattle.unfounded_sets.specs.Unfounded.{is_true}
use Rattle.unfounded_sets.specs.Least.{wanted_below, at}
use Rattle.unfounded_sets.specs.Marks.{rest_of}
use Rattle.unfounded_sets.proofs.Ranges.{find_on, left_false, right_false}
use Rattle.unfounded_sets.proofs.answering.first_left.Goals as goal
use Rattle.unfounded_sets.proofs.answering.first_left.Goals.{else-is_left-via-then-is_left+else-is_true, else-is_left-via-else-is_left}

pub loop-place-preserved : goal.loop-place-preserved
loop-place-preserved c =
    let U : ℕ → Bool = rest_of (wanted_below c.args.ground.now c.args.trail.now.entries (length c.args.found.now)) (at c.args.found.now) in
    let yes : ℕ → Bool = is_true c.args.trail.now.entries in
    find_on (λ v. U v && yes v) (length c.args.found.now) c.loop-place.place c.loop-place-test.true (elim c.else-is_left.branch [
      | else-is_left-via-then-is_left+else-is_true w ↦ right_false (U c.loop-place.place) (yes c.loop-place.place) (sym w.if-is_true.ensures)
      | else-is_left-via-else-is_left w ↦ left_false (U c.loop-place.place) (yes c.loop-place.place) (sym w.if-is_left.ensures)
    ]) ∙ c.loop-place.invariant
