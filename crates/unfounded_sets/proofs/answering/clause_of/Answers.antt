use Rattle.std.proofs.Common.{◌∙◌, ℕ, Bool, length, map, not, List, [], ◌∷◌, ◌++◌, Vec, Global, ap}
use Rattle.std.specs.List.{filter, range_with_len}
use Rattle.tel_base.specs.declared.literals.Lit.{Lit}
use Rattle.unfounded_sets.specs.Marks.{false_of}
use Rattle.unfounded_sets.specs.Least.{at}
use Rattle.unfounded_sets.proofs.Ranges.{keep_one_as, pass_by_as}
use Rattle.unfounded_sets.proofs.answering.clause_of.Goals as goal
use Rattle.unfounded_sets.proofs.answering.clause_of.Goals.{then-marks-place+in_ok-push, else-marks-place}

abbrev items_of : Vec Lit Global → List Lit
items_of vector = vector.items

pub loop-place-preserved : goal.loop-place-preserved
loop-place-preserved c =
    let f : ℕ → Lit = false_of c.args.trail.now.entries in
    let marked : ℕ → Bool = at c.args.marks.now in
    let n = length c.args.marks.now in
    let all = map f (filter marked (range_with_len 0 n)) in
    elim c.if-marks-place.branch [
      | then-marks-place+in_ok-push w ↦ keep_one_as f marked n c.loop-place.place c.loop-place.lits.items c.if-marks-place.lits.items all c.loop-place-test.true w.if-marks-place.true (ap items_of w.lits-is ∙ w.in_ok-push.ensures.items ∙ ap (λ (b : Bool). c.loop-place.lits.items ++ (record { var = c.loop-place.place; positive = not b } ∷ [])) w.is_true.ensures) c.loop-place.invariant
      | else-marks-place w ↦ pass_by_as f marked n c.loop-place.place c.loop-place.lits.items c.if-marks-place.lits.items all c.loop-place-test.true w.if-marks-place.false (ap items_of w.lits-is) c.loop-place.invariant
    ]
