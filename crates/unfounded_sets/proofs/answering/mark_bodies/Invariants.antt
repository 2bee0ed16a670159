use Rattle.std.proofs.Common.{◌≡◌, ℕ, ◌||◌, drop, length}
use Rattle.unfounded_sets.specs.Least.{wanted_below, at}
use Rattle.unfounded_sets.specs.Marks.{rest_of, marks_by}
use Rattle.unfounded_sets.proofs.answering.mark_bodies.Given as goal

abbrev pub invariant-loop-rule : goal.invariant-loop-rule
invariant-loop-rule l = record {
  len : length l.marks ≡ length l.initial.marks;
  marks : (v : ℕ) → (at l.marks v || marks_by l.trail.entries (rest_of (wanted_below l.ground l.trail.entries (length l.found)) (at l.found)) (drop l.rule-index l.ground.rules) v) ≡ (at l.initial.marks v || marks_by l.trail.entries (rest_of (wanted_below l.ground l.trail.entries (length l.found)) (at l.found)) l.ground.rules v);
}
