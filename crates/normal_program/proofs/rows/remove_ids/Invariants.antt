use Rattle.std.proofs.Common.{◌≡◌, ◌≤◌, ℕ, List, [], ◌++◌, get_or, take, length}
use Rattle.normal_program.specs.Numbering.{ids_from}
use Rattle.normal_program.proofs.rows.remove_ids.Given as goal

abbrev pub invariant-loop-left : goal.invariant-loop-left
invariant-loop-left l = record {
  left : l.left ≤ length l.rules;
  rows : (before : ℕ → List ℕ) (first : ℕ) → ((var : ℕ) → get_or l.initial.rows.items var [] ≡ before var ++ ids_from first var (take l.initial.left l.rules)) → (var : ℕ) → get_or l.rows.items var [] ≡ before var ++ ids_from first var (take l.left l.rules);
}

abbrev pub decreases-loop-left : goal.decreases-loop-left
decreases-loop-left l = l.left
