use Rattle.std.proofs.Common.{◌≡◌, ℕ, ◌<◌, ◌≤◌, true, get_or}
use Rattle.std.specs.Prelude.{None, is_some}
use Rattle.lit_trail.proofs.assignment.first_none.Given as goal

abbrev pub invariant-loop-at : goal.invariant-loop-at
invariant-loop-at l = (var : ℕ) → var < l.at → l.from ≤ var → is_some (get_or l.table var None) ≡ true
