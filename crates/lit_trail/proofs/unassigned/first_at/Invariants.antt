use Rattle.std.proofs.Common.{◌≡◌, ℕ}
use Rattle.std.specs.List.{find}
use Rattle.atom_space.specs.Numbers.{visible}
use Rattle.lit_trail.specs.Unassigned.{is_open, visible_at}
use Rattle.lit_trail.proofs.OpenStates.{items_from}
use Rattle.lit_trail.proofs.unassigned.first_at.Given as goal

abbrev pub invariant-loop-atom : goal.invariant-loop-atom
invariant-loop-atom l = find (is_open l.assignment.entries) (items_from (λ (atom : ℕ). visible l.space.counts atom l.t) l.space.counts.atoms l.atom) ≡ find (is_open l.assignment.entries) (visible_at l.space.counts l.t)
