use Rattle.std.proofs.Common.{◌≡◌, ℕ, map}
use Rattle.std.specs.List.{range_with_len}
use Rattle.atom_space.specs.Numbers.{visible}
use Rattle.step_module.proofs.steps.atoms_at.Given as goal

abbrev pub invariant-loop-atom : goal.invariant-loop-atom
invariant-loop-atom l = l.list ≡ map (λ (atom : ℕ). visible l.space.counts atom l.t) (range_with_len 0 l.atom)
