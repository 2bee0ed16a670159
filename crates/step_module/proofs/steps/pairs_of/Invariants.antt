use Rattle.std.proofs.Common.{◌≡◌, ℕ, map, take}
use Rattle.atom_space.specs.Numbers.{visible}
use Rattle.step_module.proofs.steps.pairs_of.Given as goal

abbrev pub invariant-loop-pair : goal.invariant-loop-pair
invariant-loop-pair l = l.list ≡ map (λ (pair : ℕ × ℕ). (visible l.space.counts pair.0 l.t, visible l.space.counts pair.1 l.t)) (take l.pair-index l.pairs)
