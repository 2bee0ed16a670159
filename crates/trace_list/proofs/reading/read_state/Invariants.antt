use Rattle.std.proofs.Common.{◌≡◌, ℕ, ◌++◌}
use Rattle.tel_base.specs.Literals.{lit_of}
use Rattle.atom_space.specs.Numbers.{visible}
use Rattle.lit_trail.specs.Sound.{holds}
use Rattle.trace_list.specs.Reading.{state_of}
use Rattle.trace_list.proofs.Places.{passing}
use Rattle.trace_list.proofs.reading.read_state.Given as goal

abbrev pub invariant-loop-atom : goal.invariant-loop-atom
invariant-loop-atom l = l.state ++ passing (λ (a : ℕ). holds l.trail.entries (lit_of (visible l.space.counts a l.t))) l.space.counts.atoms l.atom ≡ state_of l.trail.entries l.space.counts l.t
