use Rattle.std.proofs.Common.{◌≡◌, ◌∷◌, take}
use Rattle.tel_semantics.proofs.candidates.state_before.Given as goal

abbrev pub invariant-loop-state : goal.invariant-loop-state
invariant-loop-state l = l.states.items ≡ l.initial.state ∷ take l.state-index l.rest
