use Rattle.std.proofs.Common.{◌≡◌, ◌∷◌, ℕ, List, map, take}
use Rattle.tel_semantics.proofs.candidates.atom_before_each.Given as goal

abbrev pub invariant-loop-state : goal.invariant-loop-state
invariant-loop-state l = l.more ≡ map (λ (state : List ℕ). l.atom ∷ state) (take l.state-index l.states)
