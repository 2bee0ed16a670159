use Rattle.std.proofs.Common.{◌≡◌, ◌∷◌, ℕ, List, map, take}
use Rattle.std.specs.List.{flat_map}
use Rattle.tel_semantics.proofs.candidates.each_before_each.Given as goal

abbrev pub invariant-loop-state : goal.invariant-loop-state
invariant-loop-state l =
    l.more ≡ flat_map (λ (state : List ℕ). map (λ (trace : List (List ℕ)). state ∷ trace) l.traces) (take l.state-index l.states)
