use Rattle.std.proofs.Common.{◌≡◌, ◌∷◌, ℕ, List, map, take}
use Rattle.tel_semantics.proofs.candidates.state_before_each.Given as goal

abbrev pub invariant-loop-trace : goal.invariant-loop-trace
invariant-loop-trace l = l.more ≡ map (λ (trace : List (List ℕ)). l.state ∷ trace) (take l.trace-index l.traces)
