use Rattle.std.proofs.Common.{◌∷◌, ℕ, List, map, arith}
use Rattle.tel_semantics.proofs.ListSteps.{flat_map_step}
use Rattle.tel_semantics.proofs.candidates.each_before_each.Goals as goal

pub loop-state-preserved : goal.loop-state-preserved
loop-state-preserved c =
    flat_map_step (λ (state : List ℕ). map (λ (trace : List (List ℕ)). state ∷ trace) c.args.traces.now) c.args.states.now c.loop-state.state-index c.state-item.result c.loop-state.more c.in_ok-with_state.with_state c.append.new.self (omega arith) c.state-item.is c.loop-state.invariant c.in_ok-with_state.ensures c.in_ok-append.ensures
