use Rattle.std.proofs.Common.{◌≡◌, ℕ, suc, ◌+◌, ◌-◌, List, [], ◌∷◌, ◌++◌, map, sym, ap, ◌∙◌, arith}
use Rattle.std.specs.List.{range_with_len}
use Rattle.std.proofs.lemmas.List.{append_assoc}
use Rattle.trace_list.specs.Reading.{state_of}
use Rattle.trace_list.proofs.reading.read_states.Goals as goal

pub loop-t-preserved : goal.loop-t-preserved
loop-t-preserved c =
    let one = state_of c.args.trail.now.entries c.args.space.now.counts in
    let k = c.loop-t.t in
    let n = c.args.n in
    let l = c.loop-t-test.true in
    let less : n - k ≡ suc (n - (k + 1)) = omega (arith, l) in
    let rest = map one (range_with_len (k + 1) (n - (k + 1))) in
    let added : c.push.new.self ≡ c.loop-t.states ++ one k ∷ [] = c.in_ok-push.ensures.ok ∙ ap (λ (s : List ℕ). c.loop-t.states ++ s ∷ []) c.in_ok-read_state.ensures in
    ap (λ (xs : List (List ℕ)). xs ++ rest) added ∙ append_assoc c.loop-t.states (one k ∷ []) rest ∙ ap (λ (m : ℕ). c.loop-t.states ++ map one (range_with_len k m)) (sym less) ∙ c.loop-t.invariant
