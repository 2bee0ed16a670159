use Rattle.std.proofs.Common.{◌∙◌, ℕ, sym, arith}
use Rattle.std.proofs.lemmas.List.Folds.{list_all-map, list_all_at}
use Rattle.tel_semantics.specs.Traces.{test_of}
use Rattle.tel_semantics.specs.Theory.{pair_demand, meets}
use Rattle.tel_semantics.specs.Walking.{seen}
use Rattle.tel_semantics.proofs.ListSteps.{list_all_passed}
use Rattle.tel_semantics.proofs.walking.HtTrace.keeps_pairs.Goals as goal

pub returns-then-not-keeps_apart : goal.returns-then-not-keeps_apart
returns-then-not-keeps_apart c =
    let self = c.args.self.now in
    let test = meets self.length (test_of (seen self.world self.here.now self.there.now)) (test_of self.there.now) in
    let pairs = c.args.pairs.now in
    sym (list_all-map test pair_demand pairs ∙ list_all_at (λ (pair : ℕ × ℕ). test (pair_demand pair)) pairs c.loop-pair.pair-index _ c.loop-pair-test.true (sym c.keeps_apart.ensures ∙ c.if-not-keeps_apart.true))

pub returns : goal.returns
returns c =
    let self = c.args.self.now in
    let test = meets self.length (test_of (seen self.world self.here.now self.there.now)) (test_of self.there.now) in
    let pairs = c.args.pairs.now in
    sym (list_all-map test pair_demand pairs ∙ list_all_passed (λ (pair : ℕ × ℕ). test (pair_demand pair)) pairs c.loop-pair.pair-index (omega arith) c.loop-pair.invariant)
