use Rattle.std.proofs.Common.{◌≡◌, ℕ, true, take}
use Rattle.std.specs.List.{list_all}
use Rattle.tel_semantics.specs.Traces.{test_of}
use Rattle.tel_semantics.specs.Theory.{pair_demand, meets}
use Rattle.tel_semantics.specs.Walking.{seen}
use Rattle.tel_semantics.proofs.walking.HtTrace.keeps_pairs.Given as goal

abbrev pub invariant-loop-pair : goal.invariant-loop-pair
invariant-loop-pair l =
    list_all (λ (pair : ℕ × ℕ). meets l.self.length (test_of (seen l.self.world l.self.here.now l.self.there.now)) (test_of l.self.there.now) (pair_demand pair)) (take l.pair-index l.pairs) ≡ true
