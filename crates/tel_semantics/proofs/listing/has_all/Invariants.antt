use Rattle.std.proofs.Common.{◌≡◌, ℕ, ◌<◌, true, not, ◌||◌}
use Rattle.tel_semantics.specs.Traces.{test_of, each_below}
use Rattle.tel_semantics.proofs.listing.has_all.Given as goal

abbrev pub invariant-loop-k : goal.invariant-loop-k
invariant-loop-k l =
    (k : ℕ) → k < l.k → each_below l.count (λ atom. not (test_of l.large k atom) || test_of l.small k atom) ≡ true
