use Rattle.std.proofs.Common.{◌≡◌, ℕ, ◌<◌, true, not, ◌||◌}
use Rattle.tel_semantics.specs.Traces.{test_of}
use Rattle.tel_semantics.proofs.listing.has_all_at.Given as goal

abbrev pub invariant-loop-atom : goal.invariant-loop-atom
invariant-loop-atom l =
    (atom : ℕ) → atom < l.atom → (not (test_of l.large l.k atom) || test_of l.small l.k atom) ≡ true
