use Rattle.std.proofs.Common.{◌≡◌, ℕ, ◌<◌, true}
use Rattle.tel_semantics.specs.Theory.{pair_formula}
use Rattle.tel_semantics.specs.Walking.{holds_in}
use Rattle.tel_semantics.proofs.walking.HtTrace.keeps_apart.Given as goal

abbrev pub invariant-loop-k : goal.invariant-loop-k
invariant-loop-k l = (k : ℕ) → k < l.k → holds_in l.self (pair_formula l.pair) k ≡ true
