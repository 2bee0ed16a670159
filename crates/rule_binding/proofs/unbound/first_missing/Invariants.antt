use Rattle.std.proofs.Common.{◌<◌, ℕ, IsTrue}
use Rattle.rule_binding.specs.Closure.{marked}
use Rattle.rule_binding.proofs.unbound.first_missing.Given as goal

abbrev pub invariant-loop-v : goal.invariant-loop-v
invariant-loop-v l = (w : ℕ) → w < l.v → IsTrue (marked l.marks w)
