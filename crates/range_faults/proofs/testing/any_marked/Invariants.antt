use Rattle.std.proofs.Common.{◌≡◌, drop}
use Rattle.std.specs.List.{list_any}
use Rattle.rule_binding.specs.Closure.{marked}
use Rattle.range_faults.proofs.testing.any_marked.Given as goal

abbrev pub invariant-loop-v : goal.invariant-loop-v
invariant-loop-v l = list_any (marked l.marks) (drop l.v-index l.vars) ≡ list_any (marked l.marks) l.vars
