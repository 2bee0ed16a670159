use Rattle.std.proofs.Common.{◌≡◌, drop}
use Rattle.std.specs.List.{list_all}
use Rattle.rule_binding.specs.Closure.{marked}
use Rattle.range_faults.proofs.parting.all_marked.Given as goal

abbrev pub invariant-loop-v : goal.invariant-loop-v
invariant-loop-v l = list_all (marked l.marks) (drop l.v-index l.vars) ≡ list_all (marked l.marks) l.vars
