use Rattle.std.proofs.Common.{◌≤◌, take, nat_lt, IsTrue}
use Rattle.std.specs.List.{list_all}
use Rattle.rule_binding.proofs.closure.above.Given as goal

abbrev pub invariant-loop-v : goal.invariant-loop-v
invariant-loop-v l = record {
  vars : IsTrue (list_all (λ v. nat_lt v l.size) (take l.v-index l.vars));
  least : l.least ≤ l.size;
}
