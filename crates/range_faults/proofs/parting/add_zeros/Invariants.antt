use Rattle.std.proofs.Common.{◌≡◌, ◌++◌, drop}
use Rattle.rule_goals.specs.Said.{all_said}
use Rattle.range_faults.specs.Parting.{zero_goals}
use Rattle.range_faults.proofs.parting.add_zeros.Given as goal

abbrev pub invariant-loop-v : goal.invariant-loop-v
invariant-loop-v l = all_said l.goals.items ++ zero_goals l.zero l.v (drop l.v l.marks) ≡ all_said l.initial.goals.items ++ zero_goals l.zero 0 l.marks
