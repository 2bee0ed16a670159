use Rattle.std.proofs.Common.{◌≡◌, drop}
use Rattle.rule_binding.specs.Closure.{marked}
use Rattle.rule_goals.specs.Said.{all_said}
use Rattle.range_faults.specs.Testing.{all_agree}
use Rattle.range_faults.proofs.testing.all_agree.Given as goal

abbrev pub invariant-loop-goal : goal.invariant-loop-goal
invariant-loop-goal l = all_agree (marked l.unset) l.values (all_said (drop l.goal-index l.goals)) ≡ all_agree (marked l.unset) l.values (all_said l.goals)
