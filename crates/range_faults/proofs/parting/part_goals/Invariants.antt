use Rattle.std.proofs.Common.{◌≡◌, ◌++◌, drop}
use Rattle.rule_goals.specs.Said.{all_said}
use Rattle.range_faults.specs.Parting.{early_goals, late_goals}
use Rattle.range_faults.proofs.parting.part_goals.Given as goal

abbrev pub invariant-loop-goal : goal.invariant-loop-goal
invariant-loop-goal l = record {
  early : all_said l.early.items ++ early_goals l.marks (all_said (drop l.goal-index l.goals)) ≡ all_said l.initial.early.items ++ early_goals l.marks (all_said l.goals);
  late : all_said l.late.items ++ late_goals l.marks (all_said (drop l.goal-index l.goals)) ≡ all_said l.initial.late.items ++ late_goals l.marks (all_said l.goals);
}
