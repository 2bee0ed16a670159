use Rattle.std.proofs.Common.{◌≡◌, ◌++◌, drop}
use Rattle.rule_goals.specs.Said.{all_said, comparisons_said}
use Rattle.rule_goals.proofs.body.add_comparisons.Given as goal

abbrev pub invariant-loop-literal : goal.invariant-loop-literal
invariant-loop-literal l = all_said l.goals.items ++ comparisons_said (drop l.literal-index l.body) ≡ all_said l.initial.goals.items ++ comparisons_said l.body
