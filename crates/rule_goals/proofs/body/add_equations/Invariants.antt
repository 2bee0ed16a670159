use Rattle.std.proofs.Common.{◌≡◌, ◌++◌, drop}
use Rattle.rule_goals.specs.Said.{all_said, equations_said}
use Rattle.rule_goals.proofs.body.add_equations.Given as goal

abbrev pub invariant-loop-literal : goal.invariant-loop-literal
invariant-loop-literal l = all_said l.goals.items ++ equations_said (drop l.literal-index l.body) ≡ all_said l.initial.goals.items ++ equations_said l.body
