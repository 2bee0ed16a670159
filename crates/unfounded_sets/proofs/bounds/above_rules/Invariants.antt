use Rattle.std.proofs.Common.{◌≡◌, ◌≤◌, ◌^◌, true, take}
use Rattle.unfounded_sets.specs.Marks.{are_below}
use Rattle.unfounded_sets.proofs.bounds.above_rules.Given as goal

abbrev pub invariant-loop-rule : goal.invariant-loop-rule
invariant-loop-rule l = (are_below l.bound (take l.rule-index l.rules) ≡ true) × (l.bound ≤ 2 ^ 32)
