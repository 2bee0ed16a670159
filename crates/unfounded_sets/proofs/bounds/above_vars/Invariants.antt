use Rattle.std.proofs.Common.{◌≡◌, ◌≤◌, ◌^◌, true, take}
use Rattle.unfounded_sets.specs.Marks.{all_below}
use Rattle.unfounded_sets.proofs.bounds.above_vars.Given as goal

abbrev pub invariant-loop-var : goal.invariant-loop-var
invariant-loop-var l = (all_below l.bound (take l.var-index l.vars) ≡ true) × (l.initial.bound ≤ l.bound) × (l.bound ≤ 2 ^ 32)
