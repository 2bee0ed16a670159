use Rattle.std.proofs.Common.{◌≡◌, ◌≤◌, ◌-◌, length, drop}
use Rattle.normal_program.specs.ModuleClauses.{has_both}
use Rattle.completion.proofs.ordering.has_both.Given as goal

abbrev pub invariant-reading : goal.invariant-reading
invariant-reading l = record {
  within : l.place ≤ length l.rising;
  rest : has_both (drop l.place l.rising) ≡ has_both l.rising;
}

abbrev pub decreases-reading : goal.decreases-reading
decreases-reading l = length l.rising - l.place
