use Rattle.std.proofs.Common.{◌≡◌, ◌≤◌, ◌-◌, length, drop}
use Rattle.normal_program.specs.ModuleClauses.{in_order}
use Rattle.completion.proofs.ordering.are_apart.Given as goal

abbrev pub invariant-reading : goal.invariant-reading
invariant-reading l = record {
  within : l.place ≤ length l.sorted;
  rest : in_order (drop l.place l.sorted) ≡ drop l.place l.sorted → in_order l.sorted ≡ l.sorted;
}

abbrev pub decreases-reading : goal.decreases-reading
decreases-reading l = length l.sorted - l.place
