use Rattle.std.proofs.Common.{◌≡◌, drop}
use Rattle.std.specs.List.{list_all}
use Rattle.join_plans.specs.Join.{is_known}
use Rattle.plan_order.proofs.marks.all_known.Given as goal

abbrev pub invariant-loop-at : goal.invariant-loop-at
invariant-loop-at l = list_all (is_known l.known) (drop l.at-index l.places) ≡ list_all (is_known l.known) l.places
