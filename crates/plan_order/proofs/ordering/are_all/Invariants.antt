use Rattle.std.proofs.Common.{◌≡◌, drop}
use Rattle.std.specs.Prelude.{Bool}
use Rattle.std.specs.List.{list_all}
use Rattle.plan_order.proofs.ordering.are_all.Given as goal

abbrev pub invariant-loop-mark : goal.invariant-loop-mark
invariant-loop-mark l = list_all (λ (mark : Bool). mark) (drop l.mark-index l.known) ≡ list_all (λ (mark : Bool). mark) l.known
