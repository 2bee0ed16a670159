use Rattle.std.proofs.Common.{drop}
use Rattle.plan_order.proofs.Columns.{AreSoFar}
use Rattle.plan_order.proofs.marks.columns.Given as goal

abbrev pub invariant-loop-at : goal.invariant-loop-at
invariant-loop-at l = AreSoFar l.places l.fn.known l.known l.columns (drop l.at-index l.places)
