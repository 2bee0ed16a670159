use Rattle.std.proofs.Common.{drop}
use Rattle.plan_order.proofs.Passed.{IsPassing}
use Rattle.plan_order.proofs.passing.pass.Given as goal

abbrev pub invariant-loop-index : goal.invariant-loop-index
invariant-loop-index l = IsPassing l.goals l.left l.next (drop l.index l.left) l.fn.known l.known l.fn.steps.items l.steps.items l.index
