use Rattle.std.proofs.Common.{◌↔◌, ◌<◌, ℕ}
use Rattle.tel_base.specs.Members.{In}
use Rattle.plan_order.proofs.ordering.numbers.Given as goal

abbrev pub invariant-loop-number : goal.invariant-loop-number
invariant-loop-number l = (n : ℕ) → In n l.numbers.items ↔ (n < l.number)
