use Rattle.std.proofs.Common.{◌≡◌, drop}
use Rattle.tel_term.specs.Arithmetic.{chained, summed, multiplied, valued}
use Rattle.tel_term.proofs.arithmetic.+evaluating.Given as goal

abbrev pub invariant-sum-loop-next : goal.invariant-sum-loop-next
invariant-sum-loop-next l = chained summed l.value (valued l.binding (drop l.next-index l.more)) ≡ chained summed l.fn.first (valued l.binding l.more)

abbrev pub invariant-product-loop-next : goal.invariant-product-loop-next
invariant-product-loop-next l = chained multiplied l.value (valued l.binding (drop l.next-index l.more)) ≡ chained multiplied l.fn.first (valued l.binding l.more)
