use Rattle.std.proofs.Common.{◌≡◌, ◌↔◌, ◌<◌, ℕ, List, arith, subst}
use Rattle.tel_base.specs.Members.{In}
use Rattle.plan_order.proofs.Ordered.{numbers_more}
use Rattle.plan_order.proofs.ordering.numbers.Goals as goal

pub loop-number-init : goal.loop-number-init
loop-number-init c = λ n. ((λ there. absurd (subst (λ (l : List ℕ). In n l) c.new-numbers.ensures.items there)), (λ less. absurd (omega (arith, less))))

pub loop-number-preserved : goal.loop-number-preserved
loop-number-preserved c = numbers_more c.loop-number.numbers.items c.push.new.self.items c.loop-number.number c.in_ok-push.ensures.items c.loop-number.invariant

pub returns : goal.returns
returns c =
    let end : c.loop-number.number ≡ c.args.count = omega (arith, c.loop-number-test.false, c.loop-number.auto.number-end) in
    subst (λ (k : ℕ). (n : ℕ) → In n c.loop-number.numbers.items ↔ (n < k)) end c.loop-number.invariant
