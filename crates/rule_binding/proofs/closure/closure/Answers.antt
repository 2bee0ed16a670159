use Rattle.rule_binding.proofs.States.{through}
use Rattle.rule_binding.proofs.closure.closure.Goals as goal

pub waking-preserved : goal.waking-preserved
waking-preserved c = record {
  state = c.in_ok-settle_all-2.ensures.state;
  meets = λ X. through (c.in_ok-settle_all-2.ensures.meets X) (c.in-Some.ensures.woken.2 X) (c.waking.invariant.meets X);
}
