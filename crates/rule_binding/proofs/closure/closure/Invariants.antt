use Rattle.std.proofs.Common.{◌↔◌, IsTrue}
use Rattle.rule_binding.specs.Binding.{Vars}
use Rattle.rule_binding.specs.Closure.{keeps}
use Rattle.rule_binding.specs.Waiting.{IsState, Meets, left_of}
use Rattle.rule_binding.proofs.closure.closure.Given as goal

abbrev pub invariant-waking : goal.invariant-waking
invariant-waking l = record {
  state : IsState l.state;
  meets : (X : Vars) → Meets X l.state ↔ IsTrue (keeps X l.fn.rules);
}

abbrev pub decreases-waking : goal.decreases-waking
decreases-waking l = left_of l.state
