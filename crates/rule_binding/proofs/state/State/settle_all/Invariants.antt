use Rattle.std.proofs.Common.{◌≡◌, ◌↔◌, length, vec_len, IsTrue}
use Rattle.rule_binding.specs.Binding.{Vars}
use Rattle.rule_binding.specs.Closure.{keeps}
use Rattle.rule_binding.specs.Waiting.{are_below, IsState, Meets, left_of}
use Rattle.rule_binding.proofs.state.State.settle_all.Given as goal

abbrev pub invariant-rules : goal.invariant-rules
invariant-rules l = record {
  state : IsState l.self;
  below : IsTrue (are_below (vec_len l.self.bound) l.rest);
  meets : (X : Vars) → (Meets X l.self × IsTrue (keeps X l.rest)) ↔ (Meets X l.initial.self × IsTrue (keeps X l.initial.rest));
  left : left_of l.self ≡ left_of l.initial.self;
  size : vec_len l.self.bound ≡ vec_len l.initial.self.bound;
}

abbrev pub decreases-rules : goal.decreases-rules
decreases-rules l = length l.rest
