use Rattle.std.proofs.Common.{◌≡◌, List, length}
use Rattle.rule_binding.specs.Binding.{Setting}
use Rattle.rule_settings.specs.Waiting.{StateIs}
use Rattle.rule_settings.proofs.state.State.settle_all.Given as goal

abbrev pub invariant-waiters : goal.invariant-waiters
invariant-waiters l = record {
  state : (cs : List Setting) → StateIs cs l.initial.self l.initial.rest → StateIs cs l.self l.rest;
  bound : l.self.bound ≡ l.initial.self.bound;
}

abbrev pub decreases-waiters : goal.decreases-waiters
decreases-waiters l = length l.rest
