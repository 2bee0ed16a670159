use Rattle.std.proofs.Common.{◌≡◌, ◌++◌, drop}
use Rattle.rule_settings.specs.Said.{all_said}
use Rattle.rule_settings.specs.Waiting.{waiters_from}
use Rattle.rule_settings.proofs.waiters.all_waiters.Given as goal

abbrev pub invariant-loop-number : goal.invariant-loop-number
invariant-loop-number l = l.waiters ++ waiters_from l.number (all_said (drop l.number l.candidates)) ≡ waiters_from 0 (all_said l.candidates)
