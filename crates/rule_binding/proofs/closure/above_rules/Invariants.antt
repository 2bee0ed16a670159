use Rattle.std.proofs.Common.{take, IsTrue}
use Rattle.rule_binding.specs.Waiting.{are_below}
use Rattle.rule_binding.proofs.closure.above_rules.Given as goal

abbrev pub invariant-loop-rule : goal.invariant-loop-rule
invariant-loop-rule l = IsTrue (are_below l.size (take l.rule-index l.rules))
