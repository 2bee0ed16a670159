use Rattle.std.proofs.Common.{◌≡◌, ◌++◌, drop}
use Rattle.std.specs.List.{flat_map}
use Rattle.horizon_external.specs.Occurring.{rule_vars}
use Rattle.horizon_external.proofs.occurring.add_rules.Given as goal

abbrev pub invariant-loop-rule : goal.invariant-loop-rule
invariant-loop-rule l = l.vars ++ flat_map rule_vars (drop l.rule-index l.rules) ≡ l.initial.vars ++ flat_map rule_vars l.rules
