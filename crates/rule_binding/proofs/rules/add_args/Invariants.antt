use Rattle.std.proofs.Common.{◌≡◌, ◌++◌, drop}
use Rattle.rule_binding.specs.Rules.{args_rules}
use Rattle.rule_binding.proofs.rules.add_args.Given as goal

abbrev pub invariant-loop-arg : goal.invariant-loop-arg
invariant-loop-arg l = l.rules ++ args_rules (drop l.arg-index l.args) ≡ l.initial.rules ++ args_rules l.args
