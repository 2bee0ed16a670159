use Rattle.std.proofs.Common.{◌≡◌, ◌++◌, drop}
use Rattle.rule_goals.specs.Said.{all_said, args_said, behind_args}
use Rattle.rule_goals.proofs.rows.add_args.Given as goal

abbrev pub invariant-loop-arg : goal.invariant-loop-arg
invariant-loop-arg l = record {
  goals : all_said l.goals.items ++ args_said l.next (drop l.arg-index l.args) ≡ all_said l.initial.goals.items ++ args_said l.free l.args;
  free : behind_args l.next (drop l.arg-index l.args) ≡ behind_args l.free l.args;
}
