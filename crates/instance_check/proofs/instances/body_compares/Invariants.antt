use Rattle.std.proofs.Common.{◌≡◌, drop}
use Rattle.instance_check.specs.Valued.{all_compare}
use Rattle.instance_check.proofs.instances.body_compares.Given as goal

abbrev pub invariant-loop-literal : goal.invariant-loop-literal
invariant-loop-literal l = all_compare l.symbols l.binding (drop l.literal-index l.body) ≡ all_compare l.symbols l.binding l.body
