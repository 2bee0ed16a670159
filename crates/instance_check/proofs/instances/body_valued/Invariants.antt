use Rattle.std.proofs.Common.{◌≡◌, drop}
use Rattle.instance_check.specs.Valued.{all_valued, body_exprs}
use Rattle.instance_check.proofs.instances.body_valued.Given as goal

abbrev pub invariant-loop-literal : goal.invariant-loop-literal
invariant-loop-literal l = all_valued l.binding (body_exprs (drop l.literal-index l.body)) ≡ all_valued l.binding (body_exprs l.body)
