use Rattle.std.proofs.Common.{◌≡◌, drop}
use Rattle.instance_check.specs.Valued.{all_valued}
use Rattle.instance_check.proofs.instances.all_valued.Given as goal

abbrev pub invariant-loop-expr : goal.invariant-loop-expr
invariant-loop-expr l = all_valued l.binding (drop l.expr-index l.exprs) ≡ all_valued l.binding l.exprs
