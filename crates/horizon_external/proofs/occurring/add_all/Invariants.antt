use Rattle.std.proofs.Common.{◌≡◌, ◌++◌, drop}
use Rattle.horizon_external.proofs.occurring.add_all.Given as goal

abbrev pub invariant-loop-var : goal.invariant-loop-var
invariant-loop-var l = l.vars ++ drop l.var-index l.more ≡ l.initial.vars ++ l.more
