use Rattle.std.proofs.Common.{◌≡◌, drop}
use Rattle.std.specs.Prelude.{None}
use Rattle.watch_propagate.specs.Status.{status}
use Rattle.watch_propagate.proofs.examining.examine.Given as goal

abbrev pub invariant-loop-lit : goal.invariant-loop-lit
invariant-loop-lit l = status l.trail.entries (drop l.lit-index l.clause) l.left ≡ status l.trail.entries l.clause None
