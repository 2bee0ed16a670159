use Rattle.std.proofs.Common.{◌≤◌}
use Rattle.loop_rows.proofs.searching.trail_of.Given as goal

abbrev pub invariant-loop-lit : goal.invariant-loop-lit
invariant-loop-lit l = 18 ≤ l.trail.vars
