use Rattle.std.proofs.Common.{◌≡◌, drop, map}
use Rattle.std.specs.List.{find}
use Rattle.unfounded_sets.specs.Unfounded.{is_false, no_lit}
use Rattle.unfounded_sets.proofs.bodies.first_true.Given as goal

abbrev pub invariant-loop-var : goal.invariant-loop-var
invariant-loop-var l = find (is_false l.trail.entries) (map no_lit (drop l.var-index l.vars)) ≡ find (is_false l.trail.entries) (map no_lit l.vars)
