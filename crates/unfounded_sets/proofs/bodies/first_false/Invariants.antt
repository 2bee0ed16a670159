use Rattle.std.proofs.Common.{◌≡◌, drop, map}
use Rattle.std.specs.List.{find}
use Rattle.tel_base.specs.Literals.{lit_of}
use Rattle.unfounded_sets.specs.Unfounded.{is_false}
use Rattle.unfounded_sets.proofs.bodies.first_false.Given as goal

abbrev pub invariant-loop-var : goal.invariant-loop-var
invariant-loop-var l = find (is_false l.trail.entries) (map lit_of (drop l.var-index l.vars)) ≡ find (is_false l.trail.entries) (map lit_of l.vars)
