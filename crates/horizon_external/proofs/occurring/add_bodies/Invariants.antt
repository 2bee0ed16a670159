use Rattle.std.proofs.Common.{◌≡◌, ◌++◌, drop}
use Rattle.std.specs.List.{flat_map}
use Rattle.horizon_external.specs.Occurring.{body_vars}
use Rattle.horizon_external.proofs.occurring.add_bodies.Given as goal

abbrev pub invariant-loop-body : goal.invariant-loop-body
invariant-loop-body l = l.vars ++ flat_map body_vars (drop l.body-index l.bodies) ≡ l.initial.vars ++ flat_map body_vars l.bodies
