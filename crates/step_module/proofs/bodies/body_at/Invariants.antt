use Rattle.std.proofs.Common.{◌≡◌, take}
use Rattle.std.specs.List.{flat_map}
use Rattle.step_module.specs.Bodies.{literal_lits}
use Rattle.step_module.proofs.bodies.body_at.Given as goal

abbrev pub invariant-loop-literal : goal.invariant-loop-literal
invariant-loop-literal l = l.lits ≡ flat_map (literal_lits l.space.counts l.t) (take l.literal-index l.literal-items)
