use Rattle.std.proofs.Common.{◌≡◌, drop}
use Rattle.std.specs.List.{list_all}
use Rattle.step_module.specs.Bodies.{literal_stands}
use Rattle.step_module.proofs.bodies.literals_are_at.Given as goal

abbrev pub invariant-loop-literal : goal.invariant-loop-literal
invariant-loop-literal l = list_all (literal_stands l.t) (drop l.literal-index l.body) ≡ list_all (literal_stands l.t) l.body
