use Rattle.std.proofs.Common.{◌≡◌, take}
use Rattle.normal_program.proofs.copies.copy_bodies.Given as goal

abbrev pub invariant-loop-body : goal.invariant-loop-body
invariant-loop-body l = l.copy ≡ take l.body-index l.bodies
