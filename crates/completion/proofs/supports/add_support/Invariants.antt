use Rattle.std.proofs.Common.{◌≡◌, ◌++◌, ◌∷◌, map, drop}
use Rattle.tel_base.specs.Literals.{lit_of}
use Rattle.normal_program.specs.ModuleClauses.{no_lit}
use Rattle.completion.proofs.supports.add_support.Given as goal

abbrev pub invariant-loop-body : goal.invariant-loop-body
invariant-loop-body l = l.lits.items ++ map lit_of (drop l.body-index l.bodies) ≡ no_lit l.atom ∷ map lit_of l.bodies
