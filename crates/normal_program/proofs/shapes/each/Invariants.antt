use Rattle.std.proofs.Common.{◌≡◌, [], ◌∷◌, map, take}
use Rattle.tel_base.specs.declared.literals.Lit.{Lit}
use Rattle.normal_program.specs.Shapes.{node_rule}
use Rattle.normal_program.proofs.shapes.each.Given as goal

abbrev pub invariant-loop-lit : goal.invariant-loop-lit
invariant-loop-lit l = l.rules.items ≡ map (λ (lit : Lit). node_rule l.var (lit ∷ [])) (take l.lit-index l.lits)
