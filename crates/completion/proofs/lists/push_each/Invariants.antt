use Rattle.std.proofs.Common.{◌≡◌, ◌++◌, ◌∷◌, [], map, drop}
use Rattle.tel_base.specs.declared.literals.Lit.{Lit}
use Rattle.completion.proofs.lists.push_each.Given as goal

abbrev pub invariant-loop-lit : goal.invariant-loop-lit
invariant-loop-lit l = l.clauses.items ++ map (λ (lit : Lit). l.first ∷ lit ∷ []) (drop l.lit-index l.lits) ≡ l.initial.clauses.items ++ map (λ (lit : Lit). l.first ∷ lit ∷ []) l.lits
