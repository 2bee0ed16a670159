use Rattle.std.proofs.Common.{◌≡◌, ◌++◌, ◌∷◌, drop}
use Rattle.tel_base.specs.Literals.{negations}
use Rattle.completion.proofs.lists.push_all_not.Given as goal

abbrev pub invariant-loop-lit : goal.invariant-loop-lit
invariant-loop-lit l = l.all.items ++ negations (drop l.lit-index l.lits) ≡ l.fn.first ∷ negations l.lits
