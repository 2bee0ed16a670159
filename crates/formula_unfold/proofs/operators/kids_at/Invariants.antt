use Rattle.std.proofs.Common.{◌≡◌, map, take}
use Rattle.tel_rule.specs.declared.nodes.Kid.{Kid}
use Rattle.tel_base.specs.Literals.{lit_of}
use Rattle.formula_unfold.specs.Unfold.{kid_var}
use Rattle.formula_unfold.proofs.operators.kids_at.Given as goal

abbrev pub invariant-loop-kid : goal.invariant-loop-kid
invariant-loop-kid l = l.lits ≡ map (λ (kid : Kid). lit_of (kid_var l.space.counts kid l.t)) (take l.kid-index l.kids)
