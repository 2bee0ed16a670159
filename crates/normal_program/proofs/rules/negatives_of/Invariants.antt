use Rattle.std.proofs.Common.{◌≡◌, take}
use Rattle.normal_program.specs.Rules.{negatives}
use Rattle.normal_program.proofs.rules.negatives_of.Given as goal

abbrev pub invariant-loop-lit : goal.invariant-loop-lit
invariant-loop-lit l = l.vars ≡ negatives (take l.lit-index l.lits)
