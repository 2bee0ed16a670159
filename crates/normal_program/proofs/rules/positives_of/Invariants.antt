use Rattle.std.proofs.Common.{◌≡◌, take}
use Rattle.normal_program.specs.Rules.{positives}
use Rattle.normal_program.proofs.rules.positives_of.Given as goal

abbrev pub invariant-loop-lit : goal.invariant-loop-lit
invariant-loop-lit l = l.vars ≡ positives (take l.lit-index l.lits)
