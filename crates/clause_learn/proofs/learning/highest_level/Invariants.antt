use Rattle.std.proofs.Common.{◌≡◌, max, drop}
use Rattle.clause_learn.specs.LearntClause.{highest}
use Rattle.clause_learn.proofs.learning.highest_level.Given as goal

abbrev pub invariant-loop-lit : goal.invariant-loop-lit
invariant-loop-lit l = max l.highest (highest l.trail.entries (drop l.lit-index l.lits)) ≡ highest l.trail.entries l.lits
