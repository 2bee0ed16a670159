use Rattle.std.proofs.Common.{◌≡◌, max, min, drop}
use Rattle.clause_learn.specs.LearntClause.{highest}
use Rattle.back_jump.specs.Jumps.{second_highest}
use Rattle.back_jump.proofs.levels.second_level.Given as goal

abbrev pub invariant-loop-lit : goal.invariant-loop-lit
invariant-loop-lit l =
    max (max l.second (second_highest l.trail.entries (drop l.lit-index l.lits))) (min l.highest (highest l.trail.entries (drop l.lit-index l.lits))) ≡ second_highest l.trail.entries l.lits
