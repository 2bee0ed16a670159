use Rattle.std.proofs.Common.{◌≡◌, length}
use Rattle.lit_trail.specs.Entries.{back}
use Rattle.lit_trail.proofs.trail.Trail.back_to.Given as goal

abbrev pub invariant-popping : goal.invariant-popping
invariant-popping l =
    (back l.level l.self-inside.assignment.entries ≡ back l.level l.initial.self-inside.assignment.entries)
    × (l.self-inside.assignment.vars ≡ l.initial.self-inside.assignment.vars)
    × (l.self-inside.decisions ≡ l.initial.self-inside.decisions)

abbrev pub decreases-popping : goal.decreases-popping
decreases-popping l = length l.self-inside.assignment.entries
