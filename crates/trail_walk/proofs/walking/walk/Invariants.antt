use Rattle.std.proofs.Common.{◌≡◌, ◌≤◌, ◌-◌, length}
use Rattle.trail_walk.specs.Ways.{IsReady, StaysOnWay}
use Rattle.trail_walk.proofs.walking.walk.Given as goal

abbrev pub invariant-deciding : goal.invariant-deciding
invariant-deciding l =
    IsReady l.store l.trail
    × (l.store.clauses ≡ l.initial.store.clauses)
    × (l.store.vars ≡ l.initial.store.vars)
    × (l.trail.vars ≡ l.initial.trail.vars)
    × (1 ≤ l.trail.level)
    × StaysOnWay l.space l.n l.initial.trail l.trail

abbrev pub decreases-deciding : goal.decreases-deciding
decreases-deciding l = l.trail.vars - length l.trail.entries
