use Rattle.std.proofs.Common.{◌≡◌, ◌-◌, length}
use Rattle.clause_store.specs.Held.{clauses_in}
use Rattle.lit_trail.specs.Sound.{IsSound}
use Rattle.watch_propagate.specs.Propagation.{Grown}
use Rattle.watch_propagate.proofs.unit_rule.propagate.Given as goal

abbrev pub invariant-rounds : goal.invariant-rounds
invariant-rounds l = record {
  sound : IsSound (clauses_in l.store.clauses) l.trail;
  grown : Grown l.initial.trail.level l.initial.trail.entries l.trail.entries;
  level : l.trail.level ≡ l.initial.trail.level;
  vars : l.trail.vars ≡ l.initial.trail.vars;
}

abbrev pub decreases-rounds : goal.decreases-rounds
decreases-rounds l = l.trail.vars - length l.trail.entries
