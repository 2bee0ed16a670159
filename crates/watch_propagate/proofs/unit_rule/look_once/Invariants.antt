use Rattle.clause_store.specs.Held.{clauses_in}
use Rattle.watch_propagate.proofs.Looking.{RoundState}
use Rattle.watch_propagate.proofs.unit_rule.look_once.Given as goal

abbrev pub invariant-loop-place : goal.invariant-loop-place
invariant-loop-place l = RoundState (clauses_in l.store.clauses) l.initial.trail l.trail l.place
