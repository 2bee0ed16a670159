use Rattle.clause_store.specs.Held.{clauses_in}
use Rattle.clause_learn.proofs.Uips.{Walking}
use Rattle.clause_learn.proofs.notes.Notes.resolve.Given as goal

abbrev pub invariant-loop-place : goal.invariant-loop-place
invariant-loop-place l = Walking (clauses_in l.store.clauses) l.trail l.initial.self l.self l.place
