use Rattle.std.proofs.Common.{◌≡◌, drop, length}
use Rattle.clause_learn.specs.Noted.{unmarked}
use Rattle.clause_learn.proofs.notes.unmark.Given as goal

abbrev pub invariant-loop-lit : goal.invariant-loop-lit
invariant-loop-lit l = (unmarked (drop l.lit-index l.lits) l.marks.items ≡ unmarked l.lits l.initial.marks.items) × (length l.marks.items ≡ length l.initial.marks.items)
