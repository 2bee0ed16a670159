use Rattle.std.proofs.Common.{◌≡◌, ◌≤◌, drop, length}
use Rattle.clause_store.specs.Closure.{Lits}
use Rattle.clause_learn.specs.Noted.{AreReady, MarksStay, IsNoted, joined}
use Rattle.clause_learn.proofs.notes.Notes.add.Given as goal

abbrev pub invariant-loop-lit : goal.invariant-loop-lit
invariant-loop-lit l = record {
  ready : AreReady l.trail l.self;
  marks : MarksStay l.initial.self l.self;
  size : length l.self.marks.items ≡ length l.initial.self.marks.items;
  capacity : l.initial.self.lits.capacity ≤ l.self.lits.capacity;
  noted : (set : Lits) → IsNoted l.trail set l.initial.self → (now : Lits) × IsNoted l.trail now l.self × (joined l.trail.entries now (drop l.lit-index l.clause) ≡ joined l.trail.entries set l.clause);
}
