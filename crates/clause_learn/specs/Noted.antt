-- The notes that stand for a set of false literals: marks, a count, and a list.
use Rattle.std.specs.Prelude.{◌≡◌, ℕ, suc, ◌+◌, ◌^◌, ◌<◌, ◌≤◌, Bool, false, ◌&&◌, ◌||◌, List, [], ◌∷◌, length, nat_lt, slice_set, Some, ◌==◌, IsTrue, if◌then◌else◌, ◌⊎◌}
use Rattle.tel_base.specs.declared.literals.Lit.{Lit}
use Rattle.tel_base.specs.Literals.{negate}
use Rattle.clause_store.specs.Held.{are_distinct}
use Rattle.clause_store.specs.Closure.{In, Clause, Lits, same_lit, others, refutes}
use Rattle.lit_trail.specs.declared.assignment.Entry.{Entry}
use Rattle.lit_trail.specs.Entries.{View, level_in}
use Rattle.lit_trail.specs.Levels.{AreLevels, AreOrdered}
use Rattle.lit_trail.specs.Sound.{holds}
use Rattle.clause_learn.specs.declared.notes.Notes.{Notes}
use Rattle.clause_learn.specs.FirstUip.{has_more, first_uip}
use Rattle.clause_learn.specs.Room.{marked_at}
use Rattle.clause_learn.specs.LearntClause.{is_lower}

-- the set has the negation of the entry, and its level passes
abbrev pub picks : (ℕ → Bool) → Lits → Entry → Bool
picks test set entry = set (negate entry.lit) && test entry.level

abbrev pub above : ℕ → Bool
above level = nat_lt 0 level

abbrev pub at_level : ℕ → ℕ → Bool
at_level level other = other == level

abbrev pub under : ℕ → ℕ → Bool
under level other = nat_lt 0 other && nat_lt other level

-- how many entries pass
abbrev pub tally : (Entry → Bool) → List Entry → ℕ
tally test [] = 0
tally test (entry ∷ older) = if test entry then suc (tally test older) else tally test older

-- the entry of the variable passes
abbrev pub seen : (Entry → Bool) → List Entry → ℕ → Bool
seen test [] v = false
seen test (entry ∷ older) v = if entry.lit.var == v then test entry else seen test older v

-- the set with a literal, where it is false
abbrev pub added : List Entry → Lits → Lit → Lits
added entries set lit m = set m || (holds entries (negate lit) && same_lit lit m)

-- the set with the false literals of a clause
abbrev pub joined : List Entry → Lits → Clause → Lits
joined entries set [] = set
joined entries set (lit ∷ more) = joined entries (added entries set lit) more

-- the notes stand for the set
pub record IsNoted (trail : View) (set : Lits) (notes : Notes) : Type 0 where
  pub within : (lit : Lit) → IsTrue (set lit) → IsTrue (holds trail.entries (negate lit))
  pub marked : (v : ℕ) → marked_at notes.marks.items v ≡ seen (picks above set) trail.entries v
  pub counted : notes.left ≡ tally (picks (at_level trail.level) set) trail.entries
  pub few : length notes.lits.items ≡ tally (picks (under trail.level) set) trail.entries
  pub listed : (lit : Lit) → In lit notes.lits.items → IsTrue (set lit) × IsTrue (is_lower trail.level trail.entries lit)
  pub whole : (lit : Lit) → IsTrue (set lit) → IsTrue (is_lower trail.level trail.entries lit) → In lit notes.lits.items
  pub apart : IsTrue (are_distinct trail.vars notes.lits.items)

-- they stand for some set
abbrev pub AreNotes : View → Notes → Type 0
AreNotes trail notes = (set : Lits) × IsNoted trail set notes

-- what one set leads to, the notes have after them
abbrev pub Leads : View → (Lits → Lits) → Notes → Notes → Type 0
Leads trail step old new = (set : Lits) → IsNoted trail set old → IsNoted trail (step set) new

-- the notes have room for the trail
pub record AreReady (trail : View) (notes : Notes) : Type 0 where
  pub ordered : AreOrdered trail.vars trail.entries
  pub levels : AreLevels trail.level trail.entries
  pub few : length trail.entries ≤ trail.vars
  pub small : trail.vars + 1 < 2 ^ 32
  pub opened : 0 < trail.level
  pub marks : trail.vars ≤ length notes.marks.items
  pub room : trail.vars ≤ notes.lits.capacity

-- the literal is false, or its variable is marked
abbrev pub FalseOrMarked : View → Notes → Lit → Type 0
FalseOrMarked trail notes lit = IsTrue (holds trail.entries (negate lit)) ⊎ IsTrue (marked_at notes.marks.items lit.var)

-- marks stay
abbrev pub MarksStay : Notes → Notes → Type 0
MarksStay old new = (v : ℕ) → IsTrue (marked_at old.marks.items v) → IsTrue (marked_at new.marks.items v)

-- the other literals of the clause are false, and its negation is none of them
abbrev pub OthersFalse : View → Lit → Clause → Type 0
OthersFalse trail lit reason = (In (negate lit) reason → ⊥) × IsTrue (refutes (holds trail.entries) (others lit reason))

-- a literal of the trail's level is left
abbrev pub HasLeft : View → Lits → Type 0
HasLeft trail set = IsTrue (has_more trail.level trail.entries set)

-- they stand for a set with a literal of the trail's level
abbrev pub AreOpen : View → Notes → Type 0
AreOpen trail notes = (set : Lits) × IsNoted trail set notes × HasLeft trail set

-- the only literal of the trail's level
pub record IsUip (trail : View) (set : Lits) (lit : Lit) : Type 0 where
  pub held : IsTrue (set lit)
  pub level : level_in trail.entries lit.var ≡ Some trail.level
  pub alone : (m : Lit) → IsTrue (set m) → level_in trail.entries m.var ≡ Some trail.level → m ≡ lit

-- after resolution the notes stand for the first-UIP clause, of which this is the literal of the trail's level
abbrev pub Resolves : List Clause → View → Lit → Notes → Notes → Type 0
Resolves clauses trail lit old new =
    (set : Lits) → IsNoted trail set old → HasLeft trail set → IsNoted trail (first_uip clauses trail.level trail.entries set) new × IsUip trail (first_uip clauses trail.level trail.entries set) lit

-- the marks of these literals taken away
abbrev pub unmarked : List Lit → List Bool → List Bool
unmarked [] marks = marks
unmarked (lit ∷ more) marks = unmarked more (slice_set marks lit.var false)
