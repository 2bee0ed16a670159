-- The levels of a trail and their decisions.
use Rattle.std.specs.Prelude.{◌≡◌, ℕ, ◌+◌, ◌^◌, ◌<◌, ◌≤◌, nat_lt, List, [], ◌∷◌, length, Option, None, IsTrue}
use Rattle.std.specs.List.{list_all}
use Rattle.tel_base.specs.declared.literals.Lit.{Lit}
use Rattle.lit_trail.specs.declared.assignment.Entry.{Entry}
use Rattle.lit_trail.specs.Entries.{Assigned, Apart, decision_in, back}

-- levels never fall along the trail, and end at most at this one
abbrev pub AreLevels : ℕ → List Entry → Type 0
AreLevels top [] = Unit {0}
AreLevels top (entry ∷ older) = (entry.level ≤ top) × AreLevels entry.level older

-- a decision is above level 0, and the first literal of its level
abbrev pub AreOpened : List Entry → Type 0
AreOpened [] = Unit {0}
AreOpened (entry ∷ older) = (entry.reason ≡ None → (0 < entry.level) × IsTrue (list_all (λ (e : Entry). nat_lt e.level entry.level) older)) × AreOpened older

-- the variables are below the number
abbrev pub AreWithin : ℕ → List Entry → Type 0
AreWithin vars [] = Unit {0}
AreWithin vars (entry ∷ older) = (entry.lit.var < vars) × AreWithin vars older

-- no variable stands twice, each is in range, and a decision begins its level
pub record AreOrdered (vars : ℕ) (entries : List Entry) : Type 0 where
  pub apart : Apart entries
  pub within : AreWithin vars entries
  pub opened : AreOpened entries

-- the decisions are those of the levels, the last one first; level 0 has none, and every level above 1 has one
abbrev pub AreDecided : List Entry → List (Option Lit) → Type 0
AreDecided entries [] = decision_in entries 0 ≡ None
AreDecided entries (decision ∷ lower) =
    AreDecided (back (length lower) entries) lower × (decision_in entries (length lower + 1) ≡ decision) × (decision ≡ None → length lower ≡ 0)

-- what a trail keeps, with its decisions and the room for them
pub record IsTrail (assigned : Assigned) (decisions : List (Option Lit)) (capacity : ℕ) : Type 0 where
  pub ordered : AreOrdered assigned.vars assigned.entries
  pub levels : AreLevels (length decisions) assigned.entries
  pub decided : AreDecided assigned.entries decisions
  pub short : length assigned.entries ≤ assigned.vars
  pub some : length decisions ≤ assigned.vars + 1
  pub room : 0 < assigned.vars → assigned.vars + 1 ≤ capacity
  pub small : assigned.vars + 1 < 2 ^ 32
