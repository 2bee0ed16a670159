-- The levels of a trail that are a walk: the end, and then decision by decision the first visible variable without a value, made false.
use Rattle.std.specs.Prelude.{◌≡◌, ℕ, zero, suc, ◌≤◌, List, [], ◌∷◌, Some, None, IsTrue}
use Rattle.std.specs.List.{find}
use Rattle.tel_base.specs.declared.literals.Lit.{Lit}
use Rattle.tel_base.specs.Literals.{lit_of}
use Rattle.clause_store.specs.Closure.{Clause, Conflict, IsClosure}
use Rattle.normal_program.specs.ModuleClauses.{no_lit}
use Rattle.lit_trail.specs.declared.assignment.Entry.{Entry}
use Rattle.lit_trail.specs.Entries.{decision_in, back}
use Rattle.lit_trail.specs.Levels.{AreLevels, AreOpened}
use Rattle.lit_trail.specs.Unassigned.{is_open}
use Rattle.lit_trail.specs.Sound.{holds, decided_lits, IsClosedTrail}
use Rattle.search_laws.specs.Walks.{IsTotalWalk, IsStuckWalk}
use Rattle.search_laws.specs.Lengths.{Length}

-- these are the decisions of the levels 1 to m + 1, with the end for that of level 1
abbrev pub AreDecisions : Length → List Entry → ℕ → List Lit → Type 0
AreDecisions length entries zero decisions = lit_of length.ending ∷ [] ≡ decisions
AreDecisions length entries (suc m) decisions =
    (v : ℕ) × (older : List Lit) × (find (is_open (back (suc m) entries)) length.visible ≡ Some v) × (decision_in entries (suc (suc m)) ≡ Some (no_lit v)) × ((no_lit v ∷ older) ≡ decisions) × AreDecisions length entries m older

-- the trail up to the level m + 1 is as far as a walk goes: the end holds at level 1, where nothing else is decided, and each level is closed
pub record IsWalking (length : Length) (clauses : List Clause) (entries : List Entry) (m : ℕ) (decisions : List Lit) : Type 0 where
  pub levels : (top : ℕ) × AreLevels top entries
  pub opened : AreOpened entries
  pub ended : IsTrue (holds (back 1 entries) (lit_of length.ending))
  pub first : (lit : Lit) → decision_in entries 1 ≡ Some lit → lit_of length.ending ≡ lit
  pub closed : (level : ℕ) → 1 ≤ level → level ≤ suc m → IsClosedTrail clauses (back level entries)
  pub decided : AreDecisions length entries m decisions

-- then the walk is total where no visible variable is without a value, and its closure is the trail
abbrev pub LevelsAreTotal : Type 0
LevelsAreTotal =
    (length : Length) (clauses : List Clause) (entries : List Entry) (m : ℕ) (decisions : List Lit) → IsWalking length clauses entries m decisions → find (is_open (back (suc m) entries)) length.visible ≡ None
    → IsTotalWalk clauses length.ending length.visible decisions × IsClosure clauses decisions (holds (back (suc m) entries))

-- and it is stuck where the next decision conflicts
abbrev pub LevelsAreStuck : Type 0
LevelsAreStuck =
    (length : Length) (clauses : List Clause) (entries : List Entry) (m v : ℕ) (decisions : List Lit) → IsWalking length clauses entries m decisions → find (is_open (back (suc m) entries)) length.visible ≡ Some v
    → decision_in entries (suc (suc m)) ≡ Some (no_lit v) → Conflict clauses (decided_lits (back (suc (suc m)) entries)) → IsStuckWalk clauses length.ending length.visible (no_lit v ∷ decisions)
