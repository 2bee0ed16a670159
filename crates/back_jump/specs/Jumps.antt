-- A clause that is added to a search, and the level to which the trail goes back for it.
use Rattle.std.specs.Prelude.{◌≡◌, ℕ, ◌<◌, max, min, List, [], ◌∷◌, ◌++◌, None, IsTrue, ◌⊎◌}
use Rattle.tel_base.specs.declared.literals.Lit.{Lit}
use Rattle.clause_store.specs.declared.store.ClauseId.{ClauseId}
use Rattle.clause_store.specs.declared.store.ClauseKind.TheVariants as kinds
use Rattle.clause_store.specs.Held.{Held, clauses_in, clause_at}
use Rattle.clause_store.specs.Closure.{In, Clause, others, refutes, Absorbed, IsSettled}
use Rattle.lit_trail.specs.declared.assignment.Entry.{Entry}
use Rattle.lit_trail.specs.Entries.{View, spot_in, level_in, back}
use Rattle.lit_trail.specs.Sound.{holds}
use Rattle.clause_learn.specs.LearntClause.{level_or, highest, others_of, IsLearnt, IsAsserting}
use Rattle.search_laws.specs.Lengths.{Length}
use Rattle.trail_walk.specs.Ways.{IsOnWay}

-- at each level below this one nothing is left to derive from the clause
abbrev pub IsSettledBelow : ℕ → List Entry → Clause → Type 0
IsSettledBelow level entries clause = (lower : ℕ) → lower < level → IsSettled (holds (back lower entries)) clause

-- a trail that is on its way along a walk stays there, where level 1 with the end is left
abbrev pub KeepsWay : View → View → Type 0
KeepsWay old new = (length : Length) → 0 < new.level → IsOnWay length old → IsOnWay length new

-- the second-highest level of literals: the highest one where two have it, 0 where there are fewer than two
abbrev pub second_highest : List Entry → List Lit → ℕ
second_highest entries [] = 0
second_highest entries (lit ∷ more) = max (min (level_or (level_in entries lit.var)) (highest entries more)) (second_highest entries more)

-- the clause that was learnt from a false one was added at the end, not absorbed by those before it, and the trail went back to the highest level
-- of its literals but the first, where these are false and the first has no value
pub record Learns (before : List Held) (old : View) (conflict : ClauseId) (after : List Held) (new : View) : Type 0 where
  pub lits : Clause
  pub learnt : IsLearnt (clauses_in before) old (clause_at (clauses_in before) conflict.place) lits
  pub added : after ≡ before ++ record { kind = kinds.Learnt; lits = lits } ∷ []
  pub free : Absorbed (clauses_in before) lits → ⊥
  pub level : new.level ≡ highest old.entries (others_of lits)
  pub lower : new.level < old.level
  pub entries : new.entries ≡ back new.level old.entries
  pub asserting : IsAsserting new.entries lits

-- each literal is false, or all but one without a value
abbrev pub IsFalseOrUnit : List Entry → Clause → Type 0
IsFalseOrUnit entries clause =
    IsTrue (refutes (holds entries) clause) ⊎ ((lit : Lit) × In lit clause × (spot_in entries lit.var ≡ None) × IsTrue (refutes (holds entries) (others lit clause)))
