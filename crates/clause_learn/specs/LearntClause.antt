-- What the literals of a learnt clause are under the trail.
use Rattle.std.specs.Prelude.{◌≡◌, ℕ, max, Bool, false, ◌&&◌, List, [], ◌∷◌, Option, Some, None, nat_lt, IsTrue, ◌↔◌}
use Rattle.std.specs.List.{list_all}
use Rattle.tel_base.specs.declared.literals.Lit.{Lit}
use Rattle.clause_store.specs.Closure.{In, Clause, refutes, negations, Conflict}
use Rattle.lit_trail.specs.declared.assignment.Entry.{Entry}
use Rattle.lit_trail.specs.Entries.{View, spot_in, level_in}
use Rattle.lit_trail.specs.Sound.{holds}
use Rattle.clause_store.specs.Held.{is_clause}
use Rattle.clause_learn.specs.FirstUip.{learnt_set}

-- above level 0 and below this one
abbrev pub is_between : ℕ → Option ℕ → Bool
is_between level None = false
is_between level (Some other) = nat_lt 0 other && nat_lt other level

abbrev pub is_lower : ℕ → List Entry → Lit → Bool
is_lower level entries lit = is_between level (level_in entries lit.var)

-- the first literal is of the level, the others are of lower levels above 0
abbrev pub LeadsAt : ℕ → List Entry → List Lit → Type 0
LeadsAt level entries [] = ⊥
LeadsAt level entries (first ∷ others) = (level_in entries first.var ≡ Some level) × IsTrue (list_all (is_lower level entries) others)

abbrev pub level_or : Option ℕ → ℕ
level_or None = 0
level_or (Some level) = level

-- the highest level of these literals, 0 where there are none
abbrev pub highest : List Entry → List Lit → ℕ
highest entries [] = 0
highest entries (lit ∷ more) = max (level_or (level_in entries lit.var)) (highest entries more)

abbrev pub others_of : List Lit → List Lit
others_of [] = []
others_of (first ∷ others) = others

-- the first literal has no value, and the others are false
abbrev pub IsAsserting : List Entry → List Lit → Type 0
IsAsserting entries [] = ⊥
IsAsserting entries (first ∷ others) = (spot_in entries first.var ≡ None) × IsTrue (refutes (holds entries) others)

-- the literals are those of the first-UIP clause above level 0, of different variables, the one of the trail's level first; they are
-- false, and their negations conflict under the unit rule
pub record IsLearnt (clauses : List Clause) (trail : View) (clause : Clause) (lits : List Lit) : Type 0 where
  pub exact : (lit : Lit) → In lit lits ↔ IsTrue (learnt_set clauses trail clause lit)
  pub distinct : IsTrue (is_clause trail.vars lits)
  pub first : LeadsAt trail.level trail.entries lits
  pub refuted : IsTrue (refutes (holds trail.entries) lits)
  pub follows : Conflict clauses (negations lits)
