-- The unit rule, its closure, and the clauses that it absorbs (Atserias, Fichte and Thurley, "Clause-learning algorithms with many
-- restarts and bounded-width resolution", 2011).
use Rattle.std.specs.Prelude.{◌≡◌, Bool, false, not, ◌&&◌, ◌||◌, List, map, IsTrue, ◌==◌, ◌⊎◌, if◌then◌else◌}
use Rattle.std.specs.List.{list_all, list_any, filter}
use Rattle.tel_base.specs.declared.literals.Lit.{Lit}
use Rattle.tel_base.specs.Literals.{negate}
pub use Rattle.tel_base.specs.Literals.{negations}
pub use Rattle.tel_base.specs.Members.{In}

abbrev pub Clause : Type 0
Clause = List Lit

-- a set of literals
abbrev pub Lits : Type 0
Lits = Lit → Bool

abbrev pub same_lit : Lit → Lit → Bool
same_lit a b = (a.var == b.var) && (if a.positive then b.positive else not b.positive)

-- the other literals of a clause
abbrev pub others : Lit → Clause → Clause
others lit clause = filter (λ (k : Lit). not (same_lit k lit)) clause

-- whether each literal of the list is negated in X
abbrev pub refutes : Lits → Clause → Bool
refutes X clause = list_all (λ (lit : Lit). X (negate lit)) clause

-- whether X keeps the unit rule on a clause: it has each literal whose others are all negated in it
abbrev pub keeps_unit : Lits → Clause → Bool
keeps_unit X clause = list_all (λ (lit : Lit). X lit || not (refutes X (others lit clause))) clause

abbrev pub keeps_units : List Clause → Lits → Bool
keeps_units clauses X = list_all (keeps_unit X) clauses

-- the literal is in the closure of these literals under the unit rule on the clauses, which is the least set that holds them and keeps
-- the rule: in each such set
abbrev pub Up : List Clause → List Lit → Lit → Type 0
Up clauses start lit = (X : Lits) → IsTrue (list_all X start) → IsTrue (keeps_units clauses X) → IsTrue (X lit)

-- the closure conflicts: it has a literal with its negation, or negates all literals of a clause
abbrev pub Conflict : List Clause → List Lit → Type 0
Conflict clauses start =
    ((lit : Lit) × Up clauses start lit × Up clauses start (negate lit))
    ⊎ ((clause : Clause) × In clause clauses × ((lit : Lit) → In lit clause → Up clauses start (negate lit)))

-- the clauses absorb a clause: from the negations of its other literals the unit rule derives each literal of it, or conflicts
abbrev pub Absorbed : List Clause → Clause → Type 0
Absorbed clauses clause =
    (lit : Lit) → In lit clause → Up clauses (negations (others lit clause)) lit ⊎ Conflict clauses (negations (others lit clause))

-- two different literals of the clause, of which X has neither's negation
pub record TwoOpen (X : Lits) (clause : Clause) : Type 0 where
  pub first : Lit
  pub second : Lit
  pub apart : IsTrue (not (same_lit first second))
  pub has_first : In first clause
  pub has_second : In second clause
  pub first_open : X (negate first) ≡ false
  pub second_open : X (negate second) ≡ false

-- nothing is left to derive from the clause: X has a literal of it, or two are open
abbrev pub IsSettled : Lits → Clause → Type 0
IsSettled X clause = IsTrue (list_any X clause) ⊎ TwoOpen X clause

-- no literal with its negation, and each clause is settled
pub record IsClosedLevel (clauses : List Clause) (X : Lits) : Type 0 where
  pub one_value : (lit : Lit) → IsTrue (X lit) → IsTrue (X (negate lit)) → ⊥
  pub settled : (clause : Clause) → In clause clauses → IsSettled X clause

-- X is the closure of these literals, and it doesn't conflict
pub record IsClosure (clauses : List Clause) (start : List Lit) (X : Lits) : Type 0 where
  pub derived : (lit : Lit) → IsTrue (X lit) → Up clauses start lit
  pub whole : (lit : Lit) → Up clauses start lit → IsTrue (X lit)
  pub calm : Conflict clauses start → ⊥
