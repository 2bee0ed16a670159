-- A trail that leaves nothing to derive has no gap at the variable of a shape or of a body.
use Rattle.std.specs.Prelude.{◌≡◌, ℕ, ◌-◌, ◌<◌, Bool, ◌||◌, List, IsTrue, ◌⊎◌}
use Rattle.std.specs.List.{flat_map}
use Rattle.tel_base.specs.declared.literals.Lit.{Lit}
use Rattle.tel_base.specs.Literals.{lit_of}
use Rattle.tel_base.specs.Members.{In}
use Rattle.normal_program.specs.declared.shapes.Shape.{Shape}
use Rattle.normal_program.specs.declared.shapes.NodeRule.{NodeRule}
use Rattle.normal_program.specs.declared.modules.BodyDef.{BodyDef}
use Rattle.normal_program.specs.declared.modules.StepModule.{StepModule}
use Rattle.normal_program.specs.Shapes.{shape_bodies}
use Rattle.normal_program.specs.StableSets.{Set}
use Rattle.normal_program.specs.ModuleClauses.{no_lit, listed, shape_clauses, clauses_of}
use Rattle.clause_store.specs.Closure.{Clause, Lits, IsClosedLevel}
use Rattle.completion.specs.Completions.{AreSettled, IsHead}
use Rattle.search_laws.specs.Lengths.{length_of}
use Rattle.lit_trail.specs.declared.assignment.Entry.{Entry}
use Rattle.lit_trail.specs.Sound.{holds}
use Rattle.search_laws.specs.Founded.{AreModules, IsTotalTrail}

-- X has a variable or its negation
abbrev pub has_value : Lits → ℕ → Bool
has_value X v = X (lit_of v) || X (no_lit v)

-- where the clauses of a shape are held and all other variables of it have values, its variable has one, if it isn't among its own literals; a body
-- has the clauses of the shape `All`
abbrev pub ShapeHasValue : Type 0
ShapeHasValue =
    (clauses : List Clause) (X : Lits) (x : ℕ) (shape : Shape) → IsClosedLevel clauses X → ((clause : Clause) → In clause (flat_map listed (shape_clauses x shape)) → In clause clauses)
    → ((clause : Clause) (lit : Lit) → In clause (shape_clauses x shape) → In lit clause → (lit.var ≡ x) ⊎ IsTrue (has_value X lit.var))
    → ((lits : List Lit) (lit : Lit) → In lits (shape_bodies shape) → In lit lits → lit.var ≡ x → ⊥) → IsTrue (has_value X x)

-- ---- of a length

-- a variable of an atom, an end, or an open variable of the last state
abbrev pub IsBase : (ℕ → StepModule) → ℕ → ℕ → Type 0
IsBase steps n var = In var (length_of steps n).visible ⊎ (((t : ℕ) × (t < n) × ((steps t).end ≡ var)) ⊎ In var (steps (n - 1)).open_vars)

-- the variable of a node of a lower rank
pub record IsLower (steps : ℕ → StepModule) (n : ℕ) (rank : ℕ → ℕ) (node : NodeRule) (var : ℕ) : Type 0 where
  pub state : ℕ
  pub within : state < n
  pub other : NodeRule
  pub inside : In other (steps state).nodes
  pub is : other.var ≡ var
  pub lower : rank var < rank node.var

-- the shape of a node speaks of nodes of lower ranks alone, and not of itself but at another state
pub record AreRanked (steps : ℕ → StepModule) (n : ℕ) (rank : ℕ → ℕ) : Type 0 where
  pub shapes : (t : ℕ) → t < n → (node : NodeRule) (clause : Clause) (lit : Lit) → In node (steps t).nodes → In clause (shape_clauses node.var node.shape) → In lit clause → (lit.var ≡ node.var) ⊎ (IsBase steps n lit.var ⊎ IsLower steps n rank node lit.var)
  pub apart : (t : ℕ) → t < n → (node : NodeRule) (lits : List Lit) (lit : Lit) → In node (steps t).nodes → In lits (shape_bodies node.shape) → In lit lits → lit.var ≡ node.var → ⊥

-- a level at which the clauses of the modules before n are held, nothing is left to derive, and these variables have values
pub record IsBaseTotal (steps : ℕ → StepModule) (n : ℕ) (clauses : List Clause) (X : Lits) : Type 0 where
  pub level : IsClosedLevel clauses X
  pub held : (t : ℕ) → t < n → (clause : Clause) → In clause (clauses_of (steps t)) → In clause clauses
  pub base : (var : ℕ) → IsBase steps n var → IsTrue (has_value X var)

-- the same, where the end of the length holds and the visible variables have values
pub record IsVisibleTotal (steps : ℕ → StepModule) (n : ℕ) (clauses : List Clause) (X : Lits) : Type 0 where
  pub level : IsClosedLevel clauses X
  pub held : (t : ℕ) → t < n → (clause : Clause) → In clause (clauses_of (steps t)) → In clause clauses
  pub ended : IsTrue (X (lit_of (steps (n - 1)).end))
  pub visible : (var : ℕ) → In var (length_of steps n).visible → IsTrue (has_value X var)

-- so have the ends before and the open variables
abbrev pub VisibleIsBase : Type 0
VisibleIsBase = (steps : ℕ → StepModule) (n : ℕ) (clauses : List Clause) (X : Lits) → 0 < n → AreSettled steps n → IsVisibleTotal steps n clauses X → IsBaseTotal steps n clauses X

-- then all heads of the length have values, and the variables of all bodies
abbrev pub NoGaps : Type 0
NoGaps =
    (steps : ℕ → StepModule) (n : ℕ) (plain : Set) (rank : ℕ → ℕ) (clauses : List Clause) (X : Lits) → AreModules steps n plain → AreRanked steps n rank → IsBaseTotal steps n clauses X
    → ((t var : ℕ) → t < n → IsHead (steps t) var → IsTrue (has_value X var)) × ((t : ℕ) (def : BodyDef) → t < n → In def (steps t).bodies → IsTrue (has_value X def.var))

-- so the trail is total where the end holds
abbrev pub GapsAreTotal : Type 0
GapsAreTotal =
    (steps : ℕ → StepModule) (n : ℕ) (plain : Set) (rank : ℕ → ℕ) (clauses : List Clause) (entries : List Entry) → AreModules steps n plain → AreRanked steps n rank → IsBaseTotal steps n clauses (holds entries) → IsTrue (holds entries (lit_of (steps (n - 1)).end))
    → IsTotalTrail steps n entries
