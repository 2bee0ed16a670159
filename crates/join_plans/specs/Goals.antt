-- Goals: what the steps of a plan ask for, without the order in which places get their values.
use Rattle.std.specs.Prelude.{◌≡◌, ◌↔◌, ℕ, suc, ◌<◌, Bool, false, List, [], ◌∷◌, ◌++◌, map, length, replicate, Some, IsTrue}
use Rattle.std.specs.List.{list_all}
use Rattle.tel_term.specs.declared.terms.Value.{Value}
use Rattle.tel_base.specs.Members.{In}
use Rattle.join_plans.specs.Join.{at, place, Expression, Comparison, Step, Row, Equal, Compare, answers, IsPlan}
use Rattle.join_plans.specs.Atoms.{Arg, Whole, Other, TableAtom, places, after_args, PlanHolds}

pub data Goal : Type 0 where
  -- the values at these places are a row
  IsRow : List ℕ → List (List Value) → Goal
  -- the place has the value of an expression
  HasValue : ℕ → Expression → Goal
  -- a comparison holds
  Compares : Comparison → Goal

-- what a step asks for
abbrev pub goal_of : Step → Goal
goal_of (Row columns rows) = IsRow (map place columns) rows
goal_of (Equal column e) = HasValue (place column) e
goal_of (Compare c) = Compares c

abbrev pub IsMet : List Value → Goal → Type 0
IsMet b (IsRow places rows) = In (map (at b) places) rows
IsMet b (HasValue place e) = e.value b ≡ Some (at b place)
IsMet b (Compares c) = IsTrue (c.holds b)

abbrev pub AreMet : List Value → List Goal → Type 0
AreMet b goals = (goal : Goal) → In goal goals → IsMet b goal

-- a plan that begins with no place known finds exactly what meets its goals, in whatever order they stand
abbrev pub PlansMeetGoals : Type 0
PlansMeetGoals =
    (steps : List Step) (env b : List Value) → IsPlan (replicate (length env) false) steps → In b (answers steps env) ↔ ((length b ≡ length env) × AreMet b (map goal_of steps))

-- ---- goals of table atoms, whose expressions have places from k on

abbrev pub arg_goals : ℕ → List Arg → List Goal
arg_goals k [] = []
arg_goals k (Whole v ∷ args) = arg_goals k args
arg_goals k (Other e ∷ args) = HasValue k e ∷ arg_goals (suc k) args

abbrev pub atom_goals : ℕ → List TableAtom → List Goal
atom_goals k [] = []
atom_goals k (atom ∷ more) = IsRow (places k atom.args) atom.rows ∷ (arg_goals k atom.args ++ atom_goals (after_args k atom.args) more)

-- these goals are the plan of the atoms
abbrev pub AtomGoalsAreThePlan : Type 0
AtomGoalsAreThePlan = (b : List Value) (k : ℕ) (atoms : List TableAtom) → AreMet b (atom_goals k atoms) ↔ PlanHolds b k atoms

-- ---- values that pass a test

-- what the goal gives passes the test, where what it reads does
abbrev pub Gives : (Value → Bool) → Goal → Type 0
Gives test (IsRow places rows) = (row : List Value) → In row rows → IsTrue (list_all test row)
Gives test (HasValue place e) = (b : List Value) (x : Value) → ((v : ℕ) → In v e.reads → IsTrue (test (at b v))) → e.value b ≡ Some x → IsTrue (test x)
Gives test (Compares c) = Unit {0}

-- each value that a plan finds passes a test, where the goals of its steps give such values alone
abbrev pub FoundValuesPass : Type 0
FoundValuesPass =
    (test : Value → Bool) (steps : List Step) (env b : List Value) → IsPlan (replicate (length env) false) steps → ((goal : Goal) → In goal (map goal_of steps) → Gives test goal)
    → In b (answers steps env) → (v : ℕ) → v < length b → IsTrue (test (at b v))
