-- Table atoms whose arguments are variables or expressions, and the plan for them: an expression gets a place of its own, behind those
-- of the variables, to which the column goes and with which its value is compared.
use Rattle.std.specs.Prelude.{◌≡◌, ◌↔◌, ℕ, suc, ◌<◌, ◌+◌, List, [], ◌∷◌, ◌++◌, map, length, Some}
use Rattle.tel_term.specs.declared.terms.Value.{Value}
use Rattle.tel_base.specs.Members.{In}
use Rattle.join_plans.specs.Join.{at, Expression}

-- an argument of a table atom: a variable as a whole, or another expression
pub data Arg : Type 0 where
  Whole : ℕ → Arg
  Other : Expression → Arg

-- a table atom, with the rows of its table
pub record TableAtom : Type 0 where
  pub args : List Arg
  pub rows : List (List Value)

-- ---- the definition: the arguments have values, and these are a row

abbrev pub ArgsAre : List Value → List Arg → List Value → Type 0
ArgsAre b [] [] = Unit {0}
ArgsAre b (Whole v ∷ args) (x ∷ row) = (at b v ≡ x) × ArgsAre b args row
ArgsAre b (Other e ∷ args) (x ∷ row) = (e.value b ≡ Some x) × ArgsAre b args row
ArgsAre b args row = ⊥

pub record IsRow (b : List Value) (atom : TableAtom) : Type 0 where
  pub row : List Value
  pub has : In row atom.rows
  pub is : ArgsAre b atom.args row

abbrev pub AreRows : List Value → List TableAtom → Type 0
AreRows b [] = Unit {0}
AreRows b (atom ∷ more) = IsRow b atom × AreRows b more

-- ---- the plan, with places for expressions from k on

abbrev pub places : ℕ → List Arg → List ℕ
places k [] = []
places k (Whole v ∷ args) = v ∷ places k args
places k (Other e ∷ args) = k ∷ places (suc k) args

abbrev pub after_args : ℕ → List Arg → ℕ
after_args k [] = k
after_args k (Whole v ∷ args) = after_args k args
after_args k (Other e ∷ args) = after_args (suc k) args

-- each place of an expression has its value
abbrev pub ChecksHold : List Value → ℕ → List Arg → Type 0
ChecksHold b k [] = Unit {0}
ChecksHold b k (Whole v ∷ args) = ChecksHold b k args
ChecksHold b k (Other e ∷ args) = (e.value b ≡ Some (at b k)) × ChecksHold b (suc k) args

abbrev pub PlanHolds : List Value → ℕ → List TableAtom → Type 0
PlanHolds b k [] = Unit {0}
PlanHolds b k (atom ∷ more) = In (map (at b) (places k atom.args)) atom.rows × ChecksHold b k atom.args × PlanHolds b (after_args k atom.args) more

abbrev pub after_atoms : ℕ → List TableAtom → ℕ
after_atoms k [] = k
after_atoms k (atom ∷ more) = after_atoms (after_args k atom.args) more

-- ---- variables are below n

abbrev pub ArgsBelow : ℕ → List Arg → Type 0
ArgsBelow n [] = Unit {0}
ArgsBelow n (Whole v ∷ args) = (v < n) × ArgsBelow n args
ArgsBelow n (Other e ∷ args) = ((a b : List Value) → ((v : ℕ) → v < n → at a v ≡ at b v) → e.value a ≡ e.value b) × ArgsBelow n args

abbrev pub AtomsBelow : ℕ → List TableAtom → Type 0
AtomsBelow n [] = Unit {0}
AtomsBelow n (atom ∷ more) = ArgsBelow n atom.args × AtomsBelow n more

-- b' is b with the places behind its variables filled so that the plan holds
pub record Filled (b : List Value) (atoms : List TableAtom) : Type 0 where
  pub more : List Value
  pub long : length b + length more ≡ after_atoms (length b) atoms
  pub holds : PlanHolds (b ++ more) (length b) atoms

-- the table atoms of a binding are rows exactly where it can be filled, and then in one way
abbrev pub PlansAreAtoms : Type 0
PlansAreAtoms =
    (b : List Value) (atoms : List TableAtom) → AtomsBelow (length b) atoms → AreRows b atoms ↔ Filled b atoms

abbrev pub FilledOnce : Type 0
FilledOnce = (b : List Value) (atoms : List TableAtom) → AtomsBelow (length b) atoms → (c d : Filled b atoms) → c.more ≡ d.more
