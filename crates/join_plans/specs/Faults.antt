-- Which faults a join meets: the first fault of each binding that is reached.
use Rattle.std.specs.Prelude.{◌≡◌, ◌↔◌, ◌⊎◌, ℕ, ◌<◌, Bool, true, false, List, [], ◌∷◌, map, length, Option, Some, None, Ok, Err, IsTrue}
use Rattle.std.specs.List.{list_any}
use Rattle.tel_term.specs.declared.terms.Value.{Value}
use Rattle.join_plans.specs.declared.columns.Column.{Column}
use Rattle.tel_base.specs.Members.{In}
use Rattle.tel_term.specs.declared.arithmetic.EvalFault.TheVariants.{Undefined, Range}
use Rattle.tel_term.specs.Arithmetic.{Valued}
use Rattle.join_plans.specs.Join.{at, place, put, put_row, is_known, IsRight, learn, AreRight, learn_all, Fits}

-- an expression, seen as the places that it reads and its value or first fault
pub record Term : Type 0 where
  pub reads : List ℕ
  pub value : List Value → Valued

-- a step of a plan whose expressions may have faults
pub data Turn : Type 0 where
  -- the places of the columns are a row
  Row : List Column → List (List Value) → Turn
  -- an argument of a table atom has the value that the row has at its place
  Check : Column → Term → Turn
  -- a setting equation
  Set : Column → Term → Turn

-- ---- what it means: of some binding that agrees with a row at each argument that can be compared, the first fault leaves the range

abbrev pub RangeAt : List Turn → (List Value → Bool) → List Value → Type 0
RangeAt [] last b = IsTrue (last b)
RangeAt (Row columns rows ∷ more) last b = In (map (λ c. at b (place c)) columns) rows × RangeAt more last b
RangeAt (Check column e ∷ more) last b = (e.value b ≡ Ok (at b (place column))) × RangeAt more last b
RangeAt (Set column e ∷ more) last b = (e.value b ≡ Err Range) ⊎ ((e.value b ≡ Ok (at b (place column))) × RangeAt more last b)

-- ---- what the search does

abbrev pub found_any : {X : Type 0} → (X → Bool) → Option X → Bool
found_any f None = false
found_any f (Some x) = f x

abbrev pub checked : (Value → Bool) → Valued → Bool
checked f (Ok x) = f x
checked f (Err fault) = false

abbrev pub set : (Value → Bool) → Valued → Bool
set f (Ok x) = f x
set f (Err Range) = true
set f (Err Undefined) = false

abbrev pub ranges : List Turn → (List Value → Bool) → List Value → Bool
ranges [] last env = last env
ranges (Row columns rows ∷ more) last env = list_any (λ row. found_any (ranges more last) (put_row columns row env)) rows
ranges (Check column e ∷ more) last env = checked (λ x. found_any (ranges more last) (put column x env)) (e.value env)
ranges (Set column e ∷ more) last env = set (λ x. found_any (ranges more last) (put column x env)) (e.value env)

-- ---- plans

pub record IsReady (known : List Bool) (e : Term) : Type 0 where
  pub there : (v : ℕ) → In v e.reads → IsTrue (is_known known v)
  pub reads : (a b : List Value) → ((v : ℕ) → In v e.reads → at a v ≡ at b v) → e.value a ≡ e.value b

-- a plan goes on from these marks
abbrev pub CanRun : List Bool → List Turn → Type 0
CanRun known [] = (v : ℕ) → v < length known → IsTrue (is_known known v)
CanRun known (Row columns rows ∷ more) = AreRight known columns × CanRun (learn_all known columns) more
CanRun known (Check column e ∷ more) = IsReady known e × IsRight known column × CanRun (learn known column) more
CanRun known (Set column e ∷ more) = IsReady known e × IsRight known column × CanRun (learn known column) more

-- some binding that goes on with env has it
pub record SomeRange (known : List Bool) (env : List Value) (turns : List Turn) (last : List Value → Bool) : Type 0 where
  pub binding : List Value
  pub fits : Fits known env binding
  pub range : RangeAt turns last binding

abbrev pub RangesAreExact : Type 0
RangesAreExact =
    (turns : List Turn) (last : List Value → Bool) (known : List Bool) (env : List Value) → CanRun known turns → length known ≡ length env → IsTrue (ranges turns last env) ↔ SomeRange known env turns last
