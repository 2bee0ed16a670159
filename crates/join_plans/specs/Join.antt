-- A join over rows of values: a plan of steps, each of which gives places of a binding their values or compares them. A depth-first search by such a plan is
-- the usual way to find the instances of a rule.
use Rattle.std.specs.Prelude.{◌≡◌, ◌↔◌, ℕ, ◌<◌, Bool, true, false, List, [], ◌∷◌, map, length, Option, Some, None, slice_index_or, slice_set, IsTrue, IsFalse, if◌then◌else◌}
use Rattle.std.specs.List.{flat_map}
use Rattle.tel_term.specs.declared.terms.Value.{Value}
pub use Rattle.tel_term.specs.Arithmetic.{variable_value as at}
use Rattle.tel_base.specs.Members.{In}
use Rattle.tel_rule.specs.Atoms.{value_eq}
use Rattle.join_plans.specs.declared.columns.Column.{Column}
use Rattle.join_plans.specs.declared.columns.Column.TheVariants.{New, Old}

-- the place of a column
abbrev pub place : Column → ℕ
place (New v) = v
place (Old v) = v

-- an expression, seen as the places that it reads and its value
pub record Expression : Type 0 where
  pub reads : List ℕ
  pub value : List Value → Option Value

-- a comparison, seen as the places that it reads and whether it holds
pub record Comparison : Type 0 where
  pub reads : List ℕ
  pub holds : List Value → Bool

-- a step of a plan
pub data Step : Type 0 where
  -- the places of the columns are a row
  Row : List Column → List (List Value) → Step
  -- the place of the column has the value of an expression
  Equal : Column → Expression → Step
  -- a comparison holds
  Compare : Comparison → Step

-- ---- what a plan means: a property of whole bindings

-- the step holds under a binding
abbrev pub Holds : Step → List Value → Type 0
Holds (Row columns rows) b = In (map (λ c. at b (place c)) columns) rows
Holds (Equal column e) b = e.value b ≡ Some (at b (place column))
Holds (Compare c) b = IsTrue (c.holds b)

abbrev pub HoldAll : List Step → List Value → Type 0
HoldAll [] b = Unit {0}
HoldAll (step ∷ more) b = Holds step b × HoldAll more b

-- ---- what a search by the plan finds

-- a value put to a column, unless there is another one
abbrev pub put : Column → Value → List Value → Option (List Value)
put (New v) x env = Some (slice_set env v x)
put (Old v) x env = if value_eq (at env v) x then Some env else None

abbrev pub then_found : {X Y : Type 0} → (X → List Y) → Option X → List Y
then_found f None = []
then_found f (Some x) = f x

abbrev pub and_then : {X Y : Type 0} → (X → Option Y) → Option X → Option Y
and_then f None = None
and_then f (Some x) = f x

-- the values of a row put to their columns
abbrev pub put_row : List Column → List Value → List Value → Option (List Value)
put_row [] [] env = Some env
put_row (c ∷ cs) (x ∷ xs) env = and_then (put_row cs xs) (put c x env)
put_row cs xs env = None

-- what is found from an environment on, which has a value at every place, of which some are still to come
abbrev pub answers : List Step → List Value → List (List Value)
answers [] env = env ∷ []
answers (Row columns rows ∷ more) env = flat_map (λ row. then_found (answers more) (put_row columns row env)) rows
answers (Equal column e ∷ more) env = then_found (λ x. then_found (answers more) (put column x env)) (e.value env)
answers (Compare c ∷ more) env = if c.holds env then answers more env else []

-- ---- plans that can be run

-- whether a place has a value, by these marks
abbrev pub is_known : List Bool → ℕ → Bool
is_known known v = slice_index_or known v false

-- a column is right where it is new and its place has no value, or isn't and has one
abbrev pub IsRight : List Bool → Column → Type 0
IsRight known (New v) = (v < length known) × IsFalse (is_known known v)
IsRight known (Old v) = IsTrue (is_known known v)

-- the marks behind a column
abbrev pub learn : List Bool → Column → List Bool
learn known (New v) = slice_set known v true
learn known (Old v) = known

abbrev pub AreRight : List Bool → List Column → Type 0
AreRight known [] = Unit {0}
AreRight known (c ∷ cs) = IsRight known c × AreRight (learn known c) cs

abbrev pub learn_all : List Bool → List Column → List Bool
learn_all known [] = known
learn_all known (c ∷ cs) = learn_all (learn known c) cs

-- the value of an expression depends on the places that it reads alone, and they have values
pub record IsReady (known : List Bool) (e : Expression) : Type 0 where
  pub there : (v : ℕ) → In v e.reads → IsTrue (is_known known v)
  pub reads : (a b : List Value) → ((v : ℕ) → In v e.reads → at a v ≡ at b v) → e.value a ≡ e.value b

-- what a comparison says depends on the places that it reads alone, and they have values
pub record IsClear (known : List Bool) (c : Comparison) : Type 0 where
  pub there : (v : ℕ) → In v c.reads → IsTrue (is_known known v)
  pub reads : (a b : List Value) → ((v : ℕ) → In v c.reads → at a v ≡ at b v) → c.holds a ≡ c.holds b

-- a plan goes on from these marks: what it reads has values, no place gets two, and in the end each place has one
abbrev pub IsPlan : List Bool → List Step → Type 0
IsPlan known [] = (v : ℕ) → v < length known → IsTrue (is_known known v)
IsPlan known (Row columns rows ∷ more) = AreRight known columns × IsPlan (learn_all known columns) more
IsPlan known (Equal column e ∷ more) = IsReady known e × IsRight known column × IsPlan (learn known column) more
IsPlan known (Compare c ∷ more) = IsClear known c × IsPlan known more

-- b has the values of env at the known places
pub record Fits (known : List Bool) (env b : List Value) : Type 0 where
  pub marks : length known ≡ length env
  pub places : length b ≡ length env
  pub same : (v : ℕ) → IsTrue (is_known known v) → at b v ≡ at env v

-- the join finds exactly the bindings that go on with env and under which all steps hold
abbrev pub JoinIsExact : Type 0
JoinIsExact =
    (steps : List Step) (known : List Bool) (env : List Value) → IsPlan known steps → length known ≡ length env → (b : List Value) → In b (answers steps env) ↔ (Fits known env b × HoldAll steps b)
