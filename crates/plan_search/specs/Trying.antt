-- The rows that a step tries: all of its table, or those at some places, which an index gave.
use Rattle.std.specs.Prelude.{◌≡◌, ℕ, false, List, ◌∷◌, map, drop, take, slice_get, Option, Some, None}
use Rattle.std.specs.List.{flat_map}
use Rattle.tel_term.specs.declared.terms.Value.{Value}
use Rattle.join_plans.specs.declared.columns.Column.{Column}
use Rattle.join_plans.specs.declared.columns.Column.TheVariants.{Old}
use Rattle.join_plans.specs.Join.{Step, put_row, and_then, then_found, answers}
use Rattle.plan_search.specs.Putting.{any_gives}

-- a row, or none where a place is past the end
abbrev pub Try : Type 0
Try = Option (List Value)

abbrev pub tries : List (List Value) → Option (List ℕ) → List Try
tries rows None = map (λ (row : List Value). Some row) rows
tries rows (Some places) = map (slice_get rows) places

-- what the rest of a plan finds behind a row
abbrev pub behind : List Column → List Step → List Value → Try → List (List Value)
behind columns more env try = then_found (answers more) (and_then (λ (row : List Value). put_row columns row env) try)

-- what it finds behind these
abbrev pub all_behind : List Column → List Step → List Value → List Try → List (List Value)
all_behind columns more env list = flat_map (behind columns more env) list

-- an old column whose place has its value before the row
pub record IsIndex (columns : List Column) (column place : ℕ) : Type 0 where
  pub is : (back : List Column) × (drop column columns ≡ Old place ∷ back)
  pub before : any_gives (take column columns) place ≡ false

-- the rows at these places find all that all rows find
abbrev pub AreEnough : List Column → List (List Value) → List Value → Option (List ℕ) → Type 0
AreEnough columns rows env listed = (more : List Step) → all_behind columns more env (tries rows listed) ≡ all_behind columns more env (tries rows None)
