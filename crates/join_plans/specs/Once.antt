-- Each binding once, and rows from an index.
use Rattle.std.specs.Prelude.{◌≡◌, Bool, false, List, [], ◌∷◌, length}
use Rattle.std.specs.List.{flat_map, filter}
use Rattle.tel_term.specs.declared.terms.Value.{Value}
use Rattle.tel_base.specs.Members.{In}
use Rattle.join_plans.specs.Join.{Step, Row, Equal, Compare, answers, IsPlan}

-- each element stands once
abbrev pub IsOnce : {X : Type 0} → List X → Type 0
IsOnce [] = Unit {0}
IsOnce (x ∷ xs) = (In x xs → ⊥) × IsOnce xs

-- the rows of each table are distinct
abbrev pub RowsOnce : List Step → Type 0
RowsOnce [] = Unit {0}
RowsOnce (Row columns rows ∷ more) = IsOnce rows × RowsOnce more
RowsOnce (Equal column e ∷ more) = RowsOnce more
RowsOnce (Compare c ∷ more) = RowsOnce more

-- each binding is found once
abbrev pub JoinFindsOnce : Type 0
JoinFindsOnce =
    (steps : List Step) (known : List Bool) (env : List Value) → IsPlan known steps → length known ≡ length env → RowsOnce steps → IsOnce (answers steps env)

-- rows that give nothing may be left out
abbrev pub IndexIsExact : Type 0
IndexIsExact =
    (f : List Value → List (List Value)) (test : List Value → Bool) (rows : List (List Value)) → ((row : List Value) → test row ≡ false → f row ≡ []) → flat_map f (filter test rows) ≡ flat_map f rows
