-- Tables that are filled with what facts state, one row after another.
use Rattle.std.specs.Prelude.{◌≡◌, ℕ, ◌+◌, ◌<◌, Bool, ◌&&◌, List, [], ◌∷◌, ◌++◌, map, length, Option, Some, None, if◌then◌else◌}
use Rattle.std.specs.List.{flat_map}
use Rattle.tel_base.specs.Members.{In}
use Rattle.tel_term.specs.declared.terms.Value.{Value}
use Rattle.tel_rule.specs.Atoms.{values_eq}
use Rattle.tel_rule.specs.declared.statements.Arg.{Arg}
use Rattle.tel_rule.specs.declared.statements.Fact.{Fact}
use Rattle.tel_rule.specs.declared.statements.Signature.{Signature}
use Rattle.tel_rule.specs.declared.statements.Kind.{Kind}
use Rattle.tel_rule.specs.declared.statements.Kind.TheVariants as kinds
use Rattle.tel_rule.specs.declared.statements.Statement.{Statement}
use Rattle.tel_semantics.specs.Tables.{same_predicate, tuple_predicate, tuple_rows}
use Rattle.fact_table.specs.Rows.{rows_of}
use Rattle.rule_goals.specs.Said.{Numbers}
use Rattle.fact_rows.specs.declared.filling.Filling.{Filling}
use Rattle.fact_rows.specs.Forms.{AreApart}
use Rattle.fact_rows.specs.Once.{each_once}

-- a predicate and a row of it
abbrev pub Stated : Type 0
Stated = Signature × List Value

abbrev pub same_stated : Stated → Stated → Bool
same_stated a b = same_predicate a.0 b.0 && values_eq a.1 b.1

-- those of one predicate
abbrev pub rows_for : Signature → List Stated → List (List Value)
rows_for predicate stated = flat_map (λ (one : Stated). if same_predicate predicate one.0 then one.1 ∷ [] else []) stated

-- ---- what is stated of tables, in the order of the facts, each as often as it is stated

abbrev pub rows_stated : Option ℕ → Signature → List (List Value) → List Stated
rows_stated None predicate rows = []
rows_stated (Some table) predicate rows = map (λ (row : List Value). (predicate, row)) rows

abbrev pub tuple_stated : Numbers → Fact → List Arg → List Stated
tuple_stated number fact tuple = rows_stated (number (tuple_predicate fact tuple)) (tuple_predicate fact tuple) (tuple_rows tuple)

abbrev pub fact_stated : Numbers → Fact → List Stated
fact_stated number fact = flat_map (tuple_stated number fact) fact.tuples

abbrev pub kind_stated : Numbers → Kind → List Stated
kind_stated number (kinds.Facts fact) = fact_stated number fact
kind_stated number (kinds.Rule head body) = []
kind_stated number (kinds.Const name value) = []
kind_stated number (kinds.Show shown) = []

abbrev pub all_stated : Numbers → List Statement → List Stated
all_stated number statements = flat_map (λ (statement : Statement). kind_stated number statement.kind) statements

-- ---- tables that hold it

-- a row that a table has was stated of its predicate
pub record WasStated (number : Numbers) (stated : List Stated) (table : ℕ) (row : List Value) : Type 0 where
  pub predicate : Signature
  pub its : number predicate ≡ Some table
  pub there : In (predicate, row) stated

-- the tables hold this, each row once, and so many rows are left of the limit
pub record Holds (number : Numbers) (most : ℕ) (stated : List Stated) (filling : Filling) : Type 0 where
  pub apart : AreApart number
  pub rows : (predicate : Signature) (table : ℕ) → number predicate ≡ Some table → rows_of filling.tables table ≡ each_once values_eq (rows_for predicate stated)
  pub from : (table : ℕ) (row : List Value) → In row (rows_of filling.tables table) → WasStated number stated table row
  pub room : filling.left + length (each_once same_stated stated) ≡ most

-- more than this was added
abbrev pub Adds : Numbers → List Stated → Filling → Filling → Type 0
Adds number more old new = (most : ℕ) (stated : List Stated) → Holds number most stated old → Holds number most (stated ++ more) new

-- this is more than the limit leaves room for
abbrev pub Overflows : Numbers → List Stated → Filling → Type 0
Overflows number more old = (most : ℕ) (stated : List Stated) → Holds number most stated old → most < length (each_once same_stated (stated ++ more))
