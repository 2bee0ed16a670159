-- Laws of rows and instances.
use Rattle.std.specs.Prelude.{◌≡◌, ◌⊎◌, ℕ, ◌<◌, List}
use Rattle.tel_base.specs.declared.places.Place.{Place}
use Rattle.tel_term.specs.declared.terms.Term.{Term}
use Rattle.tel_term.specs.declared.terms.Value.{Value}
use Rattle.tel_rule.specs.declared.statements.Statement.{Statement}
use Rattle.tel_rule.specs.declared.statements.Program.{Program}
use Rattle.fact_rows.specs.Limit.{HaveMoreRows}
use Rattle.program_theory.specs.Instances.{AreInstances, instance_count}
use Rattle.range_faults.specs.Ranges.{NoneLeavesRange, IsFirstLeaving}

-- more rows than a limit are more instances, since each row of a table is the instance of a fact
abbrev pub RowsAreInstances : Type 0
RowsAreInstances =
    (program : Program) (most : ℕ) (live : List (List (List Value))) → HaveMoreRows program.statements most → AreInstances program live → most < instance_count live

-- there are more rows than a limit, or there are not
abbrev pub RowsAreFewOrMore : Type 0
RowsAreFewOrMore = (statements : List Statement) (most : ℕ) → HaveMoreRows statements most ⊎ (HaveMoreRows statements most → ⊥)

-- no statement leaves the range, or there is a first one that does, and then that is the only one
abbrev pub SomeOrNoneLeaves : Type 0
SomeOrNoneLeaves =
    (program : Program)
    → NoneLeavesRange program.statements program.symbols ⊎ ((place : Place) × IsFirstLeaving program.statements program.symbols place)

abbrev pub FirstLeavingIsOne : Type 0
FirstLeavingIsOne =
    (statements : List Statement) (symbols : List Term) (a b : Place) → IsFirstLeaving statements symbols a → IsFirstLeaving statements symbols b → a ≡ b
