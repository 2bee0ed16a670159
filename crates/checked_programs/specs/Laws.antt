-- What is known of programs as they are read and checked.
use Rattle.std.specs.Prelude.{ℕ, ◌<◌, ◌^◌, List, length, None, IsTrue}
use Rattle.tel_base.specs.Members.{In}
use Rattle.tel_term.specs.Symbols.{IsTable}
use Rattle.tel_rule.specs.declared.statements.Statement.{Statement}
use Rattle.tel_rule.specs.declared.statements.Program.{Program}
use Rattle.tel_semantics.specs.Tables.{is_table}
use Rattle.rule_binding.specs.Binding.{IsFirstUnbound}
use Rattle.rule_constants.specs.Replaced.{IsReplaced}
use Rattle.rule_plans.specs.Within.{StatementsAreWithin}
use Rattle.program_theory.specs.Templates.{HasFewNots, is_guarded_kind}
use Rattle.program_theory.specs.Ready.{IsReadable, IsReady}
use Rattle.rule_check.specs.Causes.{IsSound}
use Rattle.part_syntax.specs.Programs.{IsProgram, total_bytes}

-- ---- terms

abbrev pub ProgramsAreWithin : Type 0
ProgramsAreWithin = (texts : List (List ℕ)) (program : Program) → IsProgram texts program → StatementsAreWithin program.symbols program.statements

abbrev pub ReplacedAreWithin : Type 0
ReplacedAreWithin =
    (program replaced : Program) → IsReplaced program replaced → StatementsAreWithin program.symbols program.statements → StatementsAreWithin replaced.symbols replaced.statements

-- ---- nots

abbrev pub ProgramsHaveFewNots : Type 0
ProgramsHaveFewNots = (texts : List (List ℕ)) (program : Program) → IsProgram texts program → HasFewNots program

abbrev pub ReplacedHaveFewNots : Type 0
ReplacedHaveFewNots = (program replaced : Program) → IsReplaced program replaced → HasFewNots program → HasFewNots replaced

-- ---- no cause

-- the variables of a statement are bound, and its arrows are guarded
pub record IsBoundAndGuarded (program : Program) (statement : Statement) : Type 0 where
  pub bound : IsFirstUnbound (is_table program.statements) statement None
  pub guarded : IsTrue (is_guarded_kind statement.kind)

-- where no cause stands in a program, its statements are so
abbrev pub SoundProgramsAreBound : Type 0
SoundProgramsAreBound = (program : Program) → IsSound program → (statement : Statement) → In statement program.statements → IsBoundAndGuarded program statement

-- and none does where its constants are replaced
abbrev pub ReplacedAreSound : Type 0
ReplacedAreSound = (program replaced : Program) → IsReplaced program replaced → IsSound program → IsSound replaced

-- ---- symbols and statements

-- the symbols of a program are a table: it has at most as many as its texts have bytes
abbrev pub ProgramsHaveTables : Type 0
ProgramsHaveTables = (texts : List (List ℕ)) (program : Program) → IsProgram texts program → total_bytes texts < 2 ^ 32 → IsTable program.symbols

abbrev pub ReplacedHaveTables : Type 0
ReplacedHaveTables = (program replaced : Program) → IsReplaced program replaced → IsTable program.symbols → IsTable replaced.symbols

-- it has at most as many statements, too
abbrev pub ProgramsHaveFewStatements : Type 0
ProgramsHaveFewStatements = (texts : List (List ℕ)) (program : Program) → IsProgram texts program → total_bytes texts < 2 ^ 32 → length program.statements < 2 ^ 32

abbrev pub ReplacedHaveFewStatements : Type 0
ReplacedHaveFewStatements = (program replaced : Program) → IsReplaced program replaced → length program.statements < 2 ^ 32 → length replaced.statements < 2 ^ 32

-- ---- what is known in all

-- the program that texts of fewer than 2^32 bytes are is such as a check asks for
abbrev pub ProgramsAreReadable : Type 0
ProgramsAreReadable = (texts : List (List ℕ)) (program : Program) → IsProgram texts program → total_bytes texts < 2 ^ 32 → IsReadable program

-- and where no cause stands in it, it can be instantiated with its constants replaced
abbrev pub CheckedProgramsAreReady : Type 0
CheckedProgramsAreReady = (program replaced : Program) → IsReadable program → IsSound program → IsReplaced program replaced → IsReady replaced
