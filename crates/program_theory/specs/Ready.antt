-- Programs that can be instantiated.
use Rattle.std.specs.Prelude.{ℕ, ◌<◌, ◌^◌, List, length, None, IsTrue}
use Rattle.std.specs.List.{list_all}
use Rattle.tel_base.specs.Members.{In}
use Rattle.tel_term.specs.Symbols.{IsTable}
use Rattle.tel_rule.specs.declared.statements.Statement.{Statement}
use Rattle.tel_rule.specs.declared.statements.Program.{Program}
use Rattle.tel_semantics.specs.Tables.{is_table}
use Rattle.rule_binding.specs.Binding.{IsFirstUnbound}
use Rattle.rule_plans.specs.Within.{StatementsAreWithin}
use Rattle.program_theory.specs.Templates.{HasFewNots, is_guarded_kind}

-- what is known of a program that was read: its symbols are a table, its expressions speak of these and of the variables of their statement, no literal has more than two `not`,
-- and its statements can be numbered
pub record IsReadable (program : Program) : Type 0 where
  pub table : IsTable program.symbols
  pub within : StatementsAreWithin program.symbols program.statements
  pub nots : HasFewNots program
  pub few : length program.statements < 2 ^ 32

-- and where it was checked, too: its variables are bound, and its arrows are guarded
pub record IsReady (program : Program) : Type 0 where
  pub table : IsTable program.symbols
  pub within : StatementsAreWithin program.symbols program.statements
  pub bound : (statement : Statement) → In statement program.statements → IsFirstUnbound (is_table program.statements) statement None
  pub guarded : IsTrue (list_all (λ (statement : Statement). is_guarded_kind statement.kind) program.statements)
  pub nots : HasFewNots program
  pub few : length program.statements < 2 ^ 32
