-- The tables of a program.
use Rattle.tel_rule.specs.declared.statements.Program.{Program}
use Rattle.rule_plans.specs.Within.{AreRowsOf}
use Rattle.plan_search.specs.Steps.{RowsHaveTerms}
use Rattle.rule_goals.specs.Numbers.{AreNumbered}
use Rattle.fact_rows.specs.declared.tables.ProgramTables.{ProgramTables}
use Rattle.fact_rows.specs.Forms.{number_in}
use Rattle.fact_rows.specs.Limit.{rows_by}

-- these are the tables of a program, with the rows that its facts state
pub record AreTablesOf (program : Program) (tables : ProgramTables) : Type 0 where
  pub numbered : AreNumbered (number_in tables.numbers) program.statements (rows_by (number_in tables.numbers) tables.tables) tables.tables
  pub are_rows : AreRowsOf program.statements program.symbols (rows_by (number_in tables.numbers) tables.tables)
  pub terms : RowsHaveTerms program.symbols tables.tables
