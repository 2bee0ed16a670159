use Rattle.checked_programs.proofs.Growing.{programs_tables, replaced_tables, programs_short, replaced_short}
use Rattle.checked_programs.proofs.laws.tables_of_programs.Goals as goal

pub returns : goal.returns
returns c = record { read = programs_tables; replaced = replaced_tables; statements = programs_short; replaced_statements = replaced_short }
