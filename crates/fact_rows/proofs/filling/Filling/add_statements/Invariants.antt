use Rattle.std.proofs.Common.{drop}
use Rattle.fact_rows.specs.Forms.{number_in}
use Rattle.fact_rows.specs.Filling.{all_stated}
use Rattle.fact_rows.proofs.Held.{Leads}
use Rattle.fact_rows.proofs.filling.Filling.add_statements.Given as goal

abbrev pub invariant-loop-statement : goal.invariant-loop-statement
invariant-loop-statement l =
    Leads (number_in l.numbers) (all_stated (number_in l.numbers) (drop l.statement-index l.statements)) (all_stated (number_in l.numbers) l.statements) l.initial.self l.self
