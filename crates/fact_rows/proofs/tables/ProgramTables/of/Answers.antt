use Rattle.fact_rows.specs.Forms.{number_in}
use Rattle.fact_rows.proofs.Counted.{too-many, not-many, rows-once, have-terms, are-rows}
use Rattle.fact_rows.proofs.tables.ProgramTables.of.Goals as goal

pub returns-in-Ok-clause-rows : goal.returns-in-Ok-clause-rows
returns-in-Ok-clause-rows c = rows-once (number_in c.in_ok-numbers.numbers) c.args.statements.now c.in_ok-numbers.ensures.tables c.args.most c.in-Ok.filling c.in-Ok.ensures.filled

pub returns-in-Ok-clause-are_rows : goal.returns-in-Ok-clause-are_rows
returns-in-Ok-clause-are_rows c = λ symbols within. are-rows (number_in c.in_ok-numbers.numbers) c.args.statements.now c.in_ok-numbers.ensures.tables c.args.most c.in-Ok.filling c.in-Ok.ensures.filled symbols within

pub returns-in-Ok-clause-terms : goal.returns-in-Ok-clause-terms
returns-in-Ok-clause-terms c = λ symbols within. have-terms (number_in c.in_ok-numbers.numbers) c.args.statements.now c.in_ok-numbers.ensures.tables c.args.most c.in-Ok.filling c.in-Ok.ensures.filled symbols within

pub returns-in-Ok-clause-at_most : goal.returns-in-Ok-clause-at_most
returns-in-Ok-clause-at_most c = not-many (number_in c.in_ok-numbers.numbers) c.args.statements.now c.in_ok-numbers.ensures.tables c.args.most c.in-Ok.filling c.in-Ok.ensures.filled

pub returns-in-Err-clause-large : goal.returns-in-Err-clause-large
returns-in-Err-clause-large c =
    λ large. too-many (number_in c.in_ok-numbers.numbers) c.args.statements.now c.in_ok-numbers.ensures.tables c.args.most (c.in-Err.ensures.large large)
