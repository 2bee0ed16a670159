use Rattle.tel_rule.specs.declared.statements.Statement.{Statement}
use Rattle.fact_rows.specs.Forms.{number_in}
use Rattle.fact_rows.specs.Filling.{kind_stated, all_stated}
use Rattle.fact_rows.proofs.Steps.{step-more, step-over, step-end}
use Rattle.fact_rows.proofs.filling.Filling.add_statements.Goals as goal

pub loop-statement-preserved : goal.loop-statement-preserved
loop-statement-preserved c =
    let number = number_in c.args.numbers.now in
    let statements = c.args.statements.now in
    step-more number (λ (s : Statement). kind_stated number s.kind) statements (all_stated number statements) c.args.self.now c.loop-statement.self c.add_statement.new.self c.loop-statement.statement-index c.statement-item.result
    c.loop-statement-test.true c.statement-item.is c.loop-statement.invariant c.in-Ok.ensures.added

pub returns-in-Err-clause-large : goal.returns-in-Err-clause-large
returns-in-Err-clause-large c =
    let number = number_in c.args.numbers.now in
    let statements = c.args.statements.now in
    λ large.
    step-over number (λ (s : Statement). kind_stated number s.kind) statements (all_stated number statements) c.args.self.now c.loop-statement.self c.loop-statement.statement-index c.statement-item.result
    c.loop-statement-test.true c.statement-item.is c.loop-statement.invariant (c.in-Err.ensures.large large)

pub returns-clause-added : goal.returns-clause-added
returns-clause-added c =
    let number = number_in c.args.numbers.now in
    let statements = c.args.statements.now in
    step-end number (λ (s : Statement). kind_stated number s.kind) statements (all_stated number statements) c.args.self.now c.loop-statement.self c.loop-statement.statement-index
    c.loop-statement-test.false c.loop-statement.invariant
