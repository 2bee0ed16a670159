use Rattle.std.proofs.Common.{List, subst, arith}
use Rattle.tel_base.specs.Members.{In}
use Rattle.tel_rule.specs.declared.statements.Statement.{Statement}
use Rattle.program_instances.proofs.Turns.{there, statements-more, statements-over}
use Rattle.program_instances.proofs.statements.gather_statements.Goals as goal

pub gather_statement-requires-clause-there : goal.gather_statement-requires-clause-there
gather_statement-requires-clause-there c =
    subst (λ (statements : List Statement). In c.statement-item.result statements) c.requires.all (there c.args.statements.now c.loop-statement.statement-index c.statement-item.result c.loop-statement-test.true c.statement-item.is)

pub returns-in-Err-clause-large : goal.returns-in-Err-clause-large
returns-in-Err-clause-large c = λ large.
    statements-over c.args.program.now.statements c.args.program.now.symbols c.args.statements.now c.loop-statement.statement-index c.statement-item.result c.loop-statement-test.true c.statement-item.is
    c.loop-statement.live c.loop-statement.atoms c.args.room c.loop-statement.left c.loop-statement.invariant.front (c.in-Err.ensures.large large)

pub loop-statement-preserved : goal.loop-statement-preserved
loop-statement-preserved c =
    let taken = c.in-Ok.ensures.gathered.taken in
    let less = c.loop-statement.invariant.less in
    record {
      front =
          statements-more c.args.program.now.statements c.args.program.now.symbols c.args.statements.now c.loop-statement.statement-index c.statement-item.result c.loop-statement-test.true c.statement-item.is
          c.loop-statement.live c.loop-statement.atoms c.args.room c.loop-statement.left c.loop-statement.invariant.front c.in-Ok.found.live c.push.new.self c.gather_statement.new.atoms c.in-Ok.found.left c.in_ok-push.ensures.ok c.in-Ok.ensures.gathered;
      less = omega (arith, taken, less);
    }
