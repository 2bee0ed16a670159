use Rattle.std.proofs.Common.{rules}
use Rattle.part_syntax.proofs.Bodies.{body_behind}
use Rattle.part_syntax.proofs.literals.body_or_none.Goals as goal

pub returns-clause-reads : goal.returns-clause-reads
returns-clause-reads c =
    let e = body_behind c.args.levels c.args.reading.now (search rules) in
    rw e c.stopped_body.ensures.reads
