use Rattle.part_syntax.proofs.Bodies.{tail_behind}
use Rattle.part_syntax.proofs.literals.tail.Goals as goal

pub returns-clause-reads : goal.returns-clause-reads
returns-clause-reads c =
    let e = tail_behind c.args.levels c.args.reading.now c.expect.new.reading c.in_ok-expect.ensures.reads in
    rw e c.body_or_none.ensures.reads
