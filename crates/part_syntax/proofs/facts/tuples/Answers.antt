use Rattle.part_syntax.proofs.Enclosed.{tuples_opened}
use Rattle.part_syntax.proofs.facts.tuples.Goals as goal

pub returns-clause-reads : goal.returns-clause-reads
returns-clause-reads c =
    let e = tuples_opened c.args.levels c.args.reading.now c.expect.new.reading c.in_ok-expect.ensures.reads in
    rw e c.closed_tuples.ensures.reads
