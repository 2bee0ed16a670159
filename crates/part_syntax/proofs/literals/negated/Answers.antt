use Rattle.std.proofs.Common.{rules, arith, refl}
use Rattle.std.proofs.lemmas.Grind.{common_steps}
use Rattle.part_syntax.proofs.Nots.{negated_is}
use Rattle.part_syntax.proofs.literals.negated.Goals as goal

pub returns-in_err-item-clause-reads : goal.returns-in_err-item-clause-reads
returns-in_err-item-clause-reads c =
    let e = negated_is c.args.levels c.args.reading.now c.expect.new.reading c.further_nots-further.new.reading c.further_nots-further.result c.in_ok-expect.ensures.reads c.further_nots-further.ensures.reads in
    rw e (first_of (search rules, grind (arith, common_steps)))

pub returns-clause-reads : goal.returns-clause-reads
returns-clause-reads c =
    let e = negated_is c.args.levels c.args.reading.now c.expect.new.reading c.further_nots-further.new.reading c.further_nots-further.result c.in_ok-expect.ensures.reads c.further_nots-further.ensures.reads in
    rw e (rw c.in_ok-item.ensures.reads refl)
