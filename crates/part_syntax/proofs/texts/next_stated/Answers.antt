use Rattle.std.proofs.lemmas.Result.{err_from_is_err_and}
use Rattle.part_syntax.proofs.Fresh.{stated_got, stated_stop}
use Rattle.part_syntax.proofs.texts.next_stated.Goals as goal

pub returns-in_err-item-clause-reads : goal.returns-in_err-item-clause-reads
returns-in_err-item-clause-reads c =
    let p = err_from_is_err_and c.from_residual.result c.from_residual.ensures.1 in
    rw (p.1, p.2) (stated_stop c.args.levels c.args.reading.now c.take_vars-earlier.new.reading c.next_item.new.reading _ c.take_vars-earlier.ensures.point c.in_err-item.ensures.reads)

pub returns-clause-reads : goal.returns-clause-reads
returns-clause-reads c =
    stated_got c.args.levels c.args.reading.now c.take_vars-earlier.new.reading c.next_item.new.reading c.take_vars-vars.new.reading _ c.place_at-place.result c.take_vars-vars.result
    c.take_vars-earlier.ensures.point c.place_at-place.ensures c.in_ok-item.ensures.reads c.take_vars-vars.ensures.vars c.take_vars-vars.ensures.point
