use Rattle.std.proofs.Common.{◌≡◌, ◌+◌, ◌-◌, suc, arith, rules}
use Rattle.std.proofs.lemmas.Result.{err_from_is_err_and}
use Rattle.part_syntax.specs.Reading.{starts_item}
use Rattle.part_syntax.specs.Given.{fresh_stated, stated_of}
use Rattle.part_syntax.proofs.Told.{told_end, told_more, told_stop}
use Rattle.part_syntax.proofs.texts.text.Goals as goal

pub returns-then-not-at_item-clause-reads : goal.returns-then-not-at_item-clause-reads
returns-then-not-at_item-clause-reads c =
    told_end starts_item (fresh_stated c.args.levels) _ c.loop-turn.statements c.loop-turn.part c.loop-turn.reading _ c.loop-turn.invariant.reads (search rules)

pub returns-in_err-next-clause-reads : goal.returns-in_err-next-clause-reads
returns-in_err-next-clause-reads c =
    let next : c.left-turn-end.result - c.loop-turn._turn ≡ suc (c.left-turn-end.result - (c.loop-turn._turn + 1)) = omega arith in
    let p = err_from_is_err_and c.from_residual.result c.from_residual.ensures.1 in
    rw (p.1, p.2) (told_stop starts_item (fresh_stated c.args.levels) _ c.loop-turn.statements c.loop-turn.part c.loop-turn.reading c.next_stated.new.reading _ _ _ c.loop-turn.invariant.reads next (search rules) c.in_err-next.ensures.reads)

pub loop-turn-preserved : goal.loop-turn-preserved
loop-turn-preserved c =
    let next : c.left-turn-end.result - c.loop-turn._turn ≡ suc (c.left-turn-end.result - (c.loop-turn._turn + 1)) = omega arith in
    record {
      reads = told_more starts_item (fresh_stated c.args.levels) _ c.loop-turn.statements _ c.loop-turn.part _ c.loop-turn.reading c.next_stated.new.reading (stated_of c.in_ok-next.next) _ _ c.loop-turn.invariant.reads next (search rules) c.in_ok-next.ensures.reads c.in_ok-part.ensures.statements c.in_ok-part.ensures.part;
      room = omega (arith, c.in_ok-next.ensures.room, c.loop-turn.invariant.room);
      few = omega (arith, c.in_ok-part.ensures.few, c.loop-turn.invariant.few);
    }
