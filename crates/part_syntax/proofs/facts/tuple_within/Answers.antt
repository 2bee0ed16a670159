use Rattle.formula_syntax.specs.declared.marks.Mark.TheVariants as marks
use Rattle.std.proofs.Common.{◌≡◌, ◌+◌, ◌-◌, suc, arith, rules}
use Rattle.std.proofs.lemmas.Result.{err_from_is_err_and}
use Rattle.grammar_laws.specs.Steps.{one, both, passes}
use Rattle.formula_syntax.specs.Grammar.{sign}
use Rattle.part_syntax.specs.Reading.{read_arg}
use Rattle.part_syntax.proofs.Rows.{rows_start, rows_end, rows_more, rows_stop, rows_last}
use Rattle.part_syntax.proofs.facts.tuple_within.Goals as goal

pub loop-turn-init : goal.loop-turn-init
loop-turn-init c =
    record {
      reads = rows_start (passes (sign marks.Comma)) (both (one (sign marks.Comma)) (read_arg c.args.levels)) (read_arg c.args.levels) c.args.reading.now c.arg.new.reading c.in_ok-first.first _ _ _ c.in_ok-first.ensures.reads (search rules) (omega arith);
      room = omega (arith, c.in_ok-first.ensures.room);
    }

pub returns-then-not-sees-clause-reads : goal.returns-then-not-sees-clause-reads
returns-then-not-sees-clause-reads c =
    rows_end (passes (sign marks.Comma)) (both (one (sign marks.Comma)) (read_arg c.args.levels)) _ c.loop-turn.tuple c.loop-turn.reading _ c.loop-turn.invariant.reads (search rules)

pub returns-in_err-next-clause-reads : goal.returns-in_err-next-clause-reads
returns-in_err-next-clause-reads c =
    let next : c.args.most - c.loop-turn._turn ≡ suc (c.args.most - (c.loop-turn._turn + 1)) = omega arith in
    let p = err_from_is_err_and c.from_residual-in_err-next.result c.from_residual-in_err-next.ensures.1 in
    rw (p.1, p.2) (rows_stop (passes (sign marks.Comma)) (both (one (sign marks.Comma)) (read_arg c.args.levels)) _ c.loop-turn.tuple c.loop-turn.reading c.next_arg.new.reading _ _ _ c.loop-turn.invariant.reads next (search rules) c.in_err-next.ensures.reads)

pub loop-turn-preserved : goal.loop-turn-preserved
loop-turn-preserved c =
    let next : c.args.most - c.loop-turn._turn ≡ suc (c.args.most - (c.loop-turn._turn + 1)) = omega arith in
    record {
      reads = rows_more (passes (sign marks.Comma)) (both (one (sign marks.Comma)) (read_arg c.args.levels)) _ c.loop-turn.tuple _ c.loop-turn.reading c.next_arg.new.reading c.in_ok-next.next _ _ c.loop-turn.invariant.reads next (search rules) c.in_ok-next.ensures.reads c.in_ok-push-2.ensures.ok;
      room = omega (arith, c.in_ok-next.ensures.room, c.loop-turn.invariant.room);
    }

pub returns-clause-reads : goal.returns-clause-reads
returns-clause-reads c =
    rows_last (passes (sign marks.Comma)) (both (one (sign marks.Comma)) (read_arg c.args.levels)) _ c.loop-turn.tuple c.loop-turn.reading _ c.loop-turn.invariant.reads (omega arith)
