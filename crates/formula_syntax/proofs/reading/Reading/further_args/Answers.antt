use Rattle.formula_syntax.specs.declared.marks.Mark.TheVariants as marks
use Rattle.std.proofs.Common.{◌≡◌, suc, ◌+◌, ◌-◌, sym, ap, ◌∙◌, arith}
use Rattle.std.proofs.lemmas.Result.{err_from_is_err_and}
use Rattle.formula_syntax.specs.Points.{Point}
use Rattle.grammar_laws.specs.Steps.{Got}
use Rattle.formula_syntax.specs.Grammar.{sign}
use Rattle.formula_syntax.specs.Reading.{read_expr}
use Rattle.formula_syntax.proofs.Gathers.{gather_end, gather_more, gather_stuck}
use Rattle.formula_syntax.proofs.Onwards.{onward_then}
use Rattle.formula_syntax.proofs.reading.Reading.further_args.Goals as goal

pub returns-then-not-take-clause-reads : goal.returns-then-not-take-clause-reads
returns-then-not-take-clause-reads c =
    gather_end (sign marks.Comma) (read_expr c.args.levels) _ c.loop-turn.args c.loop-turn.self _ c.loop-turn.invariant.reads c.if-not-take.ensures.taken.0
    ∙ ap (λ (p : Point). Got c.loop-turn.args p) (sym c.if-not-take.ensures.taken.1)

pub returns-in_err-arg-clause-reads : goal.returns-in_err-arg-clause-reads
returns-in_err-arg-clause-reads c =
    let next : c.args.most - c.loop-turn._turn ≡ suc (c.args.most - (c.loop-turn._turn + 1)) = omega arith in
    let p = err_from_is_err_and c.from_residual.result c.from_residual.ensures.1 in
    rw (p.1, p.2) (gather_stuck (sign marks.Comma) (read_expr c.args.levels) _ c.loop-turn.args c.loop-turn.self c.take.new.self tt _ c.expr.new.self _ _ c.loop-turn.invariant.reads next c.if-not-take.ensures.taken.0 c.if-not-take.ensures.taken.1 c.in_err-arg.ensures.reads)

pub returns-in_err-arg-clause-onward : goal.returns-in_err-arg-clause-onward
returns-in_err-arg-clause-onward c = onward_then c.loop-turn.invariant.onward (onward_then c.take.ensures.onward c.in_err-arg.ensures.onward)

pub returns-in_err-push-clause-onward : goal.returns-in_err-push-clause-onward
returns-in_err-push-clause-onward c = onward_then c.loop-turn.invariant.onward (onward_then c.take.ensures.onward c.in_ok-arg.ensures.onward)

pub loop-turn-preserved : goal.loop-turn-preserved
loop-turn-preserved c =
    let next : c.args.most - c.loop-turn._turn ≡ suc (c.args.most - (c.loop-turn._turn + 1)) = omega arith in
    record {
      reads = gather_more (sign marks.Comma) (read_expr c.args.levels) _ c.loop-turn.args c.push.new.self c.loop-turn.self c.take.new.self c.expr.new.self tt c.in_ok-arg.arg _ _ c.loop-turn.invariant.reads next c.if-not-take.ensures.taken.0 c.if-not-take.ensures.taken.1 c.in_ok-arg.ensures.reads c.in_ok-push.ensures.ok;
      onward = onward_then c.loop-turn.invariant.onward (onward_then c.take.ensures.onward c.in_ok-arg.ensures.onward);
    }
