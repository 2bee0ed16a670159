use Rattle.std.proofs.Common.{◌≡◌, suc, ◌+◌, ◌-◌, sym, ap, ◌∙◌, arith}
use Rattle.std.proofs.lemmas.Result.{err_from_is_err_and}
use Rattle.formula_syntax.specs.Points.{Point}
use Rattle.grammar_laws.specs.Steps.{Got}
use Rattle.formula_syntax.specs.Grammar.{product_op, sum_op}
use Rattle.formula_syntax.specs.Reading.{read_value, read_product}
use Rattle.formula_syntax.proofs.Chains.{chain_end, chain_more, chain_stuck}
use Rattle.formula_syntax.proofs.Choices.{value_leaf, value_shut, value_nested}
use Rattle.formula_syntax.proofs.Onwards.{onward_then}
use Rattle.formula_syntax.proofs.reading.Reading.+expr.Goals as goal

pub factors-returns-in-None-clause-reads : goal.factors-returns-in-None-clause-reads
factors-returns-in-None-clause-reads t c =
    let read = read_value c.args.levels in
    chain_end product_op read _ c.loop-turn.factors c.loop-turn.self _ c.loop-turn.invariant.reads c.in-None.ensures.taken.0
    ∙ ap (λ (p : Point). Got c.loop-turn.factors p) (sym c.in-None.ensures.taken.1)

pub factors-returns-in_err-factor-in-Some-clause-reads : goal.factors-returns-in_err-factor-in-Some-clause-reads
factors-returns-in_err-factor-in-Some-clause-reads t c =
    let next : c.left-turn-end.result - c.loop-turn._turn ≡ suc (c.left-turn-end.result - (c.loop-turn._turn + 1)) = omega arith in
    let p = err_from_is_err_and c.from_residual.result c.from_residual.ensures.1 in
    rw (p.1, p.2) (chain_stuck product_op (read_value c.args.levels) _ c.loop-turn.factors c.loop-turn.self c.product_op.new.self c.in-Some.op _ c.value.new.self _ _ c.loop-turn.invariant.reads next c.in-Some.ensures.taken.0 c.in-Some.ensures.taken.1 c.in_err-factor-in-Some.ensures.reads)

pub factors-returns-in_err-factor-in-Some-clause-onward : goal.factors-returns-in_err-factor-in-Some-clause-onward
factors-returns-in_err-factor-in-Some-clause-onward t c = onward_then c.loop-turn.invariant.onward (onward_then c.in-Some.ensures.onward c.in_err-factor-in-Some.ensures.onward)

pub factors-returns-in_err-push-in-Some-clause-onward : goal.factors-returns-in_err-push-in-Some-clause-onward
factors-returns-in_err-push-in-Some-clause-onward t c = onward_then c.loop-turn.invariant.onward (onward_then c.in-Some.ensures.onward c.in_ok-factor-in-Some.ensures.onward)

pub factors-loop-turn-preserved : goal.factors-loop-turn-preserved
factors-loop-turn-preserved t c =
    let next : c.left-turn-end.result - c.loop-turn._turn ≡ suc (c.left-turn-end.result - (c.loop-turn._turn + 1)) = omega arith in
    record {
      reads = chain_more product_op (read_value c.args.levels) _ c.loop-turn.factors c.push.new.self c.loop-turn.self c.product_op.new.self c.value.new.self c.in-Some.op c.in_ok-factor-in-Some.factor _ _ c.loop-turn.invariant.reads next c.in-Some.ensures.taken.0 c.in-Some.ensures.taken.1 c.in_ok-factor-in-Some.ensures.reads c.in_ok-push-in-Some.ensures.ok;
      onward = onward_then c.loop-turn.invariant.onward (onward_then c.in-Some.ensures.onward c.in_ok-factor-in-Some.ensures.onward);
    }

pub summands-returns-in-None-clause-reads : goal.summands-returns-in-None-clause-reads
summands-returns-in-None-clause-reads t c =
    let read = read_product (read_value c.args.levels) in
    chain_end sum_op read _ c.loop-turn.summands c.loop-turn.self _ c.loop-turn.invariant.reads c.in-None.ensures.taken.0
    ∙ ap (λ (p : Point). Got c.loop-turn.summands p) (sym c.in-None.ensures.taken.1)

pub summands-returns-in_err-summand-in-Some-clause-reads : goal.summands-returns-in_err-summand-in-Some-clause-reads
summands-returns-in_err-summand-in-Some-clause-reads t c =
    let next : c.left-turn-end.result - c.loop-turn._turn ≡ suc (c.left-turn-end.result - (c.loop-turn._turn + 1)) = omega arith in
    let p = err_from_is_err_and c.from_residual.result c.from_residual.ensures.1 in
    rw (p.1, p.2) (chain_stuck sum_op (read_product (read_value c.args.levels)) _ c.loop-turn.summands c.loop-turn.self c.sum_op.new.self c.in-Some.op _ c.product.new.self _ _ c.loop-turn.invariant.reads next c.in-Some.ensures.taken.0 c.in-Some.ensures.taken.1 c.in_err-summand-in-Some.ensures.reads)

pub summands-returns-in_err-summand-in-Some-clause-onward : goal.summands-returns-in_err-summand-in-Some-clause-onward
summands-returns-in_err-summand-in-Some-clause-onward t c = onward_then c.loop-turn.invariant.onward (onward_then c.in-Some.ensures.onward c.in_err-summand-in-Some.ensures.onward)

pub summands-returns-in_err-push-in-Some-clause-onward : goal.summands-returns-in_err-push-in-Some-clause-onward
summands-returns-in_err-push-in-Some-clause-onward t c = onward_then c.loop-turn.invariant.onward (onward_then c.in-Some.ensures.onward c.in_ok-summand-in-Some.ensures.onward)

pub summands-loop-turn-preserved : goal.summands-loop-turn-preserved
summands-loop-turn-preserved t c =
    let next : c.left-turn-end.result - c.loop-turn._turn ≡ suc (c.left-turn-end.result - (c.loop-turn._turn + 1)) = omega arith in
    record {
      reads = chain_more sum_op (read_product (read_value c.args.levels)) _ c.loop-turn.summands c.push.new.self c.loop-turn.self c.sum_op.new.self c.product.new.self c.in-Some.op c.in_ok-summand-in-Some.summand _ _ c.loop-turn.invariant.reads next c.in-Some.ensures.taken.0 c.in-Some.ensures.taken.1 c.in_ok-summand-in-Some.ensures.reads c.in_ok-push-in-Some.ensures.ok;
      onward = onward_then c.loop-turn.invariant.onward (onward_then c.in-Some.ensures.onward c.in_ok-summand-in-Some.ensures.onward);
    }

pub value-returns-in-Some-clause-reads : goal.value-returns-in-Some-clause-reads
value-returns-in-Some-clause-reads t c = value_leaf c.args.levels c.args.self.now c.leaf.new.self c.in-Some.leaf (rw c.in-Some.is at c.in_ok-leaf.ensures.reads)

pub value-returns-then-levels-eq0-clause-reads : goal.value-returns-then-levels-eq0-clause-reads
value-returns-then-levels-eq0-clause-reads t c = λ other. value_shut c.args.levels c.args.self.now c.leaf.new.self _ (omega arith) (rw c.in-None.is at c.in_ok-leaf.ensures.reads) c.shut_value.ensures

pub value-returns-clause-reads : goal.value-returns-clause-reads
value-returns-clause-reads t c =
    let e = value_nested c.args.levels (c.args.levels - 1) c.args.self.now c.leaf.new.self (omega arith) (rw c.in-None.is at c.in_ok-leaf.ensures.reads) in
    rw e c.nested_value.ensures.reads

pub bracketed_expr-returns-in_err-expect-clause-onward : goal.bracketed_expr-returns-in_err-expect-clause-onward
bracketed_expr-returns-in_err-expect-clause-onward t c = onward_then c.take.ensures.onward (onward_then c.in_ok-inner.ensures.onward c.in_err-expect.ensures.onward)

pub bracketed_expr-returns-clause-onward : goal.bracketed_expr-returns-clause-onward
bracketed_expr-returns-clause-onward t c = onward_then c.take.ensures.onward (onward_then c.in_ok-inner.ensures.onward c.in_ok-expect.ensures.onward)

pub value-returns-clause-onward : goal.value-returns-clause-onward
value-returns-clause-onward t c = onward_then c.in_ok-leaf.ensures.onward c.nested_value.ensures.onward
