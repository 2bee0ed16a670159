use Rattle.formula_syntax.specs.declared.marks.Mark.TheVariants as marks
use Rattle.std.proofs.Common.{◌≡◌, suc, ◌+◌, ◌-◌, List, [], ◌∷◌, ◌++◌, sym, ap, ◌∙◌, arith}
use Rattle.std.proofs.lemmas.Result.{err_from_is_err_and}
use Rattle.tel_rule.specs.declared.formulas.Formula.{Formula}
use Rattle.tel_rule.specs.declared.formulas.ManyOp.TheVariants as manies
use Rattle.formula_syntax.specs.Points.{Point}
use Rattle.grammar_laws.specs.Steps.{Got}
use Rattle.formula_syntax.specs.Grammar.{sign}
use Rattle.formula_syntax.specs.Reading.{read_unary, read_pair, read_and}
use Rattle.formula_syntax.proofs.Gathers.{gather_end, gather_more, gather_stuck}
use Rattle.formula_syntax.proofs.Manies.{many_none, many_some, many_stuck, unary_flat, unary_shut, unary_nested}
use Rattle.formula_syntax.proofs.Onwards.{onward_then}
use Rattle.formula_syntax.proofs.reading.Reading.+formula.Goals as goal

pub unary-returns-then-starts_flat-clause-reads : goal.unary-returns-then-starts_flat-clause-reads
unary-returns-then-starts_flat-clause-reads t c = rw (unary_flat c.args.levels c.args.self.now (sym c.starts_flat.ensures ∙ c.if-starts_flat.true)) c.flat.ensures.reads

pub unary-returns-then-levels-eq0-clause-reads : goal.unary-returns-then-levels-eq0-clause-reads
unary-returns-then-levels-eq0-clause-reads t c = λ other. unary_shut c.args.levels c.args.self.now (omega arith) (sym c.starts_flat.ensures ∙ c.if-starts_flat.false) ∙ c.shut_unary.ensures

pub unary-returns-clause-reads : goal.unary-returns-clause-reads
unary-returns-clause-reads t c = rw (unary_nested c.args.levels (c.args.levels - 1) c.args.self.now (omega arith) (sym c.starts_flat.ensures ∙ c.if-starts_flat.false)) c.nested_unary.ensures.reads

pub bracketed_formula-returns-in_err-expect-clause-onward : goal.bracketed_formula-returns-in_err-expect-clause-onward
bracketed_formula-returns-in_err-expect-clause-onward t c = onward_then c.take.ensures.onward (onward_then c.in_ok-inner.ensures.onward c.in_err-expect.ensures.onward)

pub bracketed_formula-returns-clause-onward : goal.bracketed_formula-returns-clause-onward
bracketed_formula-returns-clause-onward t c = onward_then c.take.ensures.onward (onward_then c.in_ok-inner.ensures.onward c.in_ok-expect.ensures.onward)

pub conjuncts-returns-then-not-take-clause-reads : goal.conjuncts-returns-then-not-take-clause-reads
conjuncts-returns-then-not-take-clause-reads t c =
    gather_end (sign marks.Ampersand) (read_pair (read_unary c.args.levels)) _ c.loop-turn.all c.loop-turn.self _ c.loop-turn.invariant.reads c.if-not-take.ensures.taken.0
    ∙ ap (λ (p : Point). Got c.loop-turn.all p) (sym c.if-not-take.ensures.taken.1)

pub conjuncts-returns-in_err-conjunct-clause-reads : goal.conjuncts-returns-in_err-conjunct-clause-reads
conjuncts-returns-in_err-conjunct-clause-reads t c =
    let next : c.left-turn-end.result - c.loop-turn._turn ≡ suc (c.left-turn-end.result - (c.loop-turn._turn + 1)) = omega arith in
    let p = err_from_is_err_and c.from_residual.result c.from_residual.ensures.1 in
    rw (p.1, p.2) (gather_stuck (sign marks.Ampersand) (read_pair (read_unary c.args.levels)) _ c.loop-turn.all c.loop-turn.self c.take.new.self tt _ c.pair.new.self _ _ c.loop-turn.invariant.reads next c.if-not-take.ensures.taken.0 c.if-not-take.ensures.taken.1 c.in_err-conjunct.ensures.reads)

pub conjuncts-returns-in_err-conjunct-clause-onward : goal.conjuncts-returns-in_err-conjunct-clause-onward
conjuncts-returns-in_err-conjunct-clause-onward t c = onward_then c.loop-turn.invariant.onward (onward_then c.take.ensures.onward c.in_err-conjunct.ensures.onward)

pub conjuncts-returns-in_err-push-clause-onward : goal.conjuncts-returns-in_err-push-clause-onward
conjuncts-returns-in_err-push-clause-onward t c = onward_then c.loop-turn.invariant.onward (onward_then c.take.ensures.onward c.in_ok-conjunct.ensures.onward)

pub conjuncts-loop-turn-preserved : goal.conjuncts-loop-turn-preserved
conjuncts-loop-turn-preserved t c =
    let next : c.left-turn-end.result - c.loop-turn._turn ≡ suc (c.left-turn-end.result - (c.loop-turn._turn + 1)) = omega arith in
    record {
      reads = gather_more (sign marks.Ampersand) (read_pair (read_unary c.args.levels)) _ c.loop-turn.all c.push.new.self c.loop-turn.self c.take.new.self c.pair.new.self tt c.in_ok-conjunct.conjunct _ _ c.loop-turn.invariant.reads next c.if-not-take.ensures.taken.0 c.if-not-take.ensures.taken.1 c.in_ok-conjunct.ensures.reads c.in_ok-push.ensures.ok;
      onward = onward_then c.loop-turn.invariant.onward (onward_then c.take.ensures.onward c.in_ok-conjunct.ensures.onward);
    }

pub conjunction-returns-then-not-sees-clause-reads : goal.conjunction-returns-then-not-sees-clause-reads
conjunction-returns-then-not-sees-clause-reads t c = many_none manies.And (sign marks.Ampersand) (read_pair (read_unary c.args.levels)) c.args.self.now c.pair.new.self c.in_ok-first.first c.in_ok-first.ensures.reads (sym c.sees.ensures ∙ c.if-not-sees.true)

pub conjunction-returns-in_err-whole-clause-reads : goal.conjunction-returns-in_err-whole-clause-reads
conjunction-returns-in_err-whole-clause-reads t c =
    let p = err_from_is_err_and c.from_residual-in_err-whole.result c.from_residual-in_err-whole.ensures.1 in
    rw (p.1, p.2) (many_stuck manies.And (sign marks.Ampersand) (read_pair (read_unary c.args.levels)) c.args.self.now c.pair.new.self c.conjuncts.new.self c.in_ok-first.first c.push.new.self _ c.in_ok-first.ensures.reads (c.in_ok-push.ensures.ok ∙ ap (λ (xs : List Formula). xs ++ c.in_ok-first.first ∷ []) c.new-all.ensures) c.in_err-whole.ensures.reads)

pub conjunction-returns-clause-reads : goal.conjunction-returns-clause-reads
conjunction-returns-clause-reads t c = many_some manies.And (sign marks.Ampersand) (read_pair (read_unary c.args.levels)) c.args.self.now c.pair.new.self c.conjuncts.new.self c.in_ok-first.first c.push.new.self c.in_ok-whole.whole c.in_ok-first.ensures.reads (sym c.sees.ensures ∙ c.if-not-sees.false) (c.in_ok-push.ensures.ok ∙ ap (λ (xs : List Formula). xs ++ c.in_ok-first.first ∷ []) c.new-all.ensures) c.in_ok-whole.ensures.reads

pub disjuncts-returns-then-not-take-clause-reads : goal.disjuncts-returns-then-not-take-clause-reads
disjuncts-returns-then-not-take-clause-reads t c =
    gather_end (sign marks.Bar) (read_and (read_pair (read_unary c.args.levels))) _ c.loop-turn.all c.loop-turn.self _ c.loop-turn.invariant.reads c.if-not-take.ensures.taken.0
    ∙ ap (λ (p : Point). Got c.loop-turn.all p) (sym c.if-not-take.ensures.taken.1)

pub disjuncts-returns-in_err-disjunct-clause-reads : goal.disjuncts-returns-in_err-disjunct-clause-reads
disjuncts-returns-in_err-disjunct-clause-reads t c =
    let next : c.left-turn-end.result - c.loop-turn._turn ≡ suc (c.left-turn-end.result - (c.loop-turn._turn + 1)) = omega arith in
    let p = err_from_is_err_and c.from_residual.result c.from_residual.ensures.1 in
    rw (p.1, p.2) (gather_stuck (sign marks.Bar) (read_and (read_pair (read_unary c.args.levels))) _ c.loop-turn.all c.loop-turn.self c.take.new.self tt _ c.conjunction.new.self _ _ c.loop-turn.invariant.reads next c.if-not-take.ensures.taken.0 c.if-not-take.ensures.taken.1 c.in_err-disjunct.ensures.reads)

pub disjuncts-returns-in_err-disjunct-clause-onward : goal.disjuncts-returns-in_err-disjunct-clause-onward
disjuncts-returns-in_err-disjunct-clause-onward t c = onward_then c.loop-turn.invariant.onward (onward_then c.take.ensures.onward c.in_err-disjunct.ensures.onward)

pub disjuncts-returns-in_err-push-clause-onward : goal.disjuncts-returns-in_err-push-clause-onward
disjuncts-returns-in_err-push-clause-onward t c = onward_then c.loop-turn.invariant.onward (onward_then c.take.ensures.onward c.in_ok-disjunct.ensures.onward)

pub disjuncts-loop-turn-preserved : goal.disjuncts-loop-turn-preserved
disjuncts-loop-turn-preserved t c =
    let next : c.left-turn-end.result - c.loop-turn._turn ≡ suc (c.left-turn-end.result - (c.loop-turn._turn + 1)) = omega arith in
    record {
      reads = gather_more (sign marks.Bar) (read_and (read_pair (read_unary c.args.levels))) _ c.loop-turn.all c.push.new.self c.loop-turn.self c.take.new.self c.conjunction.new.self tt c.in_ok-disjunct.disjunct _ _ c.loop-turn.invariant.reads next c.if-not-take.ensures.taken.0 c.if-not-take.ensures.taken.1 c.in_ok-disjunct.ensures.reads c.in_ok-push.ensures.ok;
      onward = onward_then c.loop-turn.invariant.onward (onward_then c.take.ensures.onward c.in_ok-disjunct.ensures.onward);
    }

pub disjunction-returns-then-not-sees-clause-reads : goal.disjunction-returns-then-not-sees-clause-reads
disjunction-returns-then-not-sees-clause-reads t c = many_none manies.Or (sign marks.Bar) (read_and (read_pair (read_unary c.args.levels))) c.args.self.now c.conjunction.new.self c.in_ok-first.first c.in_ok-first.ensures.reads (sym c.sees.ensures ∙ c.if-not-sees.true)

pub disjunction-returns-in_err-whole-clause-reads : goal.disjunction-returns-in_err-whole-clause-reads
disjunction-returns-in_err-whole-clause-reads t c =
    let p = err_from_is_err_and c.from_residual-in_err-whole.result c.from_residual-in_err-whole.ensures.1 in
    rw (p.1, p.2) (many_stuck manies.Or (sign marks.Bar) (read_and (read_pair (read_unary c.args.levels))) c.args.self.now c.conjunction.new.self c.disjuncts.new.self c.in_ok-first.first c.push.new.self _ c.in_ok-first.ensures.reads (c.in_ok-push.ensures.ok ∙ ap (λ (xs : List Formula). xs ++ c.in_ok-first.first ∷ []) c.new-all.ensures) c.in_err-whole.ensures.reads)

pub disjunction-returns-clause-reads : goal.disjunction-returns-clause-reads
disjunction-returns-clause-reads t c = many_some manies.Or (sign marks.Bar) (read_and (read_pair (read_unary c.args.levels))) c.args.self.now c.conjunction.new.self c.disjuncts.new.self c.in_ok-first.first c.push.new.self c.in_ok-whole.whole c.in_ok-first.ensures.reads (sym c.sees.ensures ∙ c.if-not-sees.false) (c.in_ok-push.ensures.ok ∙ ap (λ (xs : List Formula). xs ++ c.in_ok-first.first ∷ []) c.new-all.ensures) c.in_ok-whole.ensures.reads

pub conjunction-returns-clause-onward : goal.conjunction-returns-clause-onward
conjunction-returns-clause-onward t c = onward_then c.in_ok-first.ensures.onward c.in_ok-whole.ensures.onward

pub conjunction-returns-in_err-whole-clause-onward : goal.conjunction-returns-in_err-whole-clause-onward
conjunction-returns-in_err-whole-clause-onward t c = onward_then c.in_ok-first.ensures.onward c.in_err-whole.ensures.onward

pub disjunction-returns-clause-onward : goal.disjunction-returns-clause-onward
disjunction-returns-clause-onward t c = onward_then c.in_ok-first.ensures.onward c.in_ok-whole.ensures.onward

pub disjunction-returns-in_err-whole-clause-onward : goal.disjunction-returns-in_err-whole-clause-onward
disjunction-returns-in_err-whole-clause-onward t c = onward_then c.in_ok-first.ensures.onward c.in_err-whole.ensures.onward

pub formula-returns-in_err-second-in-Some-clause-onward : goal.formula-returns-in_err-second-in-Some-clause-onward
formula-returns-in_err-second-in-Some-clause-onward t c = onward_then c.in_ok-first.ensures.onward (onward_then c.in-Some.ensures.onward c.in_err-second-in-Some.ensures.onward)

pub formula-returns-in_err-binary-in-Some-clause-onward : goal.formula-returns-in_err-binary-in-Some-clause-onward
formula-returns-in_err-binary-in-Some-clause-onward t c = onward_then c.in_ok-first.ensures.onward (onward_then c.in-Some.ensures.onward c.in_ok-second-in-Some.ensures.onward)

pub formula-returns-in_ok-binary-in-Some-clause-onward : goal.formula-returns-in_ok-binary-in-Some-clause-onward
formula-returns-in_ok-binary-in-Some-clause-onward t c = onward_then c.in_ok-first.ensures.onward (onward_then c.in-Some.ensures.onward c.in_ok-second-in-Some.ensures.onward)

pub pair-returns-in_err-second-in-Some-clause-onward : goal.pair-returns-in_err-second-in-Some-clause-onward
pair-returns-in_err-second-in-Some-clause-onward t c = onward_then c.in_ok-first.ensures.onward (onward_then c.in-Some.ensures.onward c.in_err-second-in-Some.ensures.onward)

pub pair-returns-in_err-binary-in-Some-clause-onward : goal.pair-returns-in_err-binary-in-Some-clause-onward
pair-returns-in_err-binary-in-Some-clause-onward t c = onward_then c.in_ok-first.ensures.onward (onward_then c.in-Some.ensures.onward c.in_ok-second-in-Some.ensures.onward)

pub pair-returns-in_ok-binary-in-Some-clause-onward : goal.pair-returns-in_ok-binary-in-Some-clause-onward
pair-returns-in_ok-binary-in-Some-clause-onward t c = onward_then c.in_ok-first.ensures.onward (onward_then c.in-Some.ensures.onward c.in_ok-second-in-Some.ensures.onward)

pub nested_unary-returns-in_err-inner-in-Some-clause-onward : goal.nested_unary-returns-in_err-inner-in-Some-clause-onward
nested_unary-returns-in_err-inner-in-Some-clause-onward t c = onward_then c.in-Some.ensures.onward c.in_err-inner-in-Some.ensures.onward

pub nested_unary-returns-in_err-new-in-Some-clause-onward : goal.nested_unary-returns-in_err-new-in-Some-clause-onward
nested_unary-returns-in_err-new-in-Some-clause-onward t c = onward_then c.in-Some.ensures.onward c.in_ok-inner-in-Some.ensures.onward

pub nested_unary-returns-in_ok-new-in-Some-clause-onward : goal.nested_unary-returns-in_ok-new-in-Some-clause-onward
nested_unary-returns-in_ok-new-in-Some-clause-onward t c = onward_then c.in-Some.ensures.onward c.in_ok-inner-in-Some.ensures.onward
