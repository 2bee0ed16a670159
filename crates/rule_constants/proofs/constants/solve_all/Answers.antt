use Rattle.std.proofs.Common.{◌≡◌, ℕ, Bool, true, false, Some, sym, ap, subst, ◌∙◌, arith}
use Rattle.std.specs.Prelude.{slice_get}
use Rattle.tel_rule.specs.declared.statements.Statement.{Statement}
use Rattle.rule_constants.specs.Operands.{by_number}
use Rattle.rule_constants.specs.Solving.{Settles, IsFirstUnfit}
use Rattle.rule_constants.proofs.Definitions.{get-at, fine_more}
use Rattle.rule_constants.proofs.constants.solve_all.Goals as goal

pub loop-number-preserved : goal.loop-number-preserved
loop-number-preserved c =
    let S = c.args.statements.now in
    let n = c.loop-number.number in
    let s = c.index-statements-number.result in
    let at : slice_get S n ≡ Some s = get-at S n s (omega (arith, c.loop-number-test.true)) ∙ ap (λ (x : Statement). Some x) (sym c.index-statements-number.is) in
    let fine : c.in-Ok-settled.fine ≡ true = grind (arith, c.if-not-fine.false) in
    let e = subst (λ (b : Bool). Settles S c.args.links.now c.loop-number.known.items n s.kind b c.settle-settled.new.known.items c.settle-settled.new.tried.items) fine c.in-Ok-settled.ensures in
    (e.0, fine_more S c.loop-number.known.items c.settle-settled.new.known.items n s c.loop-number.invariant.1 e.1 at e.2)

pub returns-then-not-fine-clause-fault : goal.returns-then-not-fine-clause-fault
returns-then-not-fine-clause-fault c = λ number is.
    let S = c.args.statements.now in
    let n = c.loop-number.number in
    let s = c.index-statements-number.result in
    let at : slice_get S n ≡ Some s = get-at S n s (omega (arith, c.loop-number-test.true)) ∙ ap (λ (x : Statement). Some x) (sym c.index-statements-number.is) in
    let unfit : c.in-Ok-settled.fine ≡ false = grind (arith, c.if-not-fine.true) in
    let e = subst (λ (b : Bool). Settles S c.args.links.now c.loop-number.known.items n s.kind b c.settle-settled.new.known.items c.settle-settled.new.tried.items) unfit c.in-Ok-settled.ensures in
    let same : n ≡ number = cc (is) in
    subst (λ (k : ℕ). IsFirstUnfit S c.args.links.now k) same ((s, at, e), (by_number c.loop-number.known.items, c.loop-number.invariant.0.sound, c.loop-number.invariant.1))
