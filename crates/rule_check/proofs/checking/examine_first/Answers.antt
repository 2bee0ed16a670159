use Rattle.std.proofs.Common.{◌≡◌, Some, sym, ap, ◌∙◌, arith}
use Rattle.std.specs.Prelude.{slice_get}
use Rattle.tel_rule.specs.declared.statements.Statement.{Statement}
use Rattle.rule_binding.specs.Heads.{tells}
use Rattle.rule_check.proofs.FirstCauses.{get-at, clear_more}
use Rattle.rule_check.proofs.checking.examine_first.Goals as goal

pub loop-number-preserved : goal.loop-number-preserved
loop-number-preserved c =
    let S = c.args.statements.now in
    let n = c.loop-number.number in
    let s = c.index-statements-number.result in
    let at : slice_get S n ≡ Some s = get-at S n s (omega (arith, c.loop-number-test.true, c.requires)) ∙ ap (λ (x : Statement). Some x) (sym c.index-statements-number.is) in
    clear_more (tells c.args.tables.now) S n s c.loop-number.invariant at c.in-Ok.ensures.ok
