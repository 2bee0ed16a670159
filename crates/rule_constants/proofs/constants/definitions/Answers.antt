use Rattle.std.proofs.Common.{◌≡◌, ℕ, List, Option, Some, take, sym, ap, ◌∙◌, arith}
use Rattle.std.specs.Prelude.{slice_get}
use Rattle.tel_rule.specs.declared.statements.Statement.{Statement}
use Rattle.rule_constants.specs.Constants.{definition_of}
use Rattle.rule_constants.specs.Solving.{noted}
use Rattle.rule_constants.proofs.Definitions.{definition_more, take-get_more, length-take_within, get-at}
use Rattle.rule_constants.proofs.constants.definitions.Goals as goal

pub loop-number-preserved : goal.loop-number-preserved
loop-number-preserved c =
    let S = c.args.statements.now in
    let n = c.loop-number.number in
    let s = c.index-statements-number.result in
    let at : slice_get S n ≡ Some s = get-at S n s (omega (arith, c.loop-number-test.true)) ∙ ap (λ (x : Statement). Some x) (sym c.index-statements-number.is) in
    λ name. c.in_ok-note.ensures name
    ∙ ap (λ (o : Option ℕ). noted o s.kind name n) (c.loop-number.invariant name)
    ∙ sym (ap (λ (xs : List Statement). definition_of xs name) (take-get_more S n s at) ∙ definition_more (take n S) s name ∙ ap (λ (k : ℕ). noted (definition_of (take n S) name) s.kind name k) (length-take_within S n s at))
