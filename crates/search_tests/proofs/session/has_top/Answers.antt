use Rattle.std.proofs.Common.{◌∙◌, false, sym, get_or}
use Rattle.std.specs.Prelude.{◌==◌}
use Rattle.std.proofs.lemmas.Bool.{eqb-true}
use mathlib.Core.Bool.{beq}
use Rattle.tel_base.specs.declared.literals.Lit.{Lit}
use Rattle.clause_store.proofs.Levels.{In-at}
use Rattle.search_tests.proofs.Holding.{top_there, option_same, bool_same}
use Rattle.search_tests.proofs.session.has_top.Goals as goal

pub returns-then-eq-2 : goal.returns-then-eq-2
returns-then-eq-2 c t =
    let d : Lit = record { var = 0; positive = false } in
    top_there c.args.trail.now.entries c.args.clause.now (get_or c.args.clause.now c.loop-lit.lit-index d) c.args.level c.len-count.ensures.ordered.apart (In-at c.args.clause.now c.loop-lit.lit-index d c.loop-lit-test.true) (sym c.value.ensures ∙ option_same beq bool_same c.value.result false (sym c.eq.ensures ∙ c.if-eq.true)) (sym c.level_of.ensures ∙ option_same (λ a b. a == b) (λ a b h. eqb-true a b h) c.level_of.result c.args.level (sym c.eq-then-eq.ensures ∙ c.if-eq-2.true))
