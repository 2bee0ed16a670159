use Rattle.std.proofs.Common.{ap, sym, ◌∙◌, List}
use Rattle.tel_term.specs.declared.terms.Value.{Value}
use Rattle.tel_term.specs.Arithmetic.{expr_value}
use Rattle.live_instances.specs.Bindings.{is_value}
use Rattle.plan_search.proofs.Terms.{expr_term}
use Rattle.plan_search.proofs.searching.sets.Goals as goal

pub returns-in-Ok-clause-terms : goal.returns-in-Ok-clause-terms
returns-in-Ok-clause-terms c = λ symbols own all.
    c.put.ensures.pass (is_value symbols)
    (expr_term symbols c.args.env.now c.args.expr.now c.in-Ok.value all own (ap (λ (env : List Value). expr_value env c.args.expr.now) (sym c.as_slice.ensures) ∙ sym c.in-Ok.ensures)) all
