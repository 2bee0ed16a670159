use Rattle.std.proofs.Common.{subst, sym, List}
use Rattle.std.specs.Option.{option_copied}
use Rattle.tel_term.specs.declared.terms.Value.{Value}
use Rattle.live_instances.specs.Bindings.{is_value}
use Rattle.plan_search.specs.Steps.{AreTerms}
use Rattle.plan_search.proofs.Terms.{tried_in}
use Rattle.plan_search.proofs.searching.fits.Goals as goal

pub returns-in-Some-clause-terms : goal.returns-in-Some-clause-terms
returns-in-Some-clause-terms c = λ symbols all env.
    c.put_row.ensures.pass (is_value symbols)
    (subst (λ (row : List Value). AreTerms symbols row) (sym c.as_slice.ensures) (all c.in-Some.row.now (tried_in c.args.rows.now (option_copied c.args.frame.listed) c.args.frame.turn c.in-Some.row.now c.in-Some.ensures))) env
