use Rattle.std.proofs.Common.{◌∙◌, ℕ, sym, subst}
use Rattle.rule_settings.specs.Said as settings
use Rattle.live_instances.specs.Reached.{set_by, LeavesRange}
use Rattle.plan_order.specs.Goals.{AreBelow}
use Rattle.range_faults.specs.Operations.{all_said}
use Rattle.range_faults.proofs.Ruled.{by_slices, tells_by}
use Rattle.range_faults.proofs.Searched.{set_below, long, runs, env_terms, tells_some, tells_none}
use Rattle.range_faults.proofs.rules.some_leaves.Goals as goal

pub search-requires-clause-plan : goal.search-requires-clause-plan
search-requires-clause-plan c =
    let r = c.requires in
    let exprs = all_said c.args.operations.now in
    let set = settings.all_said c.args.settings.now in
    let steps = c.as_slice-steps.result.now in
    let late = c.as_slice-late.result.now in
    let is = by_slices r.0 r.1 r.2 c.args.tables.now c.args.symbols.now r.3 r.4 r.5 r.6.rule_in exprs set c.args.plan.now.steps.items steps c.args.plan.now.places c.args.plan.now.late.items late c.as_slice-steps.ensures.value c.as_slice-late.ensures.value r.6 in
    runs r.0 r.1 r.2 c.args.tables.now c.args.symbols.now r.3 r.4 r.5 exprs set steps c.args.plan.now.places late is c.in_ok-env.env c.in_ok-env.ensures

pub search-requires-clause-terms : goal.search-requires-clause-terms
search-requires-clause-terms c =
    let r = c.requires in
    let is = by_slices r.0 r.1 r.2 c.args.tables.now c.args.symbols.now r.3 r.4 r.5 r.6.rule_in (all_said c.args.operations.now) (settings.all_said c.args.settings.now) c.args.plan.now.steps.items c.as_slice-steps.result.now c.args.plan.now.places c.args.plan.now.late.items c.as_slice-late.result.now c.as_slice-steps.ensures.value c.as_slice-late.ensures.value r.6 in
    is.plan.terms

pub search-requires-clause-rows : goal.search-requires-clause-rows
search-requires-clause-rows c = c.requires.6.rule_in.inside.program.terms

pub search-requires-clause-env : goal.search-requires-clause-env
search-requires-clause-env c =
    let r = c.requires in
    env_terms r.0 r.1 r.2 c.args.tables.now c.args.symbols.now r.3 r.4 r.5 (all_said c.args.operations.now) (settings.all_said c.args.settings.now) c.args.plan.now.steps.items c.args.plan.now.places c.args.plan.now.late.items r.6 c.in_ok-env.env c.in_ok-env.ensures

pub search-requires-clause-test : goal.search-requires-clause-test
search-requires-clause-test c =
    let r = c.requires in
    let exprs = all_said c.args.operations.now in
    let set = settings.all_said c.args.settings.now in
    let size = long r.0 r.1 r.2 c.args.tables.now c.args.symbols.now r.3 r.4 r.5 exprs set c.args.plan.now.steps.items c.args.plan.now.places c.args.plan.now.late.items r.6 c.in_ok-env.env c.in_ok-env.ensures in (
      c.in_ok-values.ensures ∙ sym size,
      c.in_ok-unset.ensures ∙ sym size,
      subst (λ (n : ℕ). AreBelow n (set_by set)) (sym size) (set_below r.0 r.1 r.2 c.args.tables.now c.args.symbols.now r.3 r.4 r.5 exprs set c.args.plan.now.steps.items c.args.plan.now.places c.args.plan.now.late.items r.6),
    )

pub returns : goal.returns
returns c = λ number statements rows rule head body search_is.
    let exprs = all_said c.args.operations.now in
    let set = settings.all_said c.args.settings.now in
    let steps = c.as_slice-steps.result.now in
    let late = c.as_slice-late.result.now in
    let is = by_slices number statements rows c.args.tables.now c.args.symbols.now rule head body search_is.rule_in exprs set c.args.plan.now.steps.items steps c.args.plan.now.places c.args.plan.now.late.items late c.as_slice-steps.ensures.value c.as_slice-late.ensures.value search_is in
    let searched = c.as_slice.ensures.value ∙ c.in_ok-found.ensures in
    tells_by c.is_some-some.result (LeavesRange statements c.args.symbols.now rule)
    (λ some. tells_some number statements rows c.args.tables.now c.args.symbols.now rule head body exprs set steps c.args.plan.now.places late is c.in_ok-env.env c.in_ok-env.ensures c.as_slice.result.now searched (c.is_some-some.ensures.some some))
    (λ none. tells_none number statements rows c.args.tables.now c.args.symbols.now rule head body exprs set steps c.args.plan.now.places late is c.in_ok-env.env c.in_ok-env.ensures c.as_slice.result.now searched (c.is_some-some.ensures.none none))
