use Rattle.std.proofs.Common.{arith}
use Rattle.join_plans.specs.Join.{answers}
use Rattle.plan_search.specs.Steps.{plan_of}
use Rattle.live_bindings.proofs.Found.{body_terms, found_once, found_terms, are_live, are_more, sorted_few}
use Rattle.live_bindings.proofs.Planning.{runs, enough, env_terms, found_live}
use Rattle.live_bindings.proofs.finding.find_live_bindings.Goals as goal

pub search-requires-clause-plan : goal.search-requires-clause-plan
search-requires-clause-plan c =
    let planned = c.requires.planned in
    runs c.args.tables.now c.args.symbols.now c.args.steps.now c.args.places c.args.vars c.args.head.now c.args.body.now planned.0 planned.1 planned.2 c.in_ok-env.env c.in_ok-env.ensures

pub search-requires-clause-env : goal.search-requires-clause-env
search-requires-clause-env c =
    let planned = c.requires.planned in
    env_terms c.args.tables.now c.args.symbols.now c.args.steps.now c.args.places c.args.vars c.args.head.now c.args.body.now planned.0 planned.1 planned.2 c.in_ok-env.env c.in_ok-env.ensures

pub search-requires-clause-vars : goal.search-requires-clause-vars
search-requires-clause-vars c =
    let planned = c.requires.planned in
    enough c.args.tables.now c.args.symbols.now c.args.steps.now c.args.places c.args.vars c.args.head.now c.args.body.now planned.0 planned.1 planned.2 c.in_ok-env.env c.in_ok-env.ensures

pub search-requires-clause-test : goal.search-requires-clause-test
search-requires-clause-test c =
    let planned = c.requires.planned in (
      body_terms c.args.symbols.now c.args.vars c.args.head.now c.args.body.now planned.2.within,
      enough c.args.tables.now c.args.symbols.now c.args.steps.now c.args.places c.args.vars c.args.head.now c.args.body.now planned.0 planned.1 planned.2 c.in_ok-env.env c.in_ok-env.ensures,
    )

pub returns-then-len-most-clause-large : goal.returns-then-len-most-clause-large
returns-then-len-most-clause-large c = λ statements rows planned.
    let live = found_live c.args.tables.now c.args.symbols.now c.args.steps.now c.args.places c.args.vars c.args.head.now c.args.body.now statements rows planned c.in_ok-env.env c.in_ok-env.ensures in
    are_more statements c.args.symbols.now c.args.vars c.args.head.now c.args.body.now (answers (plan_of c.args.tables.now c.args.symbols.now c.args.steps.now) c.in_ok-env.env) live c.args.most c.in_ok-live.live.items c.in_ok-live.ensures (omega (arith, c.len.ensures, c.in_ok-live.live.ok.0, c.if-len-most.true))

pub sort_bindings-requires-clause-once : goal.sort_bindings-requires-clause-once
sort_bindings-requires-clause-once c =
    let planned = c.requires.planned in
    let live = found_live c.args.tables.now c.args.symbols.now c.args.steps.now c.args.places c.args.vars c.args.head.now c.args.body.now planned.0 planned.1 planned.2 c.in_ok-env.env c.in_ok-env.ensures in
    found_once planned.0 c.args.symbols.now c.args.vars c.args.head.now c.args.body.now (answers (plan_of c.args.tables.now c.args.symbols.now c.args.steps.now) c.in_ok-env.env) live c.args.most c.in_ok-live.live.items c.in_ok-live.ensures (omega (arith, c.len.ensures, c.in_ok-live.live.ok.0, c.if-len-most.false))

pub sort_bindings-requires-clause-terms : goal.sort_bindings-requires-clause-terms
sort_bindings-requires-clause-terms c =
    let planned = c.requires.planned in
    let live = found_live c.args.tables.now c.args.symbols.now c.args.steps.now c.args.places c.args.vars c.args.head.now c.args.body.now planned.0 planned.1 planned.2 c.in_ok-env.env c.in_ok-env.ensures in
    found_terms planned.0 c.args.symbols.now c.args.vars c.args.head.now c.args.body.now (answers (plan_of c.args.tables.now c.args.symbols.now c.args.steps.now) c.in_ok-env.env) live c.args.most c.in_ok-live.live.items c.in_ok-live.ensures (omega (arith, c.len.ensures, c.in_ok-live.live.ok.0, c.if-len-most.false))

pub returns-clause-live : goal.returns-clause-live
returns-clause-live c = λ statements rows planned.
    let live = found_live c.args.tables.now c.args.symbols.now c.args.steps.now c.args.places c.args.vars c.args.head.now c.args.body.now statements rows planned c.in_ok-env.env c.in_ok-env.ensures in
    are_live statements c.args.symbols.now c.args.vars c.args.head.now c.args.body.now (answers (plan_of c.args.tables.now c.args.symbols.now c.args.steps.now) c.in_ok-env.env) live c.args.most c.in_ok-live.live.items c.in_ok-live.ensures (omega (arith, c.len.ensures, c.in_ok-live.live.ok.0, c.if-len-most.false))
    c.sort_bindings.new.bindings.items c.in_ok-sort_bindings.ensures.rise c.in_ok-sort_bindings.ensures.members

pub returns-clause-few : goal.returns-clause-few
returns-clause-few c =
    let planned = c.requires.planned in
    let live = found_live c.args.tables.now c.args.symbols.now c.args.steps.now c.args.places c.args.vars c.args.head.now c.args.body.now planned.0 planned.1 planned.2 c.in_ok-env.env c.in_ok-env.ensures in
    sorted_few planned.0 c.args.symbols.now c.args.vars c.args.head.now c.args.body.now (answers (plan_of c.args.tables.now c.args.symbols.now c.args.steps.now) c.in_ok-env.env) live c.args.most c.in_ok-live.live.items c.in_ok-live.ensures (omega (arith, c.len.ensures, c.in_ok-live.live.ok.0, c.if-len-most.false))
    c.sort_bindings.new.bindings.items c.in_ok-sort_bindings.ensures.rise c.in_ok-sort_bindings.ensures.members
