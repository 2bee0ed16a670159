use Rattle.std.proofs.Common.{◌∙◌, ap}
use Rattle.tel_engine.specs.Engines.{View}
use Rattle.tel_engine.proofs.Closed.{closed_none}
use Rattle.tel_engine.proofs.Steps.{extended_some, extended_visible, extended_ending}
use Rattle.tel_engine.proofs.engine.Engine.list_into.Goals as goal

pub begin-listing-requires-clause-some : goal.begin-listing-requires-clause-some
begin-listing-requires-clause-some g c =
    let i = c.self.inside in
    extended_some i.template i.space i.search i.length i.stage i.wide c.self.invariant (ap (λ (engine : View). engine.stage) c.self.view_is ∙ c.requires)

pub begin-listing-requires-clause-visible : goal.begin-listing-requires-clause-visible
begin-listing-requires-clause-visible g c =
    let i = c.self.inside in
    extended_visible i.template i.space i.search i.length i.stage i.wide c.self.invariant (ap (λ (engine : View). engine.stage) c.self.view_is ∙ c.requires)

pub begin-listing-requires-clause-ending : goal.begin-listing-requires-clause-ending
begin-listing-requires-clause-ending g c =
    let i = c.self.inside in
    extended_ending i.template i.space i.search i.length i.stage i.wide c.self.invariant (ap (λ (engine : View). engine.stage) c.self.view_is ∙ c.requires)

pub returns-then-self-clause-lists : goal.returns-then-self-clause-lists
returns-then-self-clause-lists g c = closed_none c.args.self.now.template c.args.self.now.length c.args.models c.args.conflicts (g.O.Sink.bytes c.args.out.now) (g.O.Sink.faults c.args.out.now)
