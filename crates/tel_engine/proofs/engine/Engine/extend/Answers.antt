use Rattle.std.proofs.Common.{◌∙◌, ◌+◌, ◌<◌, ◌≤◌, sym, ap, subst, arith}
use Rattle.std.proofs.lemmas.Bool.{false≢true}
use Rattle.tel_engine.specs.Engines.{View}
use Rattle.tel_engine.proofs.Steps.{usable_left, at_stays, step_vars, step_clauses, next_vars, at_next}
use Rattle.tel_engine.proofs.engine.Engine.extend.Goals as goal

pub extend-requires-clause-vars : goal.extend-requires-clause-vars
extend-requires-clause-vars g c =
    let i = c.self.inside in
    let engine = c.self.invariant in
    step_vars i.template i.length c.in_ok-step.step c.as_slice.result.now c.in_ok-step.ensures (c.as_slice.ensures.value ∙ c.in_ok-clauses.ensures)
    i.space engine.ground engine.counts (subst (λ (now : View). now.length < now.greatest) (sym c.self.view_is) c.requires.within) engine.small

pub extend-requires-clause-clauses : goal.extend-requires-clause-clauses
extend-requires-clause-clauses g c =
    let i = c.self.inside in
    step_clauses i.template i.length c.in_ok-step.step c.as_slice.result.now c.in_ok-step.ensures (c.as_slice.ensures.value ∙ c.in_ok-clauses.ensures)

pub invariant_of-self : goal.invariant_of-self
invariant_of-self g c =
    let i = c.self.inside in
    let engine = c.self.invariant in
    record {
      ground = engine.ground;
      counts = engine.counts;
      small = engine.small;
      within = engine.within;
      few = λ narrow. absurd (false≢true (sym narrow));
      at = at_stays i.template i.length i.search c.extend.new.self i.stage c.in_err-extend.ensures.err engine.at;
    }

pub invariant_of-self-2 : goal.invariant_of-self-2
invariant_of-self-2 g c =
    let i = c.self.inside in
    let engine = c.self.invariant in
    let within : i.length < i.space.greatest = subst (λ (now : View). now.length < now.greatest) (sym c.self.view_is) c.requires.within in
    let left = usable_left i.template i.length i.search i.stage engine.ground (λ lost. c.requires.usable (sym (ap (λ (now : View). now.stage) c.self.view_is) ∙ lost)) engine.at in
    let next : i.length + 1 ≤ i.space.greatest = omega arith in
    let added = c.in_ok-extend.ensures in
    record {
      ground = engine.ground;
      counts = engine.counts;
      small = engine.small;
      within = next;
      few = λ narrow. next_vars i.template i.length c.in_ok-step.step c.as_slice.result.now c.in_ok-step.ensures (c.as_slice.ensures.value ∙ c.in_ok-clauses.ensures) i.search c.extend.new.self engine.ground (engine.few narrow) added.vars;
      at = at_next i.template i.length c.in_ok-step.step c.as_slice.result.now c.in_ok-step.ensures (c.as_slice.ensures.value ∙ c.in_ok-clauses.ensures) i.search c.extend.new.self left
          (record { rules = added.ground.0; parts = added.ground.1; kept = added.kept; vars = added.vars });
    }
