use Rattle.std.proofs.Common.{◌∙◌, sym}
use Rattle.clause_store.specs.Held.{clauses_in}
use Rattle.watch_propagate.specs.Propagation.{Grown}
use Rattle.watch_propagate.proofs.Looking.{grown_then, quiet_closure, quiet_closed, false_conflict}
use Rattle.watch_propagate.proofs.unit_rule.propagate.Goals as goal

pub returns-in-Some-clause-grown : goal.returns-in-Some-clause-grown
returns-in-Some-clause-grown c = grown_then _ _ _ _ _ c.rounds.invariant.grown c.rounds.invariant.level c.look_once.ensures.grown

pub returns-in-Some-clause-conflict : goal.returns-in-Some-clause-conflict
returns-in-Some-clause-conflict c =
    let grown : Grown c.args.trail.now.level c.args.trail.now.entries c.look_once.new.trail.entries = grown_then _ _ _ _ _ c.rounds.invariant.grown c.rounds.invariant.level c.look_once.ensures.grown in
    (c.in-Some.ensures.found, false_conflict (clauses_in c.args.store.now.clauses) c.args.trail.now.level c.in-Some.id c.args.trail.now.entries c.look_once.new.trail.entries c.look_once.ensures.sound.reasons grown c.in-Some.ensures.found)

pub returns-then-len-before-clause-grown : goal.returns-then-len-before-clause-grown
returns-then-len-before-clause-grown c = grown_then _ _ _ _ _ c.rounds.invariant.grown c.rounds.invariant.level c.look_once.ensures.grown

pub returns-then-len-before-clause-quiet : goal.returns-then-len-before-clause-quiet
returns-then-len-before-clause-quiet c =
    let grown : Grown c.args.trail.now.level c.args.trail.now.entries c.look_once.new.trail.entries = grown_then _ _ _ _ _ c.rounds.invariant.grown c.rounds.invariant.level c.look_once.ensures.grown in
    quiet_closure (clauses_in c.args.store.now.clauses) c.args.trail.now.level c.args.trail.now.entries c.look_once.new.trail.entries c.len.ensures.ordered.apart c.look_once.ensures.sound.reasons grown (c.in_default.ensures.quiet (sym c.len.ensures.count ∙ c.if-len-before.true ∙ c.len-before.ensures.count))

pub returns-then-len-before-clause-closed : goal.returns-then-len-before-clause-closed
returns-then-len-before-clause-closed c =
    quiet_closed (clauses_in c.args.store.now.clauses) c.look_once.new.trail.entries c.len.ensures.ordered.apart c.look_once.ensures.sound.reasons (c.in_default.ensures.quiet (sym c.len.ensures.count ∙ c.if-len-before.true ∙ c.len-before.ensures.count))

pub rounds-preserved : goal.rounds-preserved
rounds-preserved c = record {
  sound = c.look_once.ensures.sound;
  grown = grown_then _ _ _ _ _ c.rounds.invariant.grown c.rounds.invariant.level c.look_once.ensures.grown;
  level = c.look_once.ensures.level ∙ c.rounds.invariant.level;
  vars = c.look_once.ensures.vars ∙ c.rounds.invariant.vars;
}
