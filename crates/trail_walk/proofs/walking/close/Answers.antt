use Rattle.std.proofs.Common.{◌≤◌, ℕ, List, sym, subst, arith}
use Rattle.std.specs.Prelude.{IsTrue}
use Rattle.clause_store.specs.Held.{Held, clauses_in}
use Rattle.lit_trail.specs.Sound.{IsSound}
use Rattle.watch_propagate.specs.Propagation.{are_below}
use Rattle.trail_walk.proofs.WaySteps.{within_wider}
use Rattle.trail_walk.proofs.walking.close.Goals as goal

pub returns-clause-ready : goal.returns-clause-ready
returns-clause-ready c =
    let done = c.propagate-outcome.ensures in
    let trail = c.propagate-outcome.new.trail in
    let wide : trail.vars ≤ c.propagate-outcome.new.store.vars = (let a = c.requires.ready.reserved in let b = done.vars in let d = done.reserved in omega (arith, a, b, d)) in
    record {
      sound = subst (λ (held : List Held). IsSound (clauses_in held) trail) (sym done.clauses) done.sound;
      below = subst (λ (held : List Held). IsTrue (are_below trail.vars (clauses_in held))) (sym done.clauses) (subst (λ (n : ℕ). IsTrue (are_below n (clauses_in c.args.store.now.clauses))) (sym done.vars) c.requires.ready.below);
      known = within_wider trail.vars c.propagate-outcome.new.store.vars trail.entries wide c.len-count.ensures.ordered.within;
      reserved = wide;
    }
