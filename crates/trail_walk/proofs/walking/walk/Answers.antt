use Rattle.std.proofs.Common.{◌≡◌, ℕ, ◌+◌, min, List, ◌∷◌, sym, ap, subst, ◌∙◌, arith}
use Rattle.std.specs.Prelude.{None, IsTrue}
use Rattle.std.specs.List.{find}
use Rattle.tel_base.specs.declared.literals.Lit.{Lit}
use Rattle.tel_base.specs.Literals.{negate}
use Rattle.clause_store.specs.Held.{Held, clauses_in}
use Rattle.normal_program.specs.ModuleClauses.{no_lit}
use Rattle.lit_trail.specs.Entries.{spot_in}
use Rattle.lit_trail.specs.Levels.{AreWithin}
use Rattle.lit_trail.specs.Sound.{IsClosedTrail, IsSound}
use Rattle.lit_trail.specs.Unassigned.{is_open, visible_below}
use Rattle.watch_propagate.specs.Propagation.{are_below, IsFalseClause}
use Rattle.trail_walk.proofs.WalkEnding.{total_end, conflict_end}
use Rattle.trail_walk.proofs.WaySteps.{way_implied, way_decided, found_in, open_free}
use Rattle.trail_walk.proofs.walking.walk.Goals as goal

pub returns-in-Conflict-clause-way : goal.returns-in-Conflict-clause-way
returns-in-Conflict-clause-way c length spans way =
    let done = c.close.ensures in
    way_implied length c.deciding.trail c.close.new.trail done.grown done.level done.levels done.ordered.apart (c.deciding.invariant.5 length spans way)

pub returns-in-None-clause-way : goal.returns-in-None-clause-way
returns-in-None-clause-way c length spans way =
    let done = c.close.ensures in
    way_implied length c.deciding.trail c.close.new.trail done.grown done.level done.levels done.ordered.apart (c.deciding.invariant.5 length spans way)

pub decide-requires-clause-free : goal.decide-requires-clause-free
decide-requires-clause-free c =
    let entries = c.close.new.trail.entries in
    let visible = visible_below c.args.space.now.counts (min c.args.n (c.args.space.now.greatest + 1)) in
    let var_is : c.negated.result.var ≡ c.in-Some.var = ap (λ (lit : Lit). lit.var) (c.negated.ensures ∙ ap negate c.of.ensures) in
    ap (spot_in entries) var_is ∙ open_free entries c.in-Some.var (found_in (is_open entries) visible c.in-Some.var (sym c.in-Some.ensures)).1

pub decide-requires-clause-within : goal.decide-requires-clause-within
decide-requires-clause-within c =
    let entries = c.close.new.trail.entries in
    let visible = visible_below c.args.space.now.counts (min c.args.n (c.args.space.now.greatest + 1)) in
    let var_is : c.negated.result.var ≡ c.in-Some.var = ap (λ (lit : Lit). lit.var) (c.negated.ensures ∙ ap negate c.of.ensures) in
    let below = c.requires.within c.in-Some.var (found_in (is_open entries) visible c.in-Some.var (sym c.in-Some.ensures)).0 in
    let vars = c.close.ensures.vars in
    let before = c.deciding.invariant.3 in
    omega (arith, var_is, below, vars, before)

pub deciding-preserved : goal.deciding-preserved
deciding-preserved c =
    let done = c.close.ensures in
    let old = c.close.new.trail in
    let new = c.decide.new.self in
    let store = c.close.new.store in
    let v = c.in-Some.var in
    let lit_is : c.negated.result ≡ no_lit v = c.negated.ensures ∙ ap negate c.of.ensures in
    let entries = c.decide.ensures.entries ∙ ap (λ (lit : Lit). record { lit = lit; level = old.level + 1; reason = None } ∷ old.entries) lit_is in
    let visible = visible_below c.args.space.now.counts (min c.args.n (c.args.space.now.greatest + 1)) in
    let below = c.requires.within v (found_in (is_open old.entries) visible v (sym c.in-Some.ensures)).0 in
    let closed = subst (λ (held : List Held). IsClosedTrail (clauses_in held) old.entries) (sym done.clauses) c.in-Quiet.ensures.quiet in
    let wide = done.ready.reserved in
    let vars = done.vars in
    let same = c.decide.ensures.vars in
    let before = c.deciding.invariant.3 in
    let level = c.decide.ensures.level in (
      record {
        sound = c.decide.ensures.keeps (clauses_in store.clauses) closed done.ready.sound;
        below = subst (λ (n : ℕ). IsTrue (are_below n (clauses_in store.clauses))) (sym same) done.ready.below;
        known = subst (AreWithin store.vars) (sym entries) (omega (arith, below, wide, vars, before), done.ready.known);
        reserved = omega (arith, wide, same);
      },
      done.clauses ∙ c.deciding.invariant.1,
      done.reserved ∙ c.deciding.invariant.2,
      same ∙ vars ∙ before,
      omega (arith, level),
      λ length spans way. way_decided length old new v done.levels entries level (ap (λ (vs : List ℕ). find (is_open old.entries) vs) spans ∙ sym c.in-Some.ensures) (way_implied length c.deciding.trail old done.grown done.level done.levels done.ordered.apart (c.deciding.invariant.5 length spans way)),
    )

pub returns-in-Conflict-clause-walk : goal.returns-in-Conflict-clause-walk
returns-in-Conflict-clause-walk c length spans way =
    let done = c.close.ensures in
    let trail = c.close.new.trail in
    let sound = subst (λ (held : List Held). IsSound (clauses_in held) trail) (done.clauses ∙ c.deciding.invariant.1) done.ready.sound in
    let clash = subst (λ (held : List Held). IsFalseClause (clauses_in held) trail.entries c.in-Conflict.id) c.deciding.invariant.1 c.in-Conflict.ensures.conflict in
    conflict_end (clauses_in c.args.store.now.clauses) length trail c.in-Conflict.id sound done.levels done.ordered.opened clash (returns-in-Conflict-clause-way c length spans way)

pub returns-in-None-clause-walk : goal.returns-in-None-clause-walk
returns-in-None-clause-walk c length spans way =
    let done = c.close.ensures in
    let trail = c.close.new.trail in
    let sound = subst (λ (held : List Held). IsSound (clauses_in held) trail) (done.clauses ∙ c.deciding.invariant.1) done.ready.sound in
    let closed = subst (λ (held : List Held). IsClosedTrail (clauses_in held) trail.entries) c.deciding.invariant.1 c.in-Quiet.ensures.quiet in
    total_end (clauses_in c.args.store.now.clauses) length c.args.space.now c.args.n trail spans sound done.levels done.ordered.opened closed (sym c.in-None.ensures) (returns-in-None-clause-way c length spans way)
