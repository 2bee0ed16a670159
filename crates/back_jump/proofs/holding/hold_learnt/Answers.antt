use Rattle.std.proofs.Common.{ℕ, List, [], ◌∷◌, ◌++◌, sym, ap, subst, ◌∙◌, arith}
use Rattle.clause_store.specs.declared.store.ClauseKind.TheVariants as kinds
use Rattle.clause_store.specs.Held.{Held, clauses_in}
use Rattle.lit_trail.specs.declared.assignment.Entry.{Entry}
use Rattle.lit_trail.specs.Entries.{back}
use Rattle.clause_learn.specs.LearntClause.{IsAsserting}
use Rattle.back_jump.proofs.SecondLevels.{settled_below, learnt_second}
use Rattle.back_jump.proofs.Conflicts.{false_has_more, asserting_free}
use Rattle.back_jump.proofs.holding.hold_learnt.Goals as goal

pub learn-learnt-requires-clause-left : goal.learn-learnt-requires-clause-left
learn-learnt-requires-clause-left c =
    let known = c.len-count.ensures in
    false_has_more (clauses_in c.args.store.now.clauses) c.args.trail.now c.args.conflict known.ordered.apart known.levels c.requires.ready.sound c.requires.level c.requires.conflict

pub hold-requires-clause-settled : goal.hold-requires-clause-settled
hold-requires-clause-settled c =
    let known = c.len-count.ensures in
    let learnt = c.learn-learnt.ensures in
    let entries = c.args.trail.now.entries in
    let lits = c.learn-learnt.result.lits.now in
    let at = learnt.level in
    let low = learnt.lower in
    let second = learnt_second c.args.trail.now.level entries lits learnt.learnt.first (omega (arith, at, low)) in
    settled_below c.args.trail.now.vars c.args.trail.now.level _ entries lits known.ordered.apart known.levels learnt.learnt.distinct (omega (arith, at, second))

pub returns-clause-learns : goal.returns-clause-learns
returns-clause-learns c =
    let learnt = c.learn-learnt.ensures in
    let done = c.hold.ensures in
    let old = c.args.trail.now in
    let clauses = clauses_in c.args.store.now.clauses in
    let level = c.learn-learnt.result.level in
    let low = learnt.lower in
    let at = done.level in
    record {
      lits = c.learn-learnt.result.lits.now;
      learnt = learnt.learnt;
      added = done.added ∙ ap (λ (held : List Held). held ++ record { kind = kinds.Learnt; lits = c.learn-learnt.result.lits.now } ∷ []) c.in_ok-reserve.ensures.clauses;
      free = asserting_free clauses c.learn-learnt.result.lits.now (back level old.entries) learnt.asserting (c.requires.ready.sound.below level low);
      level = at ∙ learnt.level;
      lower = omega (arith, at, low);
      entries = done.entries ∙ ap (λ (n : ℕ). back n old.entries) (sym at);
      asserting = subst (λ (es : List Entry). IsAsserting es c.learn-learnt.result.lits.now) (sym done.entries) learnt.asserting;
    }
