use Rattle.std.proofs.Common.{◌≡◌, ℕ, true, List, sym, ap, subst, ◌∙◌}
use Rattle.std.specs.Prelude.{Some}
use Rattle.lit_trail.specs.declared.assignment.Entry.{Entry}
use Rattle.clause_store.specs.Held.{Held, clauses_in}
use Rattle.lit_trail.specs.Entries.{back, decision_in}
use Rattle.lit_trail.specs.Levels.{AreLevels}
use Rattle.lit_trail.specs.Sound.{holds, ReasonsHold}
use Rattle.trail_walk.proofs.WaySteps.{false_at_first, end_conflict, value_false, value_true, ended_open}
use Rattle.trail_walk.proofs.walking.open_end.Goals as goal

pub returns-in-Conflict-clause-opens : goal.returns-in-Conflict-clause-opens
returns-in-Conflict-clause-opens c =
    let trail = c.close.new.trail in
    let clauses = clauses_in c.args.store.now.clauses in
    let reasons = subst (λ (held : List Held). ReasonsHold (clauses_in held) trail.entries) c.close.ensures.clauses c.close.ensures.ready.sound.reasons in
    let levels = subst (λ (n : ℕ). AreLevels n trail.entries) (c.close.ensures.level ∙ c.requires.level) c.close.ensures.levels in
    (c.close.ensures.level ∙ c.requires.level, false_at_first clauses trail.entries c.args.end c.in-Conflict.field-0 reasons levels c.close.ensures.ordered.opened c.in-Conflict.ensures.conflict)

pub returns-in-Some-false-clause-opens : goal.returns-in-Some-false-clause-opens
returns-in-Some-false-clause-opens c =
    let trail = c.close.new.trail in
    let clauses = clauses_in c.args.store.now.clauses in
    let reasons = subst (λ (held : List Held). ReasonsHold (clauses_in held) trail.entries) c.close.ensures.clauses c.close.ensures.ready.sound.reasons in
    let levels = subst (λ (n : ℕ). AreLevels n trail.entries) (c.close.ensures.level ∙ c.requires.level) c.close.ensures.levels in
    (c.close.ensures.level ∙ c.requires.level, end_conflict clauses trail.entries c.args.end reasons levels c.close.ensures.ordered.opened (value_false trail.entries c.args.end (sym c.in-Some-false.ensures ∙ ap Some c.in-Some-false.field-0-test)))

pub returns-in-Some-true-clause-opens : goal.returns-in-Some-true-clause-opens
returns-in-Some-true-clause-opens c =
    let trail = c.close.new.trail in
    let levels = subst (λ (n : ℕ). AreLevels n trail.entries) (c.close.ensures.level ∙ c.requires.level) c.close.ensures.levels in
    let ended = ended_open trail.entries c.args.end levels (value_true trail.entries c.args.end (sym c.in-Some-true.ensures ∙ ap Some c.in-Some-true.field-0-test)) in
    let same = c.open_level.ensures.entries in (
      c.open_level.ensures.level,
      record {
        holds_there = subst (λ (es : List Entry). holds (back 1 es) c.args.end ≡ true) (sym same) ended.0;
        first = λ lit is. ended.1 lit (ap (λ (es : List Entry). decision_in es 1) (sym same) ∙ is);
      },
    )
