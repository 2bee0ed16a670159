use Rattle.std.proofs.Common.{◌≡◌, ℕ, List, sym, ap, subst, ◌∙◌, arith}
use Rattle.std.specs.Prelude.{Option}
use Rattle.clause_store.specs.Held.{clauses_in}
use Rattle.clause_store.specs.Closure.{Clause}
use Rattle.lit_trail.specs.Sound.{IsClosedTrail, IsSound}
use Rattle.watch_propagate.specs.Propagation.{IsFalseClause}
use Rattle.unfounded_sets.specs.declared.founded.LoopNogood.{LoopNogood}
use Rattle.unfounded_sets.specs.LoopClauses.{Answers}
use Rattle.search_laws.specs.Walks.{IsClosedWalk}
use Rattle.cdcl_search.specs.declared.steps.Step.TheVariants as steps
use Rattle.cdcl_search.specs.Searches.{Begun, clauses_of, ending_of, view_of, IsLength, IsSearch}
use Rattle.cdcl_search.specs.Advancing.{IsStuck, IsTotal}
use Rattle.cdcl_search.specs.Steps.{Steps, IsAtFound, IsUsedUp, Allows}
use Rattle.cdcl_search.proofs.KeptLists.{kept_clauses}
use Rattle.cdcl_search.proofs.Finding.{found_at, needed_at, cuts_at, stuck_needed, stuck_cuts}
use Rattle.cdcl_search.proofs.Answered.{alike, holds_same, needed_alike, cuts_alike, added_alike, at_begun}
use Rattle.cdcl_search.proofs.search.Search.next.Goals as goal

pub returns-then-is_used_up-clause-step : goal.returns-then-is_used_up-clause-step
returns-then-is_used_up-clause-step g c =
    let i = c.self.inside in
    let adv = c.advance-advanced in
    let begun = c.in-Some.begun in
    let same = adv.ensures.clauses in
    let old = view_of i.ground i.store i.lengths.items i.trail i.loops.items i.begun in
    let mid = view_of i.ground adv.new.store i.lengths.items adv.new.trail i.loops.items i.begun in
    let before : clauses_of old ≡ clauses_in i.store.clauses = kept_clauses i.store.clauses i.lengths.items in
    let stuck = c.in-Stuck.ensures.advances in
    let needed = stuck_needed old begun adv.new.trail (subst (λ (cs : List Clause). IsStuck cs begun adv.new.trail) (sym before) stuck.1) in
    let used = subst (λ (n : ℕ). IsUsedUp c.args.budget n) (ap (λ (b : Begun). b.counted) c.begun.view_is) c.if-is_used_up.ensures in
    at_begun (λ v b. Steps v mid b c.args.budget steps.Spent) old c.args.self.now begun c.self.view_is c.in-Some.is (holds_same i.ground i.store adv.new.store i.lengths.items i.trail adv.new.trail i.loops.items i.begun same, used, needed)

pub learn-requires-clause-conflict : goal.learn-requires-clause-conflict
learn-requires-clause-conflict g c =
    let i = c.self.inside in
    let adv = c.advance-advanced in
    let same = adv.ensures.clauses in
    let mid = view_of i.ground adv.new.store i.lengths.items adv.new.trail i.loops.items i.begun in
    let now : clauses_of mid ≡ clauses_in i.store.clauses = kept_clauses adv.new.store.clauses i.lengths.items ∙ ap clauses_in same in
    subst (λ (cs : List Clause). IsFalseClause cs adv.new.trail.entries c.in-Stuck.conflict) (sym now) c.in-Stuck.ensures.advances.0

pub returns-then-is_used_up-2-clause-step : goal.returns-then-is_used_up-2-clause-step
returns-then-is_used_up-2-clause-step g c =
    let i = c.self.inside in
    let adv = c.advance-advanced in
    let begun = c.in-Some.begun in
    let same = adv.ensures.clauses in
    let old = view_of i.ground i.store i.lengths.items i.trail i.loops.items i.begun in
    let mid = view_of i.ground adv.new.store i.lengths.items adv.new.trail i.loops.items i.begun in
    let now : clauses_of mid ≡ clauses_in i.store.clauses = kept_clauses adv.new.store.clauses i.lengths.items ∙ ap clauses_in same in
    let like = alike i.ground i.store adv.new.store i.lengths.items i.trail adv.new.trail i.loops.items i.begun same adv.ensures.vars in
    let sound : IsSound (clauses_of mid) adv.new.trail = subst (λ (cs : List Clause). IsSound cs adv.new.trail) (sym (kept_clauses adv.new.store.clauses i.lengths.items)) adv.ensures.ready.sound in
    let search = subst (λ (o : Option Begun). IsSearch i.store i.trail i.scratch.vars i.lengths.items o) c.in-Some.is c.self.invariant in
    let length = subst (λ (n : ℕ). IsLength n begun) (sym adv.ensures.vars) search.at.length in
    let total = subst (λ (cs : List Clause). IsTotal cs begun adv.new.trail) (sym now) c.in-Total.ensures.advances in
    let answer = subst (λ (a : Option LoopNogood). Answers i.ground adv.new.trail.entries a) c.in-Some-2.is c.in_ok-find-in-Total.ensures in
    let needed = needed_alike old mid begun like (λ modules of. needed_at mid begun sound c.len-count.ensures.levels c.len-count.ensures.ordered length total modules of c.in-Some-2.nogood answer) in
    let used = subst (λ (n : ℕ). IsUsedUp c.args.budget n) (ap (λ (b : Begun). b.counted) c.begun-in-Some-2.view_is) c.if-is_used_up-2.ensures in
    at_begun (λ v b. Steps v mid b c.args.budget steps.Spent) old c.args.self.now begun c.self.view_is c.in-Some.is (holds_same i.ground i.store adv.new.store i.lengths.items i.trail adv.new.trail i.loops.items i.begun same, used, needed)

pub add_loop-requires-clause-level : goal.add_loop-requires-clause-level
add_loop-requires-clause-level g c =
    let total = c.in-Total.ensures.advances in
    let level = total.way.level in
    omega (arith, level)

pub add_loop-requires-clause-closed : goal.add_loop-requires-clause-closed
add_loop-requires-clause-closed g c =
    let i = c.self.inside in
    let adv = c.advance-advanced in
    let same = adv.ensures.clauses in
    let mid = view_of i.ground adv.new.store i.lengths.items adv.new.trail i.loops.items i.begun in
    let now : clauses_of mid ≡ clauses_in i.store.clauses = kept_clauses adv.new.store.clauses i.lengths.items ∙ ap clauses_in same in
    let total = c.in-Total.ensures.advances in
    subst (λ (cs : List Clause). IsClosedTrail cs adv.new.trail.entries) (sym now) total.closed

pub returns-in-Closed-clause-step : goal.returns-in-Closed-clause-step
returns-in-Closed-clause-step g c =
    let i = c.self.inside in
    let adv = c.advance-advanced in
    let begun = c.in-Some.begun in
    let same = adv.ensures.clauses in
    let old = view_of i.ground i.store i.lengths.items i.trail i.loops.items i.begun in
    let mid = view_of i.ground adv.new.store i.lengths.items adv.new.trail i.loops.items i.begun in
    let before : clauses_of old ≡ clauses_in i.store.clauses = kept_clauses i.store.clauses i.lengths.items in
    let closed = subst (λ (cs : List Clause). IsClosedWalk cs (ending_of begun)) (sym before) c.in-Closed.ensures.advances.0 in
    at_begun (λ v b. Steps v mid b c.args.budget steps.Closed) old c.args.self.now begun c.self.view_is c.in-Some.is (holds_same i.ground i.store adv.new.store i.lengths.items i.trail adv.new.trail i.loops.items i.begun same, closed)

pub returns-in_ok-id-in-Stuck-clause-step : goal.returns-in_ok-id-in-Stuck-clause-step
returns-in_ok-id-in-Stuck-clause-step g c =
    let i = c.self.inside in
    let adv = c.advance-advanced in
    let begun = c.in-Some.begun in
    let same = adv.ensures.clauses in
    let old = view_of i.ground i.store i.lengths.items i.trail i.loops.items i.begun in
    let mid = view_of i.ground adv.new.store i.lengths.items adv.new.trail i.loops.items i.begun in
    let before : clauses_of old ≡ clauses_in i.store.clauses = kept_clauses i.store.clauses i.lengths.items in
    let like = alike i.ground i.store adv.new.store i.lengths.items i.trail adv.new.trail i.loops.items i.begun same adv.ensures.vars in
    let stuck = c.in-Stuck.ensures.advances in
    let added = c.in_ok-id-in-Stuck.ensures.added in
    let cuts = stuck_cuts old begun adv.new.trail (subst (λ (cs : List Clause). IsStuck cs begun adv.new.trail) (sym before) stuck.1) added.0.one.lits added.1 in
    let allows = subst (λ (n : ℕ). Allows c.args.budget n) (ap (λ (b : Begun). b.counted) c.begun.view_is) c.if-is_used_up.ensures in
    at_begun (λ v b. Steps v c.learn.new.self b c.args.budget (steps.Added c.in_ok-id-in-Stuck.id)) old c.args.self.now begun c.self.view_is c.in-Some.is (added_alike old mid c.learn.new.self begun c.in_ok-id-in-Stuck.id c.args.budget like added.0 allows cuts)

pub returns-in-None-2-clause-step : goal.returns-in-None-2-clause-step
returns-in-None-2-clause-step g c =
    let i = c.self.inside in
    let adv = c.advance-advanced in
    let begun = c.in-Some.begun in
    let same = adv.ensures.clauses in
    let old = view_of i.ground i.store i.lengths.items i.trail i.loops.items i.begun in
    let mid = view_of i.ground adv.new.store i.lengths.items adv.new.trail i.loops.items i.begun in
    let now : clauses_of mid ≡ clauses_in i.store.clauses = kept_clauses adv.new.store.clauses i.lengths.items ∙ ap clauses_in same in
    let sound : IsSound (clauses_of mid) adv.new.trail = subst (λ (cs : List Clause). IsSound cs adv.new.trail) (sym (kept_clauses adv.new.store.clauses i.lengths.items)) adv.ensures.ready.sound in
    let search = subst (λ (o : Option Begun). IsSearch i.store i.trail i.scratch.vars i.lengths.items o) c.in-Some.is c.self.invariant in
    let length = subst (λ (n : ℕ). IsLength n begun) (sym adv.ensures.vars) search.at.length in
    let total = subst (λ (cs : List Clause). IsTotal cs begun adv.new.trail) (sym now) c.in-Total.ensures.advances in
    let answer = subst (λ (a : Option LoopNogood). Answers i.ground adv.new.trail.entries a) c.in-None-2.is c.in_ok-find-in-Total.ensures in
    let level = total.way.level in
    let found : IsAtFound mid begun = λ modules of. found_at mid begun sound c.len-count.ensures.levels c.len-count.ensures.ordered length total modules of answer in
    at_begun (λ v b. Steps v mid b c.args.budget steps.Found) old c.args.self.now begun c.self.view_is c.in-Some.is (holds_same i.ground i.store adv.new.store i.lengths.items i.trail adv.new.trail i.loops.items i.begun same, omega (arith, level), found)

pub returns-in_ok-id-in-Some-2-clause-step : goal.returns-in_ok-id-in-Some-2-clause-step
returns-in_ok-id-in-Some-2-clause-step g c =
    let i = c.self.inside in
    let adv = c.advance-advanced in
    let begun = c.in-Some.begun in
    let same = adv.ensures.clauses in
    let old = view_of i.ground i.store i.lengths.items i.trail i.loops.items i.begun in
    let mid = view_of i.ground adv.new.store i.lengths.items adv.new.trail i.loops.items i.begun in
    let now : clauses_of mid ≡ clauses_in i.store.clauses = kept_clauses adv.new.store.clauses i.lengths.items ∙ ap clauses_in same in
    let like = alike i.ground i.store adv.new.store i.lengths.items i.trail adv.new.trail i.loops.items i.begun same adv.ensures.vars in
    let sound : IsSound (clauses_of mid) adv.new.trail = subst (λ (cs : List Clause). IsSound cs adv.new.trail) (sym (kept_clauses adv.new.store.clauses i.lengths.items)) adv.ensures.ready.sound in
    let search = subst (λ (o : Option Begun). IsSearch i.store i.trail i.scratch.vars i.lengths.items o) c.in-Some.is c.self.invariant in
    let length = subst (λ (n : ℕ). IsLength n begun) (sym adv.ensures.vars) search.at.length in
    let total = subst (λ (cs : List Clause). IsTotal cs begun adv.new.trail) (sym now) c.in-Total.ensures.advances in
    let answer = subst (λ (a : Option LoopNogood). Answers i.ground adv.new.trail.entries a) c.in-Some-2.is c.in_ok-find-in-Total.ensures in
    let added = c.in_ok-id-in-Some-2.ensures.added in
    let cuts = cuts_alike old mid begun added.0.one.lits like (λ modules of. cuts_at mid begun sound c.len-count.ensures.levels c.len-count.ensures.ordered length total modules of c.in-Some-2.nogood answer added.0.one.lits added.1) in
    let allows = subst (λ (n : ℕ). Allows c.args.budget n) (ap (λ (b : Begun). b.counted) c.begun-in-Some-2.view_is) c.if-is_used_up-2.ensures in
    at_begun (λ v b. Steps v c.add_loop.new.self b c.args.budget (steps.Added c.in_ok-id-in-Some-2.id)) old c.args.self.now begun c.self.view_is c.in-Some.is (added_alike old mid c.add_loop.new.self begun c.in_ok-id-in-Some-2.id c.args.budget like added.0 allows cuts)
