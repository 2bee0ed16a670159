use Rattle.std.proofs.Common.{◌∙◌, List, sym, subst, ap, length, refl, inl, arith}
use Rattle.std.proofs.lemmas.Bool.{false≢true}
use Rattle.std.proofs.lemmas.List.{length-map}
use Rattle.tel_base.specs.declared.literals.Lit.{Lit}
use Rattle.tel_base.specs.Literals.{negate}
use Rattle.clause_store.specs.Held.{Held, clauses_in, clause_at}
use Rattle.clause_store.specs.Closure.{In, Lits}
use Rattle.tel_base.proofs.Members.{In-list_all}
use Rattle.clause_store.proofs.Levels.{at_held}
use Rattle.lit_trail.specs.Entries.{back}
use Rattle.lit_trail.specs.Sound.{holds}
use Rattle.clause_learn.specs.FirstUip.{set_of, first_uip}
use Rattle.clause_learn.specs.LearntClause.{highest, IsLearnt, IsAsserting}
use Rattle.clause_learn.specs.Noted.{joined, unmarked, IsNoted}
use Rattle.clause_learn.specs.Room.{AreClear}
use Rattle.clause_learn.proofs.LearntSteps.{no_lits, noted_empty, set_joined, first_room, first_range, length_unmarked, cleared, is_learnt, lower_back, is_asserting}
use Rattle.clause_learn.proofs.learning.resolve_conflict.Goals as goal

pub add-requires-clause-noted : goal.add-requires-clause-noted
add-requires-clause-noted c = (no_lits, noted_empty c.args.trail.now _ c.requires.scratch.clear c.clear.ensures.items refl)

pub add-requires-clause-clause : goal.add-requires-clause-clause
add-requires-clause-clause c lit i =
    let is = c.clause.ensures.lits ∙ at_held c.args.store.now.clauses c.args.id.place in
    let clause = clause_at (clauses_in c.args.store.now.clauses) c.args.id.place in
    inl (In-list_all (λ (l : Lit). holds c.args.trail.now.entries (negate l)) lit clause c.requires.refuted (subst (λ (xs : List Lit). In lit xs) is i))

pub resolve-first-requires-clause-noted : goal.resolve-first-requires-clause-noted
resolve-first-requires-clause-noted c =
    let trail = c.args.trail.now in
    let clauses = clauses_in c.args.store.now.clauses in
    let clause = clause_at clauses c.args.id.place in
    let is = c.clause.ensures.lits ∙ at_held c.args.store.now.clauses c.args.id.place in
    let noted : IsNoted trail (set_of clause) c.add.new.self = subst (λ (X : Lits). IsNoted trail X c.add.new.self) (ap (joined trail.entries no_lits) is ∙ set_joined trail.entries clause c.requires.refuted) (c.add.ensures.noted no_lits (noted_empty trail _ c.requires.scratch.clear c.clear.ensures.items refl)) in
    (set_of clause, noted, c.requires.left)

pub unreachable-requires : goal.unreachable-requires
unreachable-requires c =
    let trail = c.args.trail.now in
    let clauses = clauses_in c.args.store.now.clauses in
    let clause = clause_at clauses c.args.id.place in
    let is = c.clause.ensures.lits ∙ at_held c.args.store.now.clauses c.args.id.place in
    let noted : IsNoted trail (set_of clause) c.add.new.self = subst (λ (X : Lits). IsNoted trail X c.add.new.self) (ap (joined trail.entries no_lits) is ∙ set_joined trail.entries clause c.requires.refuted) (c.add.ensures.noted no_lits (noted_empty trail _ c.requires.scratch.clear c.clear.ensures.items refl)) in
    let first = c.resolve-first.result in
    let notes = c.resolve-first.new.self in
    let ready = c.resolve-first.ensures.ready in
    let uip_set : Lits = first_uip clauses trail.level trail.entries (set_of clause) in
    let end = c.resolve-first.ensures.resolved (set_of clause) noted c.requires.left in
    let few = first_room trail uip_set notes first ready end.0 end.1 in
    let room = ready.room in
    absurd (false≢true (c.in-Err.ensures.succeeds (omega (arith, few, room))))

pub unmark-requires : goal.unmark-requires
unmark-requires c lit i =
    let trail = c.args.trail.now in
    let clauses = clauses_in c.args.store.now.clauses in
    let clause = clause_at clauses c.args.id.place in
    let is = c.clause.ensures.lits ∙ at_held c.args.store.now.clauses c.args.id.place in
    let noted : IsNoted trail (set_of clause) c.add.new.self = subst (λ (X : Lits). IsNoted trail X c.add.new.self) (ap (joined trail.entries no_lits) is ∙ set_joined trail.entries clause c.requires.refuted) (c.add.ensures.noted no_lits (noted_empty trail _ c.requires.scratch.clear c.clear.ensures.items refl)) in
    let first = c.resolve-first.result in
    let notes = c.resolve-first.new.self in
    let ready = c.resolve-first.ensures.ready in
    let uip_set : Lits = first_uip clauses trail.level trail.entries (set_of clause) in
    let end = c.resolve-first.ensures.resolved (set_of clause) noted c.requires.left in
    let same = c.deref-2.ensures ∙ c.in-Ok.ensures.ok in
    let v = first_range trail uip_set notes first lit ready end.0 end.1 (subst (λ (xs : List Lit). In lit xs) same i) in
    let marks = ready.marks in
    omega (arith, v, marks)

pub returns-clause-size : goal.returns-clause-size
returns-clause-size c =
    ap length c.unmark.ensures ∙ length_unmarked c.deref-2.result.now c.resolve-first.new.self.marks.items ∙ c.resolve-first.ensures.size ∙ c.add.ensures.size

pub returns-clause-scratch : goal.returns-clause-scratch
returns-clause-scratch c =
    let trail = c.args.trail.now in
    let clauses = clauses_in c.args.store.now.clauses in
    let clause = clause_at clauses c.args.id.place in
    let is = c.clause.ensures.lits ∙ at_held c.args.store.now.clauses c.args.id.place in
    let noted : IsNoted trail (set_of clause) c.add.new.self = subst (λ (X : Lits). IsNoted trail X c.add.new.self) (ap (joined trail.entries no_lits) is ∙ set_joined trail.entries clause c.requires.refuted) (c.add.ensures.noted no_lits (noted_empty trail _ c.requires.scratch.clear c.clear.ensures.items refl)) in
    let first = c.resolve-first.result in
    let notes = c.resolve-first.new.self in
    let ready = c.resolve-first.ensures.ready in
    let uip_set : Lits = first_uip clauses trail.level trail.entries (set_of clause) in
    let end = c.resolve-first.ensures.resolved (set_of clause) noted c.requires.left in
    let same = c.deref-2.ensures ∙ c.in-Ok.ensures.ok in
    let size = ap length c.unmark.ensures ∙ length_unmarked c.deref-2.result.now notes.marks.items ∙ c.resolve-first.ensures.size ∙ c.add.ensures.size in
    let room = c.requires.scratch.room in
    let a = c.clear.ensures.capacity in
    let b = c.add.ensures.capacity in
    let d = c.resolve-first.ensures.capacity in
    let e = c.insert.ensures.capacity in
    record {
      clear = subst AreClear (sym (c.unmark.ensures ∙ ap (λ (xs : List Lit). unmarked xs notes.marks.items) same)) (cleared trail uip_set notes first ready end.0 end.1);
      room = omega (arith, size, room, a, b, d, e);
    }

pub returns-clause-learnt : goal.returns-clause-learnt
returns-clause-learnt c =
    let trail = c.args.trail.now in
    let clauses = clauses_in c.args.store.now.clauses in
    let clause = clause_at clauses c.args.id.place in
    let is = c.clause.ensures.lits ∙ at_held c.args.store.now.clauses c.args.id.place in
    let noted : IsNoted trail (set_of clause) c.add.new.self = subst (λ (X : Lits). IsNoted trail X c.add.new.self) (ap (joined trail.entries no_lits) is ∙ set_joined trail.entries clause c.requires.refuted) (c.add.ensures.noted no_lits (noted_empty trail _ c.requires.scratch.clear c.clear.ensures.items refl)) in
    let first = c.resolve-first.result in
    let notes = c.resolve-first.new.self in
    let ready = c.resolve-first.ensures.ready in
    let uip_set : Lits = first_uip clauses trail.level trail.entries (set_of clause) in
    let end = c.resolve-first.ensures.resolved (set_of clause) noted c.requires.left in
    let within = c.requires.id in
    let n = length-map c.args.store.now.clauses (λ (h : Held). h.lits) in
    subst (IsLearnt clauses trail clause) (sym c.in-Ok.ensures.ok) (is_learnt clauses trail notes first c.args.id (omega (arith, within, n)) ready c.requires.reasons end.0 end.1)

pub returns-clause-lower : goal.returns-clause-lower
returns-clause-lower c =
    let trail = c.args.trail.now in
    let clauses = clauses_in c.args.store.now.clauses in
    let clause = clause_at clauses c.args.id.place in
    let is = c.clause.ensures.lits ∙ at_held c.args.store.now.clauses c.args.id.place in
    let noted : IsNoted trail (set_of clause) c.add.new.self = subst (λ (X : Lits). IsNoted trail X c.add.new.self) (ap (joined trail.entries no_lits) is ∙ set_joined trail.entries clause c.requires.refuted) (c.add.ensures.noted no_lits (noted_empty trail _ c.requires.scratch.clear c.clear.ensures.items refl)) in
    let first = c.resolve-first.result in
    let notes = c.resolve-first.new.self in
    let ready = c.resolve-first.ensures.ready in
    let uip_set : Lits = first_uip clauses trail.level trail.entries (set_of clause) in
    let end = c.resolve-first.ensures.resolved (set_of clause) noted c.requires.left in
    let low = lower_back trail uip_set notes ready end.0 in
    let level = c.highest_level-level.ensures ∙ ap (highest trail.entries) c.deref.ensures in
    omega (arith, low, level)

pub returns-clause-asserting : goal.returns-clause-asserting
returns-clause-asserting c =
    let trail = c.args.trail.now in
    let clauses = clauses_in c.args.store.now.clauses in
    let clause = clause_at clauses c.args.id.place in
    let is = c.clause.ensures.lits ∙ at_held c.args.store.now.clauses c.args.id.place in
    let noted : IsNoted trail (set_of clause) c.add.new.self = subst (λ (X : Lits). IsNoted trail X c.add.new.self) (ap (joined trail.entries no_lits) is ∙ set_joined trail.entries clause c.requires.refuted) (c.add.ensures.noted no_lits (noted_empty trail _ c.requires.scratch.clear c.clear.ensures.items refl)) in
    let first = c.resolve-first.result in
    let notes = c.resolve-first.new.self in
    let ready = c.resolve-first.ensures.ready in
    let uip_set : Lits = first_uip clauses trail.level trail.entries (set_of clause) in
    let end = c.resolve-first.ensures.resolved (set_of clause) noted c.requires.left in
    let level = c.highest_level-level.ensures ∙ ap (highest trail.entries) c.deref.ensures in
    subst (IsAsserting (back c.highest_level-level.result trail.entries)) (sym c.in-Ok.ensures.ok) (is_asserting trail uip_set notes first c.highest_level-level.result ready end.0 end.1 level)
