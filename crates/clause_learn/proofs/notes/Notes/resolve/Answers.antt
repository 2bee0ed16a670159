use Rattle.std.proofs.Common.{◌<◌, ◌+◌, ◌∙◌, sym, subst, length, arith}
use Rattle.std.proofs.lemmas.List.{length-map}
use Rattle.tel_base.specs.declared.literals.Lit.{Lit}
use Rattle.clause_store.specs.Held.{Held, clauses_in}
use Rattle.clause_store.specs.Closure.{Clause}
use Rattle.clause_store.proofs.Levels.{at_held}
use Rattle.clause_learn.specs.FirstUip.{resolvent, first_uip}
use Rattle.clause_learn.specs.Noted.{IsUip, OthersFalse, IsNoted}
use Rattle.clause_learn.specs.declared.notes.Notes.{Notes}
use Rattle.clause_learn.proofs.NoteSteps.{mark_read}
use Rattle.clause_learn.proofs.Uips.{Walking, resolving_pass, resolving_go, resolving_stop, reason_here, given_here, others_here, here_level, here_holds, here_range}
use Rattle.clause_learn.proofs.notes.Notes.resolve.Goals as goal
use Rattle.clause_learn.proofs.notes.Notes.resolve.Goals.{then-index+else-self-eq1+in-Some, else-index}

pub index-requires : goal.index-requires
index-requires c =
    let l = c.loop-place-test.true in
    let n = c.requires.places in
    let range = here_range c.args.trail.now c.loop-place.self c.loop-place.place c.entry-entry.result c.loop-place.invariant.ready (omega (arith, l, n)) c.entry-entry.ensures in
    let ok = c.loop-place.self.marks.ok in
    omega (arith, range, ok)

pub returns-then-self-eq1-clause-resolved : goal.returns-then-self-eq1-clause-resolved
returns-then-self-eq1-clause-resolved c set noted left =
    let clauses = clauses_in c.args.store.now.clauses in
    let trail = c.args.trail.now in
    let notes = c.loop-place.self in
    let place = c.loop-place.place in
    let entry = c.entry-entry.result in
    let l = c.loop-place-test.true in
    let n = c.requires.places in
    let within : place < length trail.entries = omega (arith, l, n) in
    let ready = c.loop-place.invariant.ready in
    let marked = mark_read notes.marks.items entry.lit.var c.index.result.now (here_range trail notes place entry ready within c.entry-entry.ensures) c.index.ensures ∙ c.if-index.true in
    let stop = resolving_stop clauses trail set notes place entry ready (c.loop-place.invariant.state set noted left) within c.entry-entry.ensures marked c.if-self-eq1.true in
    (stop.0, subst (λ (lit : Lit). IsUip trail (first_uip clauses trail.level trail.entries set) lit) (sym c.negated.ensures) stop.1)

pub clause-requires : goal.clause-requires
clause-requires c =
    let l = c.loop-place-test.true in
    let n = c.requires.places in
    let reason = reason_here (clauses_in c.args.store.now.clauses) c.args.trail.now c.loop-place.place c.entry-entry.result c.in-Some.id c.requires.reasons (omega (arith, l, n)) c.entry-entry.ensures c.in-Some.is in
    let within = reason.0 in
    let same = length-map c.args.store.now.clauses (λ (h : Held). h.lits) in
    omega (arith, within, same)

pub resolve_by-requires-clause-held : goal.resolve_by-requires-clause-held
resolve_by-requires-clause-held c =
    let l = c.loop-place-test.true in
    let n = c.requires.places in
    here_holds c.args.trail.now c.loop-place.place c.entry-entry.result c.requires.ready.ordered.apart (omega (arith, l, n)) c.entry-entry.ensures

pub resolve_by-requires-clause-level : goal.resolve_by-requires-clause-level
resolve_by-requires-clause-level c =
    let l = c.loop-place-test.true in
    let n = c.requires.places in
    let first = c.requires.noted in
    here_level (clauses_in c.args.store.now.clauses) c.args.trail.now first.0 c.loop-place.self c.loop-place.place c.entry-entry.result c.loop-place.invariant.ready (c.loop-place.invariant.state first.0 first.1 first.2) (omega (arith, l, n)) c.entry-entry.ensures

pub resolve_by-requires-clause-marked : goal.resolve_by-requires-clause-marked
resolve_by-requires-clause-marked c =
    let l = c.loop-place-test.true in
    let n = c.requires.places in
    mark_read c.loop-place.self.marks.items c.entry-entry.result.lit.var c.index.result.now (here_range c.args.trail.now c.loop-place.self c.loop-place.place c.entry-entry.result c.loop-place.invariant.ready (omega (arith, l, n)) c.entry-entry.ensures) c.index.ensures ∙ c.if-index.true

pub resolve_by-requires-clause-others : goal.resolve_by-requires-clause-others
resolve_by-requires-clause-others c =
    let l = c.loop-place-test.true in
    let n = c.requires.places in
    let is = c.clause.ensures.lits ∙ at_held c.args.store.now.clauses c.in-Some.id.place in
    subst (λ (clause : Clause). OthersFalse c.args.trail.now c.entry-entry.result.lit clause) (sym is) (others_here (clauses_in c.args.store.now.clauses) c.args.trail.now c.loop-place.place c.entry-entry.result c.in-Some.id c.requires.ready.ordered.apart c.requires.reasons (omega (arith, l, n)) c.entry-entry.ensures c.in-Some.is)

pub unreachable-requires : goal.unreachable-requires
unreachable-requires c =
    let l = c.loop-place-test.true in
    let n = c.requires.places in
    let trail = c.args.trail.now in
    let notes = c.loop-place.self in
    let entry = c.entry-entry.result in
    let within : c.loop-place.place < length trail.entries = omega (arith, l, n) in
    let ready = c.loop-place.invariant.ready in
    let first = c.requires.noted in
    let marked = mark_read notes.marks.items entry.lit.var c.index.result.now (here_range trail notes c.loop-place.place entry ready within c.entry-entry.ensures) c.index.ensures ∙ c.if-index.true in
    given_here (clauses_in c.args.store.now.clauses) trail first.0 notes c.loop-place.place entry ready (c.loop-place.invariant.state first.0 first.1 first.2) within c.entry-entry.ensures marked c.if-self-eq1.false c.in-None.is

pub loop-place-preserved : goal.loop-place-preserved
loop-place-preserved c =
    let clauses = clauses_in c.args.store.now.clauses in
    let trail = c.args.trail.now in
    let notes = c.loop-place.self in
    let place = c.loop-place.place in
    let entry = c.entry-entry.result in
    let l = c.loop-place-test.true in
    let n = c.requires.places in
    let within : place < length trail.entries = omega (arith, l, n) in
    let ready = c.loop-place.invariant.ready in
    let size = c.loop-place.invariant.size in
    let wider = c.loop-place.invariant.capacity in
    let read = mark_read notes.marks.items entry.lit.var c.index.result.now (here_range trail notes place entry ready within c.entry-entry.ensures) c.index.ensures in
    elim c.if-index.branch [
      | then-index+else-self-eq1+in-Some w ↦
          let id = w.in-Some.id in
          let more = w.resolve_by.ensures.capacity in
          let is = w.clause.ensures.lits ∙ at_held c.args.store.now.clauses id.place in
          let marked = read ∙ w.if-index.true in
          let next : Walking clauses trail c.args.self.now w.resolve_by.new.self (place + 1) = record {
            ready = w.resolve_by.ensures.ready;
            size = w.resolve_by.ensures.size ∙ size;
            capacity = omega (arith, wider, more);
            state = λ set noted left.
                let state = c.loop-place.invariant.state set noted left in
                resolving_go clauses trail set notes w.resolve_by.new.self place entry id ready c.requires.reasons state within c.entry-entry.ensures marked w.if-self-eq1.false w.in-Some.is (subst (λ (clause : Clause). IsNoted trail (resolvent state.set entry.lit clause) w.resolve_by.new.self) is (w.resolve_by.ensures.noted state.set state.noted));
          } in
          subst (λ (after : Notes). Walking clauses trail c.args.self.now after (place + 1)) (sym w.self-is) next
      | else-index w ↦
          let next : Walking clauses trail c.args.self.now notes (place + 1) = record {
            ready = ready;
            size = size;
            capacity = wider;
            state = λ set noted left. resolving_pass clauses trail set notes place entry ready (c.loop-place.invariant.state set noted left) within c.entry-entry.ensures (read ∙ w.if-index.false);
          } in
          subst (λ (after : Notes). Walking clauses trail c.args.self.now after (place + 1)) (sym w.self-is) next
    ]
