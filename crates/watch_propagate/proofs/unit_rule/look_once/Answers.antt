use Rattle.std.proofs.Common.{◌≡◌, ℕ, ◌<◌, ◌+◌, ◌∙◌, ap, sym, subst, length, List, true, arith}
use Rattle.std.specs.Prelude.{None}
use Rattle.std.proofs.lemmas.List.{length-map}
use Rattle.tel_base.specs.declared.literals.Lit.{Lit}
use Rattle.clause_store.specs.declared.store.ClauseId.{ClauseId}
use Rattle.clause_store.specs.Held.{Held, is_clause, clauses_in}
use Rattle.clause_store.proofs.Levels.{at_held}
use Rattle.lit_trail.specs.Entries.{View}
use Rattle.watch_propagate.specs.Status.{status}
use Rattle.watch_propagate.proofs.Statuses.{false_none}
use Rattle.watch_propagate.proofs.Looking.{RoundState, unit_below, unit_free, unit_reason, round_start, round_unit, round_settled}
use Rattle.watch_propagate.proofs.unit_rule.look_once.Goals as goal
use Rattle.watch_propagate.proofs.unit_rule.look_once.Goals.{in-Unit, in-Settled}

pub returns-in-False-clause-found : goal.returns-in-False-clause-found
returns-in-False-clause-found c =
    let l = c.loop-place-test.true in
    let e = c.len-place-end.ensures in
    let n = length-map c.args.store.now.clauses (λ (h : Held). h.lits) in
    let is = c.clause.ensures.lits ∙ at_held c.args.store.now.clauses c.loop-place.place in
    (omega (arith, l, e, n), false_none c.loop-place.trail.entries _ (ap (λ (x : List Lit). status c.loop-place.trail.entries x None) (sym is) ∙ sym c.in-False.ensures))

pub imply-requires-clause-free : goal.imply-requires-clause-free
imply-requires-clause-free c = unit_free _ c.loop-place.trail.entries c.in-Unit.lit (sym c.in-Unit.ensures)

pub imply-requires-clause-within : goal.imply-requires-clause-within
imply-requires-clause-within c =
    let l = c.loop-place-test.true in
    let e = c.len-place-end.ensures in
    let clauses = clauses_in c.args.store.now.clauses in
    let n = length-map c.args.store.now.clauses (λ (h : Held). h.lits) in
    let within : c.loop-place.place < length clauses = omega (arith, l, e, n) in
    let is = c.clause.ensures.lits ∙ at_held c.args.store.now.clauses c.loop-place.place in
    subst (λ (n : ℕ). c.in-Unit.lit.var < n) (sym c.loop-place.invariant.vars) (unit_below clauses c.args.trail.now.vars c.loop-place.place c.loop-place.trail.entries c.in-Unit.lit c.requires.below within (ap (λ (x : List Lit). status c.loop-place.trail.entries x None) (sym is) ∙ sym c.in-Unit.ensures))

pub loop-place-init : goal.loop-place-init
loop-place-init c = round_start (clauses_in c.args.store.now.clauses) c.args.trail.now c.requires.sound

pub loop-place-preserved : goal.loop-place-preserved
loop-place-preserved c =
    let l = c.loop-place-test.true in
    let e = c.len-place-end.ensures in
    let clauses = clauses_in c.args.store.now.clauses in
    let n = length-map c.args.store.now.clauses (λ (h : Held). h.lits) in
    let within : c.loop-place.place < length clauses = omega (arith, l, e, n) in
    let now = c.loop-place.trail in
    let is = c.clause.ensures.lits ∙ at_held c.args.store.now.clauses c.loop-place.place in
    elim c.match-examine.branch [
      | in-Unit w ↦
          let unit = ap (λ (x : List Lit). status now.entries x None) (sym is) ∙ sym w.in-Unit.ensures in
          let id : ClauseId = record { place = c.loop-place.place } in
          let sound = w.imply.ensures.keeps clauses (unit_reason clauses id now.entries w.in-Unit.lit within unit) c.loop-place.invariant.sound in
          let state = round_unit clauses c.args.trail.now now w.imply.new.self c.loop-place.place w.in-Unit.lit id c.loop-place.invariant sound w.imply.ensures.entries w.imply.ensures.level w.imply.ensures.vars in
          subst (λ (v : View). RoundState clauses c.args.trail.now v (c.loop-place.place + 1)) (sym w.trail-is) state
      | in-Settled w ↦
          let settled = ap (λ (x : List Lit). status now.entries x None) (sym is) ∙ sym w.in-Settled.ensures in
          let clause = subst (λ (x : List Lit). is_clause c.args.store.now.vars x ≡ true) is c.clause.ensures.clause in
          let state = round_settled clauses c.args.trail.now now c.loop-place.place c.args.store.now.vars c.loop-place.invariant within clause settled in
          subst (λ (v : View). RoundState clauses c.args.trail.now v (c.loop-place.place + 1)) (sym w.trail-is) state
    ]
