use Rattle.std.proofs.Common.{◌∙◌, false, sym, ap, arith, get_or}
use Rattle.std.proofs.lemmas.List.{drop_more}
use Rattle.tel_base.specs.declared.literals.Lit.{Lit}
use Rattle.clause_store.proofs.Levels.{In-at}
use Rattle.clause_learn.specs.Noted.{added, joined}
use Rattle.clause_learn.proofs.NoteSteps.{known_later}
use Rattle.clause_learn.proofs.notes.Notes.add.Goals as goal

pub add_lit-requires-clause-lit : goal.add_lit-requires-clause-lit
add_lit-requires-clause-lit c =
    let d : Lit = record { var = 0; positive = false } in
    known_later c.args.trail.now c.args.self.now c.loop-lit.self (get_or c.args.clause.now c.loop-lit.lit-index d) c.loop-lit.invariant.marks (c.requires.clause (get_or c.args.clause.now c.loop-lit.lit-index d) (In-at c.args.clause.now c.loop-lit.lit-index d c.loop-lit-test.true))

pub loop-lit-preserved : goal.loop-lit-preserved
loop-lit-preserved c =
    let d : Lit = record { var = 0; positive = false } in
    let entries = c.args.trail.now.entries in
    let lit = get_or c.args.clause.now c.loop-lit.lit-index d in
    let size = c.loop-lit.invariant.size in
    let wider = c.loop-lit.invariant.capacity in
    let more = c.add_lit.ensures.capacity in
    record {
      ready = c.add_lit.ensures.ready;
      marks = λ v m. c.add_lit.ensures.marks v (c.loop-lit.invariant.marks v m);
      size = c.add_lit.ensures.size ∙ size;
      capacity = omega (arith, wider, more);
      noted = λ set is.
          let w = c.loop-lit.invariant.noted set is in
          (added entries w.0 lit, c.add_lit.ensures.noted w.0 w.1, sym (ap (joined entries w.0) (drop_more c.args.clause.now c.loop-lit.lit-index d c.loop-lit-test.true)) ∙ w.2);
    }
