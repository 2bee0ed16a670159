use Rattle.std.proofs.Common.{◌∙◌, sym, refl, arith}
use Rattle.clause_learn.specs.Noted.{joined}
use Rattle.clause_learn.proofs.Resolutions.{is_top, top_marked, top_left, note_resolved, reason_known}
use Rattle.clause_learn.proofs.notes.Notes.resolve_by.Goals as goal

pub add-requires-clause-clause : goal.add-requires-clause-clause
add-requires-clause-clause c = reason_known c.args.trail.now c.args.self.now c.args.lit c.args.reason.now c.requires.marked c.requires.others

pub overflow_sub-self : goal.overflow_sub-self
overflow_sub-self c =
    let trail = c.args.trail.now in
    let lit = c.args.lit in
    let set = joined trail.entries c.requires.noted.0 c.args.reason.now in
    let is = c.add.ensures.noted c.requires.noted.0 c.requires.noted.1 in
    let top = is_top trail lit c.requires.ready.ordered.apart c.requires.held c.requires.level in
    let held = sym (top_marked trail set c.add.new.self lit c.add.ensures.ready is top) ∙ c.add.ensures.marks lit.var c.requires.marked in
    let one = top_left trail set c.add.new.self lit c.add.ensures.ready is top held in
    omega (arith, one)

pub returns-clause-noted : goal.returns-clause-noted
returns-clause-noted c set noted =
    note_resolved c.args.trail.now set c.add.new.self _ c.args.lit c.args.reason.now c.add.ensures.ready (c.add.ensures.noted set noted) c.requires.held c.requires.level (c.add.ensures.marks c.args.lit.var c.requires.marked) c.requires.others refl refl refl
