use Rattle.std.proofs.Common.{◌∙◌, ◌<◌, refl, sym, subst, ℕ, arith}
use Rattle.clause_learn.proofs.NoteSteps.{mark_range, mark_read, same_level, level_room, lower_room, is_new, note_marked, note_ground, note_level, note_lower}
use Rattle.clause_learn.proofs.notes.Notes.add_lit.Goals as goal

pub index-requires : goal.index-requires
index-requires c =
    let range = mark_range c.args.trail.now c.args.self.now c.args.lit c.requires.ready c.requires.lit in
    let ok = c.args.self.now.marks.ok in
    omega (arith, range, ok)

pub index_mut-requires : goal.index_mut-requires
index_mut-requires c =
    let range = mark_range c.args.trail.now c.args.self.now c.args.lit c.requires.ready c.requires.lit in
    let ok = c.args.self.now.marks.ok in
    omega (arith, range, ok)

pub index_mut-requires-then-level-gt0 : goal.index_mut-requires-then-level-gt0
index_mut-requires-then-level-gt0 c =
    let range = mark_range c.args.trail.now c.args.self.now c.args.lit c.requires.ready c.requires.lit in
    let ok = c.args.self.now.marks.ok in
    omega (arith, range, ok)

pub returns-then-index-clause-noted : goal.returns-then-index-clause-noted
returns-then-index-clause-noted c set is =
    let range = mark_range c.args.trail.now c.args.self.now c.args.lit c.requires.ready c.requires.lit in
    note_marked c.args.trail.now set c.args.self.now c.args.lit c.requires.ready.ordered.apart (mark_read c.args.self.now.marks.items c.args.lit.var c.index.result.now range c.index.ensures ∙ c.if-index.true) is

pub overflow_add-self : goal.overflow_add-self
overflow_add-self c =
    let noted = c.requires.noted in
    let range = mark_range c.args.trail.now c.args.self.now c.args.lit c.requires.ready c.requires.lit in
    let unmarked = mark_read c.args.self.now.marks.items c.args.lit.var c.index.result.now range c.index.ensures ∙ c.if-index.false in
    let new = is_new c.args.trail.now noted.0 c.args.self.now c.args.lit c.requires.ready noted.1 c.requires.lit unmarked in
    let top = same_level c.args.trail.now noted.0 c.args.lit c.in-Some.level c.in-Some.ensures new ∙ c.if-level.true ∙ c.level.ensures in
    let room = level_room c.args.trail.now noted.0 c.args.self.now c.args.lit c.requires.ready noted.1 new top in
    let small = c.requires.ready.small in
    omega (arith, room, small)

pub push_reserved-requires : goal.push_reserved-requires
push_reserved-requires c =
    let noted = c.requires.noted in
    let range = mark_range c.args.trail.now c.args.self.now c.args.lit c.requires.ready c.requires.lit in
    let unmarked = mark_read c.args.self.now.marks.items c.args.lit.var c.index.result.now range c.index.ensures ∙ c.if-index.false in
    let new = is_new c.args.trail.now noted.0 c.args.self.now c.args.lit c.requires.ready noted.1 c.requires.lit unmarked in
    let at = same_level c.args.trail.now noted.0 c.args.lit c.in-Some.level c.in-Some.ensures new in
    let room = lower_room c.args.trail.now noted.0 c.args.self.now c.args.lit c.requires.ready noted.1 new (subst (λ (n : ℕ). 0 < n) (sym at) c.if-level-gt0.true) (λ e. c.if-level.false (sym at ∙ e ∙ sym c.level.ensures)) in
    let cap = c.requires.ready.room in
    omega (arith, room, cap)

pub returns-then-level-clause-noted : goal.returns-then-level-clause-noted
returns-then-level-clause-noted c set is =
    let range = mark_range c.args.trail.now c.args.self.now c.args.lit c.requires.ready c.requires.lit in
    let unmarked = mark_read c.args.self.now.marks.items c.args.lit.var c.index.result.now range c.index.ensures ∙ c.if-index.false in
    let new = is_new c.args.trail.now set c.args.self.now c.args.lit c.requires.ready is c.requires.lit unmarked in
    let top = same_level c.args.trail.now set c.args.lit c.in-Some.level c.in-Some.ensures new ∙ c.if-level.true ∙ c.level.ensures in
    note_level c.args.trail.now set c.args.self.now _ c.args.lit c.requires.ready is range new top refl refl refl

pub returns-then-level-gt0-clause-noted : goal.returns-then-level-gt0-clause-noted
returns-then-level-gt0-clause-noted c set is =
    let range = mark_range c.args.trail.now c.args.self.now c.args.lit c.requires.ready c.requires.lit in
    let unmarked = mark_read c.args.self.now.marks.items c.args.lit.var c.index.result.now range c.index.ensures ∙ c.if-index.false in
    let new = is_new c.args.trail.now set c.args.self.now c.args.lit c.requires.ready is c.requires.lit unmarked in
    let at = same_level c.args.trail.now set c.args.lit c.in-Some.level c.in-Some.ensures new in
    note_lower c.args.trail.now set c.args.self.now _ c.args.lit c.requires.ready is unmarked range new (subst (λ (n : ℕ). 0 < n) (sym at) c.if-level-gt0.true) (λ e. c.if-level.false (sym at ∙ e ∙ sym c.level.ensures)) refl refl c.push_reserved.ensures.items

pub returns-else-level-gt0-clause-noted : goal.returns-else-level-gt0-clause-noted
returns-else-level-gt0-clause-noted c set is =
    let range = mark_range c.args.trail.now c.args.self.now c.args.lit c.requires.ready c.requires.lit in
    let unmarked = mark_read c.args.self.now.marks.items c.args.lit.var c.index.result.now range c.index.ensures ∙ c.if-index.false in
    let new = is_new c.args.trail.now set c.args.self.now c.args.lit c.requires.ready is c.requires.lit unmarked in
    let ground = c.if-level-gt0.false in
    let at = same_level c.args.trail.now set c.args.lit c.in-Some.level c.in-Some.ensures new in
    note_ground c.args.trail.now set c.args.self.now c.args.lit c.requires.ready is unmarked new (omega (arith, at, ground))
