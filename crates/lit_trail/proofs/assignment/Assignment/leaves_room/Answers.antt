use Rattle.std.proofs.Common.{length, reverse, ap, arith}
use Rattle.std.proofs.lemmas.List.{length-reverse}
use Rattle.lit_trail.specs.Entries.{Assigned}
use Rattle.lit_trail.proofs.TableSteps.{has_room, length_of}
use Rattle.lit_trail.proofs.assignment.Assignment.leaves_room.Goals as goal

pub returns : goal.returns
returns c =
    let table = c.self.inside.table.items in
    let order = c.self.inside.order.items in
    let room = has_room table order c.args.var c.args.self.now c.self.view_is c.self.invariant.0 c.requires.within c.requires.free in
    let a = ap (λ (v : Assigned). length v.entries) c.self.view_is in
    let b = ap (λ (v : Assigned). v.vars) c.self.view_is in
    let d = length_of table (reverse order) in
    let e = length-reverse order in
    omega (arith, room, a, b, d, e)
