use Rattle.std.proofs.Common.{◌≤◌, length, arith}
use Rattle.std.specs.Vec.{vec_capacity}
use Rattle.std.proofs.lemmas.List.{length-set}
use Rattle.lit_trail.proofs.TableSteps.{put_in_step, put_is, put_room, has_room, settled-put}
use Rattle.lit_trail.proofs.assignment.Assignment.append.Goals as goal

pub invariant_of-self : goal.invariant_of-self
invariant_of-self c =
    let d = c.push.ensures.capacity in
    let room = c.self.invariant.1 in
    let all : length c.self.inside.table.items ≤ vec_capacity c.push.new.self = omega (arith, d, room) in
    (put_in_step c.self.inside.table.items c.self.inside.order.items c.push.new.self.items c.args.lit c.args.level c.args.reason c.args.self.now c.self.view_is c.self.invariant.0 c.in-Ok.ensures.items c.requires.within c.requires.free, rw length-set all, settled-put c.self.inside.table.items c.self.inside.settled c.args.lit.var _ c.args.self.now c.self.inside.order.items c.self.view_is c.requires.within c.self.invariant.2)

pub returns-clause-entries : goal.returns-clause-entries
returns-clause-entries c = put_is c.self.inside.table.items c.self.inside.order.items c.push.new.self.items c.args.lit _ c.args.self.now c.self.view_is c.in-Ok.ensures.items c.requires.within c.requires.free

pub unreachable-requires : goal.unreachable-requires
unreachable-requires c =
    let full = c.in-Err.ensures.full in
    let more = has_room c.self.inside.table.items c.self.inside.order.items c.args.lit.var c.args.self.now c.self.view_is c.self.invariant.0 c.requires.within c.requires.free in
    let room = c.self.invariant.1 in
    let ok = c.self.inside.order.ok in
    absurd (omega (arith, full, more, room, ok))

pub returns-clause-room : goal.returns-clause-room
returns-clause-room c = put_room c.self.inside.table.items c.self.inside.order.items c.push.new.self.items c.args.lit _ c.args.self.now c.self.view_is c.self.invariant.0 c.in-Ok.ensures.items c.requires.within c.requires.free
