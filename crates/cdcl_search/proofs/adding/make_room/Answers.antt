use Rattle.std.proofs.Common.{◌∙◌, arith}
use Rattle.cdcl_search.proofs.Rooms.{ready_wider}
use Rattle.cdcl_search.proofs.adding.make_room.Goals as goal

pub returns-in_err-grow-2-clause-ready : goal.returns-in_err-grow-2-clause-ready
returns-in_err-grow-2-clause-ready c =
    let reserved = c.requires.ready.reserved in
    let wide = c.in_ok-reserve_vars.ensures.vars in
    let same = c.in_err-grow-2.ensures.err in
    ready_wider c.args.store.now c.reserve_vars.new.self c.args.trail.now c.grow-2.new.self c.requires.ready c.reserve_vars.ensures.clauses (omega (arith, wide)) c.grow-2.ensures.entries (omega (arith, same)) (omega (arith, same, wide, reserved)) c.grow-2.ensures.keeps

pub returns-in_err-reserve-clause-ready : goal.returns-in_err-reserve-clause-ready
returns-in_err-reserve-clause-ready c =
    let reserved = c.requires.ready.reserved in
    let wide = c.in_ok-reserve_vars.ensures.vars in
    let grown = c.in_ok-grow-2.ensures.vars in
    let same = c.reserve.ensures.vars in
    ready_wider c.args.store.now c.reserve.new.self c.args.trail.now c.grow-2.new.self c.requires.ready (c.reserve.ensures.clauses ∙ c.reserve_vars.ensures.clauses) (omega (arith, wide, same)) c.grow-2.ensures.entries (omega (arith, grown)) (omega (arith, same, wide, grown, reserved)) c.grow-2.ensures.keeps

pub returns-clause-ready : goal.returns-clause-ready
returns-clause-ready c =
    let reserved = c.requires.ready.reserved in
    let wide = c.in_ok-reserve_vars.ensures.vars in
    let grown = c.in_ok-grow-2.ensures.vars in
    let same = c.reserve.ensures.vars in
    ready_wider c.args.store.now c.reserve.new.self c.args.trail.now c.grow-2.new.self c.requires.ready (c.reserve.ensures.clauses ∙ c.reserve_vars.ensures.clauses) (omega (arith, wide, same)) c.grow-2.ensures.entries (omega (arith, grown)) (omega (arith, same, wide, grown, reserved)) c.grow-2.ensures.keeps
