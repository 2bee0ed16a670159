use Rattle.clause_store.proofs.FlatSteps.{clause_wider}
use Rattle.back_jump.proofs.Additions.{ready_held}
use Rattle.back_jump.proofs.WaysBack.{way_back}
use Rattle.back_jump.proofs.holding.hold.Goals as goal

pub add_reserved-requires-clause-clause : goal.add_reserved-requires-clause-clause
add_reserved-requires-clause-clause c = clause_wider c.args.trail.now.vars c.args.store.now.vars c.args.lits.now c.requires.ready.reserved c.requires.clause

pub returns-clause-ready : goal.returns-clause-ready
returns-clause-ready c =
    let went = c.back_to.ensures in
    let done = c.add_reserved.ensures in
    ready_held c.args.store.now c.add_reserved.new.self c.args.trail.now c.back_to.new.self (record { kind = c.args.kind; lits = c.args.lits.now }) c.args.level c.requires.ready c.requires.level c.requires.clause c.requires.settled done.added done.vars went.level went.entries went.vars went.keeps

pub returns-clause-way : goal.returns-clause-way
returns-clause-way c = way_back c.args.trail.now c.back_to.new.self c.args.level c.requires.level c.back_to.ensures.level c.back_to.ensures.entries
