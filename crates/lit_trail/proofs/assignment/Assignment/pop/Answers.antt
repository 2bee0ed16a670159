use Rattle.std.proofs.lemmas.List.{length-set}
use Rattle.lit_trail.proofs.TableSteps.{pop_in_step, pop_is, settled-pop}
use Rattle.lit_trail.proofs.assignment.Assignment.pop.Goals as goal

pub invariant_of-self : goal.invariant_of-self
invariant_of-self c =
    let d = c.pop.ensures.capacity in
    let room = c.self.invariant.1 in
    (pop_in_step _ _ _ _ c.self.invariant.0 c.in-Some.ensures.items, rw length-set (rw d room), settled-pop c.self.inside.table.items c.self.inside.settled c.in-Some.lit.var c.min-settled.result c.min-settled.ensures c.self.invariant.2)

pub returns-in-Some-clause-entries : goal.returns-in-Some-clause-entries
returns-in-Some-clause-entries c = pop_is c.self.inside.table.items c.self.inside.order.items c.pop.new.self.items c.in-Some.lit c.args.self.now c.self.view_is c.self.invariant.0 c.in-Some.ensures.items
