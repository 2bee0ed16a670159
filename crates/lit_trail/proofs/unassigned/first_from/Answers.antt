use Rattle.std.proofs.Common.{◌∙◌, ◌/◌, refl, sym}
use Rattle.lit_trail.specs.Unassigned.{is_open, visible_at}
use Rattle.lit_trail.proofs.OpenStates.{state_past, state_here, state_end, settled_start, settled_closed}
use Rattle.lit_trail.proofs.unassigned.first_from.Goals as goal

pub loop-t-init : goal.loop-t-init
loop-t-init c =
    let entries = c.args.assignment.now.entries in
    settled_start (is_open entries) c.args.space.now.counts c.args.states c.settled.result (c.settled.result / c.width-width.result) c.width-width.result refl c.width-width.ensures.is (settled_closed entries c.settled.result c.settled.ensures)

pub loop-t-preserved : goal.loop-t-preserved
loop-t-preserved c = state_past (is_open c.args.assignment.now.entries) (visible_at c.args.space.now.counts) c.args.states c.loop-t.t c.loop-t-test.true (sym c.in_default.ensures) ∙ c.loop-t.invariant

pub returns-in-Some : goal.returns-in-Some
returns-in-Some c = sym (state_here (is_open c.args.assignment.now.entries) (visible_at c.args.space.now.counts) c.args.states c.loop-t.t c.in-Some.var c.loop-t-test.true (sym c.in-Some.ensures)) ∙ c.loop-t.invariant

pub returns : goal.returns
returns c = sym (state_end (is_open c.args.assignment.now.entries) (visible_at c.args.space.now.counts) c.args.states c.loop-t.t c.loop-t-test.false) ∙ c.loop-t.invariant
