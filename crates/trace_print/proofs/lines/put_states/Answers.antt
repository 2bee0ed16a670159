use Rattle.trace_print.proofs.Rests.{states-rest}
use Rattle.trace_print.proofs.Steps.{so_far-step, so_far-short}
use Rattle.trace_print.proofs.lines.put_states.Goals as goal

pub loop-instant-preserved : goal.loop-instant-preserved
loop-instant-preserved g c =
    let parts = states-rest c.args.template.now c.args.states.now c.loop-instant.instant c.as_slice.result.now c.index-states-instant.result
    c.loop-instant-test.true c.as_slice.ensures c.index-states-instant.is in
    so_far-step parts c.loop-instant.invariant c.in-Ok.ensures

pub returns-in-Err : goal.returns-in-Err
returns-in-Err g c =
    let parts = states-rest c.args.template.now c.args.states.now c.loop-instant.instant c.as_slice.result.now c.index-states-instant.result
    c.loop-instant-test.true c.as_slice.ensures c.index-states-instant.is in
    so_far-short _ parts c.loop-instant.invariant c.in-Err.ensures
