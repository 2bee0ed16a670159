use Rattle.tel_semantics.specs.Print.{next_text}
use Rattle.trace_print.proofs.Rests.{pieces-rest}
use Rattle.trace_print.proofs.Steps.{so_far-step, so_far-short}
use Rattle.trace_print.proofs.atoms.put_more.Goals as goal

pub loop-value-preserved : goal.loop-value-preserved
loop-value-preserved g c =
    let parts = pieces-rest (next_text c.args.symbols.now) c.args.args.now c.loop-value.value-index _ c.loop-value-test.true in
    so_far-step parts c.loop-value.invariant c.in-Ok.ensures

pub returns-in-Err : goal.returns-in-Err
returns-in-Err g c =
    let parts = pieces-rest (next_text c.args.symbols.now) c.args.args.now c.loop-value.value-index _ c.loop-value-test.true in
    so_far-short _ parts c.loop-value.invariant c.in-Err.ensures
