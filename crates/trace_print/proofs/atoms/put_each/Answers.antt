use Rattle.tel_semantics.specs.Print.{escaped}
use Rattle.trace_print.proofs.Rests.{pieces-rest}
use Rattle.trace_print.proofs.Steps.{so_far-step, so_far-short}
use Rattle.trace_print.proofs.atoms.put_each.Goals as goal

pub loop-byte-preserved : goal.loop-byte-preserved
loop-byte-preserved g c =
    let parts = pieces-rest escaped c.args.bytes.now c.loop-byte.byte-index 0 c.loop-byte-test.true in
    so_far-step parts c.loop-byte.invariant c.in-Ok.ensures

pub returns-in-Err : goal.returns-in-Err
returns-in-Err g c =
    let parts = pieces-rest escaped c.args.bytes.now c.loop-byte.byte-index 0 c.loop-byte-test.true in
    so_far-short _ parts c.loop-byte.invariant c.in-Err.ensures
