use Rattle.tel_semantics.specs.Print.{atom_text}
use Rattle.trace_print.proofs.Rests.{pieces-rest}
use Rattle.trace_print.proofs.Steps.{so_far-step, so_far-short}
use Rattle.trace_print.proofs.lines.put_atoms.Goals as goal

pub loop-atom-preserved : goal.loop-atom-preserved
loop-atom-preserved g c =
    let parts = pieces-rest (atom_text c.args.template.now) c.args.state.now c.loop-atom.atom-index 0 c.loop-atom-test.true in
    so_far-step parts c.loop-atom.invariant c.in-Ok.ensures

pub returns-in-Err : goal.returns-in-Err
returns-in-Err g c =
    let parts = pieces-rest (atom_text c.args.template.now) c.args.state.now c.loop-atom.atom-index 0 c.loop-atom-test.true in
    so_far-short _ parts c.loop-atom.invariant c.in-Err.ensures
