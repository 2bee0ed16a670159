use Rattle.std.specs.Prelude.{codes, ◌++◌, false}
use Rattle.tel_base.specs.declared.literals.Lit.{Lit}
use Rattle.proof_log.specs.Lines.{lit_text}
use Rattle.proof_log.proofs.Rests.{pieces-rest}
use Rattle.proof_log.proofs.Steps.{so_far-step, so_far-short}
use Rattle.proof_log.proofs.writing.put_lits.Goals as goal

pub loop-lit-preserved : goal.loop-lit-preserved
loop-lit-preserved g c =
    let parts = pieces-rest (λ (lit : Lit). lit_text lit ++ codes " ") c.args.lits.now c.loop-lit.lit-index (record { var = 0; positive = false }) c.loop-lit-test.true in
    so_far-step parts c.loop-lit.invariant c.in-Ok.ensures

pub returns-in-Err : goal.returns-in-Err
returns-in-Err g c =
    let parts = pieces-rest (λ (lit : Lit). lit_text lit ++ codes " ") c.args.lits.now c.loop-lit.lit-index (record { var = 0; positive = false }) c.loop-lit-test.true in
    so_far-short _ parts c.loop-lit.invariant c.in-Err.ensures
