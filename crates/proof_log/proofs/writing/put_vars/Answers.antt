use Rattle.std.specs.Prelude.{ℕ, codes, decimal, ◌+◌, ◌++◌}
use Rattle.proof_log.proofs.Rests.{pieces-rest}
use Rattle.proof_log.proofs.Steps.{so_far-step, so_far-short}
use Rattle.proof_log.proofs.writing.put_vars.Goals as goal

pub loop-var-preserved : goal.loop-var-preserved
loop-var-preserved g c =
    let parts = pieces-rest (λ (var : ℕ). decimal (var + 1) ++ codes " ") c.args.vars.now c.loop-var.var-index 0 c.loop-var-test.true in
    so_far-step parts c.loop-var.invariant c.in-Ok.ensures

pub returns-in-Err : goal.returns-in-Err
returns-in-Err g c =
    let parts = pieces-rest (λ (var : ℕ). decimal (var + 1) ++ codes " ") c.args.vars.now c.loop-var.var-index 0 c.loop-var-test.true in
    so_far-short _ parts c.loop-var.invariant c.in-Err.ensures
