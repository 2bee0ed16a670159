use Rattle.std.proofs.Common.{◌≡◌, ◌∙◌, decimal}
use Rattle.proof_log.proofs.Steps.{puts-then, puts-short}
use Rattle.proof_log.proofs.writing.put_number.Goals as goal

pub returns-in-Ok-put : goal.returns-in-Ok-put
returns-in-Ok-put g c =
    let number : c.as_bytes.result.now ≡ decimal c.args.number = c.as_bytes.ensures.value ∙ c.format.ensures.text in
    rw (← number) (puts-then (puts-then c.in-Ok.ensures c.in-Ok-put.ensures) c.put-in-Ok-put.ensures)

pub returns-in-Err-put : goal.returns-in-Err-put
returns-in-Err-put g c =
    let number : c.as_bytes.result.now ≡ decimal c.args.number = c.as_bytes.ensures.value ∙ c.format.ensures.text in
    rw (← number) (puts-short c.args.after.now (puts-then c.in-Ok.ensures c.in-Err-put.ensures))
