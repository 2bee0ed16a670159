use Rattle.std.proofs.Common.{◌∙◌}
use Rattle.rule_check.proofs.Kept.{sound-kept}
use Rattle.rule_check.proofs.Replacing.{is_replaced}
use Rattle.rule_check.proofs.checked.check.Goals as goal

pub returns-clause-replaced : goal.returns-clause-replaced
returns-clause-replaced c =
    is_replaced c.args.program c.as_slice-2.result.now c.as_slice-3.result.now c.in-Ok-first_cause.constants.values.items c.as_slice-4.result.now c.in-Ok-replaced.statements (c.as_slice-2.ensures.value ∙ c.in-Ok-first_cause.ensures.links) c.as_slice-3.ensures.value c.as_slice-4.ensures c.in-Ok-first_cause.ensures.values c.in-Ok-replaced.ensures

pub invariant_of-result-clause-is_checked : goal.invariant_of-result-clause-is_checked
invariant_of-result-clause-is_checked c =
    ∣ (c.args.program, c.in-Ok-first_cause.ensures.sound, is_replaced c.args.program c.as_slice-2.result.now c.as_slice-3.result.now c.in-Ok-first_cause.constants.values.items c.as_slice-4.result.now c.in-Ok-replaced.statements (c.as_slice-2.ensures.value ∙ c.in-Ok-first_cause.ensures.links) c.as_slice-3.ensures.value c.as_slice-4.ensures c.in-Ok-first_cause.ensures.values c.in-Ok-replaced.ensures) ∣₁

pub invariant_of-result-clause-is_sound : goal.invariant_of-result-clause-is_sound
invariant_of-result-clause-is_sound c =
    sound-kept c.args.program (record { statements = c.in-Ok-replaced.statements; symbols = c.args.program.symbols }) c.in-Ok-first_cause.ensures.sound (is_replaced c.args.program c.as_slice-2.result.now c.as_slice-3.result.now c.in-Ok-first_cause.constants.values.items c.as_slice-4.result.now c.in-Ok-replaced.statements (c.as_slice-2.ensures.value ∙ c.in-Ok-first_cause.ensures.links) c.as_slice-3.ensures.value c.as_slice-4.ensures c.in-Ok-first_cause.ensures.values c.in-Ok-replaced.ensures)
