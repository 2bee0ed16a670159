use Rattle.std.proofs.Common.{◌≡◌, Bool, List, length, subst, arith}
use Rattle.tel_rule.specs.declared.statements.Signature.{Signature}
use Rattle.tel_rule.specs.declared.statements.Statement.{Statement}
use Rattle.tel_semantics.specs.Tables.{is_table}
use Rattle.rule_binding.specs.Heads.{tells}
use Rattle.rule_check.specs.Checking.{AreClear, IsFirstUnclear}
use Rattle.rule_check.proofs.FirstCauses.{one_table, is_sound, first_unclear}
use Rattle.rule_check.proofs.checking.first_cause.Goals as goal

pub returns-in-Ok-examine_first-clause-sound : goal.returns-in-Ok-examine_first-clause-sound
returns-in-Ok-examine_first-clause-sound c =
    let P = c.args.program.now.statements in
    let s = c.as_slice-statements.ensures in
    let tables : tells c.in-Ok.tables ≡ is_table c.as_slice-statements.result.now = one_table (tells c.in-Ok.tables) (is_table c.as_slice-statements.result.now) c.in-Ok.ensures in
    let here = c.in-Ok-examine_first.ensures.ok in
    let there = subst (λ (T : Signature → Bool). AreClear T c.as_slice-statements.result.now (length c.as_slice-statements.result.now)) tables here in
    is_sound c.args.program.now (subst (λ (S : List Statement). AreClear (is_table S) S (length S)) s there) c.in-Ok-find_constants.ensures.sound

pub returns-in-Ok-find_constants-clause-fault : goal.returns-in-Ok-find_constants-clause-fault
returns-in-Ok-find_constants-clause-fault c = λ some.
    let P = c.args.program.now.statements in
    let s = c.as_slice-statements.ensures in
    let tables : tells c.in-Ok.tables ≡ is_table c.as_slice-statements.result.now = one_table (tells c.in-Ok.tables) (is_table c.as_slice-statements.result.now) c.in-Ok.ensures in
    let fault = c.in-Err-examine_first.fault in
    let here = c.in-Err-examine_first.ensures.fault some in
    let there = subst (λ (T : Signature → Bool). IsFirstUnclear T c.as_slice-statements.result.now (length c.as_slice-statements.result.now) fault) tables here in
    first_unclear c.args.program.now (length P) (length P) fault (omega arith) c.in-Ok-find_constants.ensures.sound (subst (λ (S : List Statement). IsFirstUnclear (is_table S) S (length S) fault) s there)
