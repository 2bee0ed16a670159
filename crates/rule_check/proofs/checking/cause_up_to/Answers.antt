use Rattle.std.proofs.Common.{◌≡◌, Bool, List, Some, sym, subst, arith}
use Rattle.std.specs.Prelude.{slice_get}
use Rattle.tel_rule.specs.declared.statements.Signature.{Signature}
use Rattle.tel_rule.specs.declared.statements.Statement.{Statement}
use Rattle.tel_semantics.specs.Tables.{is_table}
use Rattle.rule_binding.specs.Heads.{tells}
use Rattle.rule_check.specs.Checking.{IsClear, IsUnclear, AreClear, IsFirstUnclear}
use Rattle.rule_check.proofs.FirstCauses.{one_table, first_unclear, unclear_at, const_at, faulty_at}
use Rattle.rule_check.proofs.checking.cause_up_to.Goals as goal

pub returns-in-Err : goal.returns-in-Err
returns-in-Err c = λ some.
    let P = c.args.program.now.statements in
    let T = tells c.args.tables.now in
    let n = c.args.number in
    let tables : T ≡ is_table P = one_table T (is_table P) c.requires.tables in
    let here = subst (λ (S : List Statement). IsFirstUnclear T S n c.in-Err.fault) c.as_slice.ensures (c.in-Err.ensures.fault some) in
    first_unclear c.args.program.now n n c.in-Err.fault (omega arith) c.requires.faulty.1 (subst (λ (U : Signature → Bool). IsFirstUnclear U P n c.in-Err.fault) tables here)

pub returns-in-Ok-examine : goal.returns-in-Ok-examine
returns-in-Ok-examine c = λ some.
    let P = c.args.program.now.statements in
    let T = tells c.args.tables.now in
    let n = c.args.number in
    let s = c.in-Some.statement.now in
    let tables : T ≡ is_table P = one_table T (is_table P) c.requires.tables in
    let at : slice_get P n ≡ Some s = sym c.in-Some.ensures.value in
    let before = subst (λ (U : Signature → Bool). AreClear U P n) tables (subst (λ (S : List Statement). AreClear T S n) c.as_slice.ensures c.in-Ok.ensures.ok) in
    let here = subst (λ (U : Signature → Bool). IsClear U s) tables c.in-Ok-examine.ensures.ok in
    let faulty = faulty_at P c.args.program.now.symbols n s c.requires.faulty at in
    const_at c.args.program.now n s c.const_fault.result at before c.requires.faulty.1 here faulty.0 faulty.1 c.const_fault.ensures some

pub returns-in-Err-examine : goal.returns-in-Err-examine
returns-in-Err-examine c = λ some.
    let P = c.args.program.now.statements in
    let T = tells c.args.tables.now in
    let n = c.args.number in
    let s = c.in-Some.statement.now in
    let tables : T ≡ is_table P = one_table T (is_table P) c.requires.tables in
    let at : slice_get P n ≡ Some s = sym c.in-Some.ensures.value in
    let before = subst (λ (U : Signature → Bool). AreClear U P n) tables (subst (λ (S : List Statement). AreClear T S n) c.as_slice.ensures c.in-Ok.ensures.ok) in
    let here = subst (λ (U : Signature → Bool). IsUnclear U s c.in-Err-examine.fault) tables (c.in-Err-examine.ensures.fault some) in
    unclear_at c.args.program.now n s c.in-Err-examine.fault at before c.requires.faulty.1 here
