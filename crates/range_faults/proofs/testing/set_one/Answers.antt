use Rattle.std.proofs.Common.{◌≡◌, rules}
use Rattle.std.specs.Prelude.{Ok, Err}
use Rattle.tel_term.specs.Arithmetic.{expr_value}
use Rattle.rule_settings.specs.Said.{said}
use Rattle.range_faults.proofs.Tested.{goes_on, stops_here}
use Rattle.range_faults.proofs.testing.set_one.Goals as goal

pub returns-in-Ok-clause-goes : goal.returns-in-Ok-clause-goes
returns-in-Ok-clause-goes c = λ exprs more.
    let is : expr_value c.args.values.now c.args.setting.value.now ≡ Ok c.in-Ok.value = search rules in
    goes_on exprs c.args.values.now c.put_value.new.values (said c.args.setting) c.in-Ok.value more is c.put_value.ensures.put

pub returns-in-Err-clause-goes : goal.returns-in-Err-clause-goes
returns-in-Err-clause-goes c = λ exprs more.
    let is : expr_value c.args.values.now c.args.setting.value.now ≡ Err c.in-Err.fault = search rules in
    stops_here exprs c.args.values.now (said c.args.setting) c.in-Err.fault more is
