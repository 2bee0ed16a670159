use Rattle.std.proofs.Common.{◌<◌, length, arith}
use Rattle.tel_base.proofs.Decimals.{decimal_front}
use Rattle.tel_settings.proofs.values.value_of.Goals as goal

pub returns-in_default-clause-none : goal.returns-in_default-clause-none
returns-in_default-clause-none c = λ _.
    let within : c.loop-digit.digit-index < length c.args.digits.now = omega arith in
    omega (arith, c.in_default.ensures, c.loop-digit.invariant.value, decimal_front c.args.digits.now c.loop-digit.digit-index within)

pub returns-in_default-checked_add-clause-none : goal.returns-in_default-checked_add-clause-none
returns-in_default-checked_add-clause-none c = λ _.
    let within : c.loop-digit.digit-index < length c.args.digits.now = omega arith in
    omega (arith, c.in_default-checked_add.ensures, c.in-Some.ensures, c.from.ensures, c.loop-digit.invariant.value, decimal_front c.args.digits.now c.loop-digit.digit-index within)
