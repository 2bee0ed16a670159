use Rattle.std.proofs.Common.{◌<◌, ◌^◌, ◌-◌, length, sym, arith}
use Rattle.std.proofs.lemmas.Bool.{lt-leb}
use Rattle.tel_base.specs.Digits.{decimal}
use Rattle.tel_base.proofs.Decimals.{decimal_front}
use Rattle.tel_lex.proofs.front.is_in_range.Goals as goal

pub returns-then-value-gt-GREATEST : goal.returns-then-value-gt-GREATEST
returns-then-value-gt-GREATEST c =
    let within : c.loop-digit.digit-index < length c.args.digits.now = omega arith in
    sym (lt-leb (decimal c.args.digits.now) (2 ^ 31 - 1) (omega (arith, c.saturating_sub.ensures, c.from.ensures, c.loop-digit.invariant.value, decimal_front c.args.digits.now c.loop-digit.digit-index within)))
