use Rattle.std.proofs.Common.{◌+◌, ◌-◌, ◌*◌, ◌^◌, ◌<◌, arith}
use Rattle.proof_log.proofs.Digits.{grows-fits}
use Rattle.proof_log.proofs.numbers.with_digit.Goals as goal

pub returns-then-more-gt-GREATEST-clause-none : goal.returns-then-more-gt-GREATEST-clause-none
returns-then-more-gt-GREATEST-clause-none c = λ digit some grows.
    let fits : 10 * c.args.value + (c.args.byte - 48) < 2 ^ 64 = omega (arith, c.ranges.value.fits, digit.1) in
    omega (arith, grows-fits c.args.low (10 * c.args.value + (c.args.byte - 48)) some fits grows, c.if-more-gt-GREATEST.true, c.from.ensures, c.from-2.ensures, digit.0)
