use Rattle.std.proofs.Common.{◌<◌, length, arith, sym, subst}
use Rattle.proof_log.specs.Parts.{AnyOf, IsOpening}
use Rattle.proof_log.specs.Texts.{StopsAt}
use Rattle.proof_log.proofs.LineStops.{opening-stops, space-stops}
use Rattle.proof_log.proofs.reading.read_opening.Goals as goal

pub returns-then-at-bytes-clause-err : goal.returns-then-at-bytes-clause-err
returns-then-at-bytes-clause-err c =
    opening-stops c.args.bytes.now c.args.at (λ opening within is. absurd (omega (arith, within, c.if-at-bytes.true)))

pub returns-in-Err-clause-err : goal.returns-in-Err-clause-err
returns-in-Err-clause-err c =
    let within : c.args.at < length c.args.bytes.now = omega (arith, c.requires, c.if-at-bytes.false) in
    subst (λ p. StopsAt (AnyOf IsOpening) c.args.bytes.now c.args.at p) (sym c.in-Err.ensures.err.0)
    (space-stops c.args.bytes.now c.args.at c.in-Some.opening within c.in-Some.ensures.some c.in-Err.ensures.err.1)

pub returns-in-None-clause-err : goal.returns-in-None-clause-err
returns-in-None-clause-err c =
    opening-stops c.args.bytes.now c.args.at (λ opening within is. c.in-None.ensures.none opening is)
