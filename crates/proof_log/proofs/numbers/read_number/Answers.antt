use Rattle.std.proofs.Common.{get_or, arith, refl}
use Rattle.proof_log.proofs.Numerals.{reading-start, reading-more, reading-stuck, reading-short}
use Rattle.proof_log.proofs.numbers.read_number.Goals as goal
use Rattle.proof_log.proofs.numbers.read_number.Goals.{else-byte-end-via-then-byte-end+else-low-value, else-byte-end-via-else-byte-end}

pub loop-place-init : goal.loop-place-init
loop-place-init c = reading-start c.args.low c.args.bytes.now c.args.at c.requires.room c.requires.within

pub loop-place-preserved : goal.loop-place-preserved
loop-place-preserved c =
    let some = c.in-Some.ensures.some in
    reading-more c.args.low c.args.bytes.now c.args.at c.loop-place.place c.loop-place.value (get_or c.args.bytes.now c.loop-place.place 0) c.in-Some.more
    c.loop-place.invariant c.loop-place-test.true refl some.0 some.1 some.2 some.3

pub returns-in-None-clause-err : goal.returns-in-None-clause-err
returns-in-None-clause-err c =
    reading-stuck c.args.low c.args.end c.args.bytes.now c.args.at c.loop-place.place c.loop-place.value (get_or c.args.bytes.now c.loop-place.place 0)
    c.loop-place.invariant c.loop-place-test.true refl c.requires.end
    (λ same over. elim c.else-byte-end.branch [ else-byte-end-via-then-byte-end+else-low-value w ↦ absurd (omega (arith, over, w.if-low-value.false)) | else-byte-end-via-else-byte-end w ↦ absurd (w.if-byte-end.false same) ])
    c.in-None.ensures.none

pub returns-clause-err : goal.returns-clause-err
returns-clause-err c =
    reading-short c.args.low c.args.end c.args.bytes.now c.args.at c.loop-place.place c.loop-place.value c.loop-place.invariant (omega (arith, c.loop-place.invariant.within, c.loop-place-test.false)) c.requires.end
