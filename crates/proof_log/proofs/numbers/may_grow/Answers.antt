use Rattle.std.proofs.Common.{◌≡◌, ◌+◌, ◌*◌, ◌≤◌, ◌<◌, arith, subst, ⊎_elim}
use Rattle.std.proofs.lemmas.Bool.{leb-true, le-leb, cases_lt}
use Rattle.proof_log.specs.Lines.{greatest}
use Rattle.proof_log.proofs.Digits.{Spreads, spreads-start, spreads-more, spreads-found, spreads-none}
use Rattle.proof_log.proofs.numbers.may_grow.Goals as goal

pub loop-most-init : goal.loop-most-init
loop-most-init c = record {
  spreads = spreads-start c.args.value c.args.low c.requires.some;
  fits = c.requires.fits;
  room = c.requires.room;
}

pub loop-most-preserved : goal.loop-most-preserved
loop-most-preserved c =
    let tens : 10 * c.loop-most.least ≡ c.loop-most.least * 10 = omega arith in
    let nines : 10 * c.loop-most.most + 9 ≡ c.loop-most.most * 10 + 9 = omega arith in
    record {
      spreads = subst (λ m. Spreads c.args.value c.args.low (c.loop-most.least * 10) m) nines
          (subst (λ l. Spreads c.args.value c.args.low l (10 * c.loop-most.most + 9)) tens (spreads-more c.args.value c.args.low c.loop-most.least c.loop-most.most c.loop-most-test.true c.loop-most.invariant.spreads));
      fits = c.requires.fits;
      room = c.requires.room;
    }

pub returns : goal.returns
returns c = (
  λ small. spreads-found c.args.value c.args.low c.loop-most.least c.loop-most.most c.loop-most-test.false (leb-true c.loop-most.least 4294967295 small) c.requires.room c.loop-most.invariant.spreads,
  λ grows. ⊎_elim
      (λ (over : greatest < c.loop-most.least). absurd (spreads-none c.args.value c.args.low c.loop-most.least c.loop-most.most c.requires.fits over c.loop-most.invariant.spreads grows))
      (λ (small : c.loop-most.least ≤ greatest). le-leb c.loop-most.least 4294967295 small)
      (cases_lt greatest c.loop-most.least),
)
