use Rattle.std.proofs.Common.{arith, sym, subst, ◌∙◌}
use Rattle.std.proofs.lemmas.Bool.{false≢true}
use Rattle.proof_log.specs.Parts.{AnyOf, IsEntry}
use Rattle.proof_log.specs.Texts.{StopsAt}
use Rattle.proof_log.proofs.Entries.{close-stops, minus-stops, plus-stops, last-stops}
use Rattle.proof_log.proofs.lists.read_entry.Goals as goal
use Rattle.proof_log.proofs.lists.read_entry.Goals.{else-low-gt0-via-then-low-gt0+else-stands, else-low-gt0-via-else-low-gt0, else-signed-via-then-signed+else-stands-2, else-signed-via-else-signed}

pub returns-in-Err-clause-err : goal.returns-in-Err-clause-err
returns-in-Err-clause-err c =
    let is = c.stands.ensures.0 c.if-stands.true in
    let stops = close-stops c.args.signed c.args.low c.args.end c.args.bytes.now c.args.at is.0 (sym is.1) (omega (arith, c.if-low-gt0.true)) c.in-Err.ensures.err.1 in
    subst (λ p. StopsAt (AnyOf (IsEntry c.args.signed c.args.low c.args.end)) c.args.bytes.now c.args.at p) (sym c.in-Err.ensures.err.0) stops

pub returns-then-low-eq4294967295-clause-err : goal.returns-then-low-eq4294967295-clause-err
returns-then-low-eq4294967295-clause-err c =
    last-stops c.args.signed c.args.low c.args.end c.args.bytes.now c.args.at
    (λ within same some. elim c.else-low-gt0.branch [
      | else-low-gt0-via-then-low-gt0+else-stands w ↦ absurd (false≢true (sym w.if-stands.false ∙ w.stands.ensures.1 (within, same)))
      | else-low-gt0-via-else-low-gt0 w ↦ absurd (omega (arith, some, w.if-low-gt0.false))
    ])
    (omega (arith, c.if-low-eq4294967295.true))

pub returns-in-Err-read_lit-clause-err : goal.returns-in-Err-read_lit-clause-err
returns-in-Err-read_lit-clause-err c =
    let is = c.stands-then-signed.ensures.0 c.if-stands-2.true in
    minus-stops c.args.signed c.args.low c.args.end c.args.bytes.now c.args.at c.in-Err-read_lit.place is.0 (sym is.1) c.if-signed.true c.in-Err-read_lit.ensures.err

pub returns-in-Err-read_lit-2-clause-err : goal.returns-in-Err-read_lit-2-clause-err
returns-in-Err-read_lit-2-clause-err c =
    plus-stops c.args.signed c.args.low c.args.end c.args.bytes.now c.args.at c.in-Err-read_lit-2.place
    (λ within same some. elim c.else-low-gt0.branch [
      | else-low-gt0-via-then-low-gt0+else-stands w ↦ absurd (false≢true (sym w.if-stands.false ∙ w.stands.ensures.1 (within, same)))
      | else-low-gt0-via-else-low-gt0 w ↦ absurd (omega (arith, some, w.if-low-gt0.false))
    ])
    (λ within same with_signs. elim c.else-signed.branch [
      | else-signed-via-then-signed+else-stands-2 w ↦ absurd (false≢true (sym w.if-stands-2.false ∙ w.stands-then-signed.ensures.1 (within, same)))
      | else-signed-via-else-signed w ↦ absurd (false≢true (sym w.if-signed.false ∙ with_signs))
    ])
    c.in-Err-read_lit-2.ensures.err
