use Rattle.std.proofs.Common.{ℕ, true}
use Rattle.proof_log.specs.Parts.{AnyOf, IsList, IsTail}
use Rattle.proof_log.specs.Texts.{StopsAt}
use Rattle.proof_log.proofs.LineStops.{on-syntax, length-stops, end-stops, clause-stops}
use Rattle.proof_log.proofs.reading.read_tail.Goals as goal

pub returns-in-Err-clause-err : goal.returns-in-Err-clause-err
returns-in-Err-clause-err c = length-stops c.args.bytes.now c.args.at c.args.opening c.in-Err.place c.in-Length.is c.in-Err.ensures.err

pub returns-in-Err-read_number-clause-err : goal.returns-in-Err-read_number-clause-err
returns-in-Err-read_number-clause-err c = end-stops c.args.bytes.now c.args.at c.args.opening c.in-Err-read_number.place c.in-End.is c.in-Err-read_number.ensures.err

pub returns-in-Err-read_clause-clause-err : goal.returns-in-Err-read_clause-clause-err
returns-in-Err-read_clause-clause-err c =
    on-syntax c.in-Err-read_clause.fault
    (λ (place : ℕ). StopsAt (AnyOf (IsList true 0 10)) c.args.bytes.now c.args.at place)
    (λ (place : ℕ). StopsAt (AnyOf (IsTail c.args.opening)) c.args.bytes.now c.args.at place)
    (λ place s. clause-stops c.args.bytes.now c.args.at c.args.opening c.in-Clause.kind place c.in-Clause.is s)
    c.in-Err-read_clause.ensures.err
