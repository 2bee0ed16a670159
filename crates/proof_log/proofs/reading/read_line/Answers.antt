use Rattle.std.proofs.Common.{ℕ}
use Rattle.proof_log.specs.declared.line.LogFault.TheVariants as faults
use Rattle.proof_log.specs.Parts.{AnyOf, IsTail}
use Rattle.proof_log.specs.Texts.{StopsAt, IsLineText}
use Rattle.proof_log.proofs.LineStops.{on-syntax, line-stands, line-stops-opening, line-stops-tail, found-again, fault-again}
use Rattle.proof_log.proofs.reading.read_line.Goals as goal

pub returns-in-Ok-read_tail-clause-ok : goal.returns-in-Ok-read_tail-clause-ok
returns-in-Ok-read_tail-clause-ok c =
    line-stands c.args.bytes.now c.args.at c.in-Ok.opening c.in-Ok-read_tail.line c.in-Ok.mid c.in-Ok-read_tail.after c.in-Ok.ensures.ok c.in-Ok-read_tail.ensures.ok

pub returns-in-Err-read_tail-clause-syntax : goal.returns-in-Err-read_tail-clause-syntax
returns-in-Err-read_tail-clause-syntax c =
    on-syntax c.in-Err-read_tail.fault
    (λ (place : ℕ). StopsAt (AnyOf (IsTail c.in-Ok.opening)) c.args.bytes.now c.in-Ok.mid place)
    (λ (place : ℕ). StopsAt IsLineText c.args.bytes.now c.args.at place)
    (λ place s. line-stops-tail c.args.bytes.now c.args.at c.in-Ok.opening c.in-Ok.mid place c.in-Ok.ensures.ok s)
    c.in-Err-read_tail.ensures.err

pub returns-in-Err-clause-syntax : goal.returns-in-Err-clause-syntax
returns-in-Err-clause-syntax c = line-stops-opening c.args.bytes.now c.args.at c.in-Err.place c.in-Err.ensures.err

pub returns-in-Ok-read_tail-clause-again : goal.returns-in-Ok-read_tail-clause-again
returns-in-Ok-read_tail-clause-again c = λ line rest form e.
    let is = line-stands c.args.bytes.now c.args.at c.in-Ok.opening c.in-Ok-read_tail.line c.in-Ok.mid c.in-Ok-read_tail.after c.in-Ok.ensures.ok c.in-Ok-read_tail.ensures.ok in
    (found-again line c.in-Ok-read_tail.line rest c.args.bytes.now c.args.at c.in-Ok-read_tail.after is form e, tt)

pub returns-in-Err-read_tail-clause-again : goal.returns-in-Err-read_tail-clause-again
returns-in-Err-read_tail-clause-again c = λ line rest form e.
    (tt, fault-again c.in-Err-read_tail.fault line rest c.args.bytes.now c.args.at (returns-in-Err-read_tail-clause-syntax c) form e)

pub returns-in-Err-clause-again : goal.returns-in-Err-clause-again
returns-in-Err-clause-again c = λ line rest form e.
    (tt, fault-again (faults.Syntax c.in-Err.place) line rest c.args.bytes.now c.args.at (line-stops-opening c.args.bytes.now c.args.at c.in-Err.place c.in-Err.ensures.err) form e)
