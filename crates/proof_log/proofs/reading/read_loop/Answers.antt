use Rattle.std.proofs.Common.{ℕ, map, true, false}
use Rattle.tel_base.specs.Literals.{lit_of}
use Rattle.proof_log.specs.declared.reading.Opening.TheVariants as openings
use Rattle.proof_log.specs.Parts.{AnyOf, IsList, IsTail}
use Rattle.proof_log.specs.Texts.{StopsAt}
use Rattle.proof_log.proofs.LineStops.{on-syntax, loop-stands, loop-stops-first, loop-stops-set, loop-stops-clause}
use Rattle.proof_log.proofs.reading.read_loop.Goals as goal

pub returns-in-Ok-read_clause-clause-ok : goal.returns-in-Ok-read_clause-clause-ok
returns-in-Ok-read_clause-clause-ok c =
    loop-stands c.args.bytes.now c.args.at c.in-Ok.number c.in-Ok.at_set c.in-Ok-read_set.at_clause c.in-Ok-read_clause.after c.in-Ok-read_set.set c.in-Ok-read_clause.clause
    c.in-Ok.ensures.ok c.in-Ok-read_set.ensures.ok c.in-Ok-read_clause.ensures.ok

pub returns-in-Err-read_clause-clause-err : goal.returns-in-Err-read_clause-clause-err
returns-in-Err-read_clause-clause-err c =
    on-syntax c.in-Err-read_clause.fault
    (λ (place : ℕ). StopsAt (AnyOf (IsList true 0 10)) c.args.bytes.now c.in-Ok-read_set.at_clause place)
    (λ (place : ℕ). StopsAt (AnyOf (IsTail openings.Loop)) c.args.bytes.now c.args.at place)
    (λ place s. loop-stops-clause c.args.bytes.now c.args.at c.in-Ok.number c.in-Ok.at_set c.in-Ok-read_set.at_clause place (map lit_of c.in-Ok-read_set.set) c.in-Ok.ensures.ok c.in-Ok-read_set.ensures.ok s)
    c.in-Err-read_clause.ensures.err

pub returns-in-Err-read_set-clause-err : goal.returns-in-Err-read_set-clause-err
returns-in-Err-read_set-clause-err c =
    on-syntax c.in-Err-read_set.fault
    (λ (place : ℕ). StopsAt (AnyOf (IsList false 0 32)) c.args.bytes.now c.in-Ok.at_set place)
    (λ (place : ℕ). StopsAt (AnyOf (IsTail openings.Loop)) c.args.bytes.now c.args.at place)
    (λ place s. loop-stops-set c.args.bytes.now c.args.at c.in-Ok.number c.in-Ok.at_set place c.in-Ok.ensures.ok s)
    c.in-Err-read_set.ensures.err

pub returns-in-Err-clause-err : goal.returns-in-Err-clause-err
returns-in-Err-clause-err c = loop-stops-first c.args.bytes.now c.args.at c.in-Err.place c.in-Err.ensures.err
