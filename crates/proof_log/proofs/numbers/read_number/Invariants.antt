use Rattle.proof_log.proofs.Numerals.{IsReading}
use Rattle.proof_log.proofs.numbers.read_number.Given as goal

abbrev pub invariant-loop-place : goal.invariant-loop-place
invariant-loop-place l = IsReading l.low l.bytes l.at l.place l.value
