use Rattle.std.proofs.Common.{◌+◌, ◌-◌, ◌<◌, ◌≤◌}
use Rattle.proof_log.specs.Lines.{greatest}
use Rattle.proof_log.proofs.Digits.{Spreads}
use Rattle.proof_log.proofs.numbers.may_grow.Given as goal

abbrev pub invariant-loop-most : goal.invariant-loop-most
invariant-loop-most l = record {
  spreads : Spreads l.value l.low l.least l.most;
  fits : l.value ≤ greatest;
  room : l.low < greatest;
}

abbrev pub decreases-loop-most : goal.decreases-loop-most
decreases-loop-most l = l.low + 1 - l.most
