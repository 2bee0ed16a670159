use Rattle.std.proofs.Common.{◌≡◌, replicate}
use Rattle.std.specs.List.{range_with_len}
use Rattle.tel_semantics.proofs.candidates.full_trace_of.Given as goal

abbrev pub invariant-loop : goal.invariant-loop
invariant-loop l = l.trace ≡ replicate l.counter (range_with_len 0 l.count)
