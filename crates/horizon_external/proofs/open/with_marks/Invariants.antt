use Rattle.std.proofs.Common.{◌≡◌, ℕ, ◌+◌, ◌-◌, false, get_or}
use Rattle.std.specs.List.{filter, range_with_len}
use Rattle.horizon_external.proofs.open.with_marks.Given as goal

abbrev pub invariant-loop-mark : goal.invariant-loop-mark
invariant-loop-mark l = record {
  place : l.var ≡ l.low + l.mark-index;
  list : l.list ≡ filter (λ (var : ℕ). get_or l.marks (var - l.low) false) (range_with_len l.low l.mark-index);
}
