use Rattle.std.proofs.Common.{◌≡◌, ℕ, ◌+◌, ◌<◌, ◌||◌, false, get_or, length, drop}
use Rattle.horizon_external.specs.Occurring.{occurs}
use Rattle.horizon_external.proofs.open.marked.Given as goal

abbrev pub invariant-loop-var : goal.invariant-loop-var
invariant-loop-var l = record {
  len : length l.marks.items ≡ l.width;
  marks : (k : ℕ) → k < l.width → (get_or l.marks.items k false || occurs (l.low + k) (drop l.var-index l.vars)) ≡ occurs (l.low + k) l.vars;
}
