use Rattle.std.proofs.Common.{◌≡◌, ◌<◌, ℕ}
use Rattle.std.specs.Prelude.{Some, slice_get}
use Rattle.tel_rule.specs.declared.statements.Statement.{Statement}
use Rattle.live_instances.specs.Reached.{LeavesRange}
use Rattle.range_faults.proofs.finding.first_leaving.Given as goal

abbrev pub invariant-loop-number : goal.invariant-loop-number
invariant-loop-number g l = (other : ℕ) (earlier : Statement) → other < l.number → slice_get l.statements other ≡ Some earlier → LeavesRange l.statements l.symbols earlier → ⊥
