use Rattle.std.proofs.Common.{◌≡◌, ◌≤◌, take, length}
use Rattle.cdcl_search.specs.Steps.{loop_set}
use Rattle.cdcl_search.proofs.loops.last_with.Given as goal

abbrev pub invariant-looking : goal.invariant-looking
invariant-looking l = (l.at ≤ length l.loops) × (loop_set (take l.at l.loops) l.clause ≡ loop_set l.loops l.clause)

abbrev pub decreases-looking : goal.decreases-looking
decreases-looking l = l.at
