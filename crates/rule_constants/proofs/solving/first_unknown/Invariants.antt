use Rattle.std.proofs.Common.{length, ◌-◌, ◌≡◌, ◌≤◌, true, take}
use Rattle.rule_constants.specs.Constants.{all_known}
use Rattle.rule_constants.specs.Operands.{by_number}
use Rattle.rule_constants.proofs.solving.first_unknown.Given as goal

abbrev pub invariant-loop-next : goal.invariant-loop-next
invariant-loop-next l =
    (l.next ≤ length l.needs) × (all_known (by_number l.known) (take l.from l.needs) ≡ true → all_known (by_number l.known) (take l.next l.needs) ≡ true)

abbrev pub decreases-loop-next : goal.decreases-loop-next
decreases-loop-next l = length l.needs - l.next
