use Rattle.std.proofs.Common.{◌+◌, ◌*◌, length}
use Rattle.rule_constants.specs.Solving.{untried}
use Rattle.rule_constants.proofs.Walks.{IsWalk}
use Rattle.rule_constants.proofs.solving.solve.Given as goal

abbrev pub invariant-solving : goal.invariant-solving
invariant-solving l = IsWalk l.statements l.links l.start l.fn.known.items l.known.items l.tried.items l.below l.top

abbrev pub decreases-solving : goal.decreases-solving
decreases-solving l = 2 * untried l.tried.items + length l.below
