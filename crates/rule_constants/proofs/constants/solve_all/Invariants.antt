use Rattle.rule_constants.specs.Operands.{by_number}
use Rattle.rule_constants.specs.Solving.{IsSettled, AreFine}
use Rattle.rule_constants.proofs.constants.solve_all.Given as goal

abbrev pub invariant-loop-number : goal.invariant-loop-number
invariant-loop-number l = IsSettled l.statements l.links l.known.items l.tried.items × AreFine l.statements (by_number l.known.items) l.number
