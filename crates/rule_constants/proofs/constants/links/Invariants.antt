use Rattle.std.proofs.Common.{◌≡◌, map, take}
use Rattle.rule_constants.specs.Constants.{term_definition}
use Rattle.rule_constants.proofs.constants.links.Given as goal

abbrev pub invariant-loop-number : goal.invariant-loop-number
invariant-loop-number l = l.links.items ≡ map (term_definition l.statements) (take l.number l.symbols)
