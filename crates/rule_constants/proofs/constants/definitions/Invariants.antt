use Rattle.std.proofs.Common.{take}
use Rattle.rule_constants.specs.Solving.{HasDefinitions}
use Rattle.rule_constants.proofs.constants.definitions.Given as goal

abbrev pub invariant-loop-number : goal.invariant-loop-number
invariant-loop-number l = HasDefinitions l.places (take l.number l.statements)
