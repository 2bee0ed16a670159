use Rattle.std.proofs.Common.{◌≡◌, ◌++◌, map, drop}
use Rattle.rule_constants.specs.Constants.{replacement}
use Rattle.rule_constants.specs.Operands.{by_number}
use Rattle.rule_constants.specs.Replaced.{formula_replaced}
use Rattle.rule_constants.proofs.programs.+formulas.Given as goal

abbrev pub invariant-formulas-loop-operand : goal.invariant-formulas-loop-operand
invariant-formulas-loop-operand l = l.new ++ map (formula_replaced (replacement l.links (by_number l.known))) (drop l.operand-index l.formulas) ≡ map (formula_replaced (replacement l.links (by_number l.known))) l.formulas
