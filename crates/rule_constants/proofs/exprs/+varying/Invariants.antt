use Rattle.std.proofs.Common.{◌≡◌, drop}
use Rattle.rule_constants.specs.Constants.{some_operand}
use Rattle.rule_constants.specs.Operands.{each_has_variable}
use Rattle.rule_constants.proofs.exprs.+varying.Given as goal

abbrev pub invariant-some_in_sum-loop-operand : goal.invariant-some_in_sum-loop-operand
invariant-some_in_sum-loop-operand l = some_operand (each_has_variable (drop l.operand-index l.operands)) ≡ some_operand (each_has_variable l.operands)

abbrev pub invariant-some_in_product-loop-operand : goal.invariant-some_in_product-loop-operand
invariant-some_in_product-loop-operand l = some_operand (each_has_variable (drop l.operand-index l.operands)) ≡ some_operand (each_has_variable l.operands)
