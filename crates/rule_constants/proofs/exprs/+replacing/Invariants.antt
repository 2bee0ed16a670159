use Rattle.std.proofs.Common.{◌≡◌, ◌++◌, drop}
use Rattle.rule_constants.specs.Constants.{replacement}
use Rattle.rule_constants.specs.Operands.{each_replaced, by_number}
use Rattle.rule_constants.proofs.exprs.+replacing.Given as goal

abbrev pub invariant-replaced_sum-loop-operand : goal.invariant-replaced_sum-loop-operand
invariant-replaced_sum-loop-operand l = l.new ++ each_replaced (replacement l.links (by_number l.known)) (drop l.operand-index l.operands) ≡ each_replaced (replacement l.links (by_number l.known)) l.operands

abbrev pub invariant-replaced_product-loop-operand : goal.invariant-replaced_product-loop-operand
invariant-replaced_product-loop-operand l = l.new ++ each_replaced (replacement l.links (by_number l.known)) (drop l.operand-index l.operands) ≡ each_replaced (replacement l.links (by_number l.known)) l.operands
