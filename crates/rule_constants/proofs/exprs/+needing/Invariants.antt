use Rattle.std.proofs.Common.{◌≡◌, ◌++◌, drop}
use Rattle.rule_constants.specs.Constants.{operand_lists}
use Rattle.rule_constants.specs.Operands.{each_needs}
use Rattle.rule_constants.proofs.exprs.+needing.Given as goal

abbrev pub invariant-push_sum_needs-loop-operand : goal.invariant-push_sum_needs-loop-operand
invariant-push_sum_needs-loop-operand l = l.needs.items ++ operand_lists (each_needs l.links (drop l.operand-index l.operands)) ≡ l.fn.needs.items ++ operand_lists (each_needs l.links l.operands)

abbrev pub invariant-push_product_needs-loop-operand : goal.invariant-push_product_needs-loop-operand
invariant-push_product_needs-loop-operand l = l.needs.items ++ operand_lists (each_needs l.links (drop l.operand-index l.operands)) ≡ l.fn.needs.items ++ operand_lists (each_needs l.links l.operands)
