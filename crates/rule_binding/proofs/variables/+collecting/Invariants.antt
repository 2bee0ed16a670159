use Rattle.std.proofs.Common.{◌≡◌, ◌++◌, drop}
use Rattle.rule_binding.specs.Binding.{with_vars, operand_vars}
use Rattle.rule_binding.proofs.variables.+collecting.Given as goal

abbrev pub invariant-collect_sum-loop-operand : goal.invariant-collect_sum-loop-operand
invariant-collect_sum-loop-operand l = l.vars ++ operand_vars (with_vars (drop l.operand-index l.more)) ≡ l.initial.vars ++ operand_vars (with_vars l.more)

abbrev pub invariant-collect_product-loop-operand : goal.invariant-collect_product-loop-operand
invariant-collect_product-loop-operand l = l.vars ++ operand_vars (with_vars (drop l.operand-index l.more)) ≡ l.initial.vars ++ operand_vars (with_vars l.more)
