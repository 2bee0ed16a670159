-- What is said of the operands of a chain, each behind its operator.
use Rattle.std.specs.Prelude.{ℕ, Bool, List, map, Option, None, slice_index_or}
use Rattle.tel_term.specs.declared.terms.Value.{Value}
use Rattle.tel_term.specs.declared.exprs.Expr.{Expr}
use Rattle.rule_constants.specs.Constants.{needs_of, has_variable, expr_replaced, Values}

abbrev pub each_needs : {Op : Type 0} → List (Option ℕ) → List (Op × Expr) → List (Op × List ℕ)
each_needs {Op} links operands = map (λ (operand : Op × Expr). (operand.0, needs_of links operand.1)) operands

abbrev pub each_has_variable : {Op : Type 0} → List (Op × Expr) → List (Op × Bool)
each_has_variable {Op} operands = map (λ (operand : Op × Expr). (operand.0, has_variable operand.1)) operands

abbrev pub each_replaced : {Op : Type 0} → (Value → Value) → List (Op × Expr) → List (Op × Expr)
each_replaced {Op} new operands = map (λ (operand : Op × Expr). (operand.0, expr_replaced new operand.1)) operands

-- the values of a list, by their places
abbrev pub by_number : List (Option Value) → Values
by_number known number = slice_index_or known number None
