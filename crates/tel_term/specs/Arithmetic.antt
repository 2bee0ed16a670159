-- Values of expressions. Operands are computed from left to right before their operation, and the first fault ends it.
use Rattle.std.specs.Prelude.{ℕ, ℤ, pos, negsuc, ◌+ℤ◌, ◌-ℤ◌, ◌*ℤ◌, neg_ℤ, int_le, int_div, int_rem, Bool, ◌&&◌, List, [], ◌∷◌, map, Result, Ok, Err, if◌then◌else◌, slice_index_or}
use Rattle.std.specs.Ordering.{int_eq}
use Rattle.tel_term.specs.declared.terms.Value.{Value}
use Rattle.tel_term.specs.declared.terms.Value.TheVariants as values
use Rattle.tel_term.specs.declared.arithmetic.EvalFault.{EvalFault}
use Rattle.tel_term.specs.declared.arithmetic.EvalFault.TheVariants.{Undefined, Range}
use Rattle.tel_term.specs.declared.exprs.SumOp.{SumOp}
use Rattle.tel_term.specs.declared.exprs.SumOp.TheVariants.{Plus, Minus}
use Rattle.tel_term.specs.declared.exprs.ProductOp.{ProductOp}
use Rattle.tel_term.specs.declared.exprs.ProductOp.TheVariants.{Times, Divide, Remainder}
use Rattle.tel_term.specs.declared.exprs.Expr.{Expr}
use Rattle.tel_term.specs.declared.exprs.Expr.TheOpen.{Expr-F}
use Rattle.tel_term.specs.declared.exprs.Expr.TheOpen as layers
use Rattle.tel_term.specs.declared.exprs.Expr.TheFolds.{fold-Expr}

-- a value, or the fault in its place
abbrev pub Valued : Type 0
Valued = Result Value EvalFault

-- what is done with a value; a fault stays
abbrev pub and_then : Valued → (Value → Valued) → Valued
and_then (Ok value) step = step value
and_then (Err fault) step = Err fault

-- the value of a variable, by its number; past the end 0
abbrev pub variable_value : List Value → ℕ → Value
variable_value binding variable = slice_index_or binding variable (values.Num (pos 0))

-- -2147483648 to 2147483647
abbrev pub is_held : ℤ → Bool
is_held n = int_le (negsuc 2147483647) n && int_le n (pos 2147483647)

-- a number is held to the range
abbrev pub held : ℤ → Valued
held n = if is_held n then Ok (values.Num n) else Err Range

abbrev pub negated : Value → Valued
negated (values.Num n) = held (neg_ℤ n)
negated (values.Sym symbol) = Err Undefined

abbrev pub summed : SumOp → ℤ → ℤ → Valued
summed Plus m n = held (m +ℤ n)
summed Minus m n = held (m -ℤ n)

-- division cuts towards 0, and the remainder has the sign of the left side
abbrev pub multiplied : ProductOp → ℤ → ℤ → Valued
multiplied Times m n = held (m *ℤ n)
multiplied Divide m n = if int_eq n (pos 0) then Err Undefined else held (int_div m n)
multiplied Remainder m n = if int_eq n (pos 0) then Err Undefined else held (int_rem m n)

-- an operation on two values, which have to be numbers
abbrev pub on_numbers : (ℤ → ℤ → Valued) → Value → Value → Valued
on_numbers operation (values.Num m) (values.Num n) = operation m n
on_numbers operation left right = Err Undefined

-- an operation on its two operands: first the left one, then the right one, then itself
abbrev pub applied : (ℤ → ℤ → Valued) → Valued → Valued → Valued
applied operation left right =
    and_then left (λ (first : Value). and_then right (λ (second : Value). on_numbers operation first second))

-- a chain of operations, of which the one on the left is the left operand of the next
abbrev pub chained : {Op : Type 0} → (Op → ℤ → ℤ → Valued) → Valued → List (Op × Valued) → Valued
chained operation first [] = first
chained operation first (next ∷ more) = chained operation (applied (operation next.0) first next.1) more

-- the value of an expression from those of its parts
abbrev pub layer_value : List Value → Expr-F Valued → Valued
layer_value binding (layers.Value value) = Ok value
layer_value binding (layers.Var variable) = Ok (variable_value binding variable)
layer_value binding (layers.Minus inner) = and_then inner negated
layer_value binding (layers.Sum first more) = chained summed first more
layer_value binding (layers.Product first more) = chained multiplied first more

-- the value of an expression under a binding of its variables, or its first fault from the left
abbrev pub expr_value : List Value → Expr → Valued
expr_value binding expr = fold-Expr Valued (layer_value binding) expr

-- operands with their values
abbrev pub valued : {Op : Type 0} → List Value → List (Op × Expr) → List (Op × Valued)
valued {Op} binding operands = map (λ (operand : Op × Expr). (operand.0, expr_value binding operand.1)) operands
