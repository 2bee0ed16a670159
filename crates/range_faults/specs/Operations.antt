-- The expressions that have an operation: no other one can lack a value.
use Rattle.std.specs.Prelude.{Bool, true, false, List, [], ◌∷◌, map, if◌then◌else◌}
use Rattle.std.specs.List.{flat_map}
use Rattle.tel_term.specs.declared.exprs.Expr.{Expr}
use Rattle.tel_term.specs.declared.exprs.Expr.TheOpen.{Expr-F}
use Rattle.tel_term.specs.declared.exprs.Expr.TheOpen as layers
use Rattle.tel_term.specs.declared.exprs.Expr.TheFolds.{fold-Expr}
use Rattle.tel_rule.specs.declared.formulas.Formula.{Formula}
use Rattle.tel_rule.specs.declared.formulas.Formula.TheFolds.{fold-Formula}
use Rattle.live_instances.specs.Instances.{layer_exprs}
use Rattle.range_faults.specs.declared.operations.Operation.{Operation}

abbrev pub layer_operates : Expr-F Bool → Bool
layer_operates (layers.Value value) = false
layer_operates (layers.Var v) = false
layer_operates (layers.Minus inner) = true
layer_operates (layers.Sum first more) = true
layer_operates (layers.Product first more) = true

-- whether an expression is an operation, and no value or variable alone
abbrev pub operates : Expr → Bool
operates expr = fold-Expr Bool layer_operates expr

abbrev pub operation_of : Expr → List Expr
operation_of expr = if operates expr then expr ∷ [] else []

-- those of some expressions that are operations
abbrev pub operations : List Expr → List Expr
operations exprs = flat_map operation_of exprs

-- the expressions of a formula, from left to right
abbrev pub formula_exprs : Formula → List Expr
formula_exprs formula = fold-Formula (List Expr) layer_exprs formula

abbrev pub joined : List (List Expr) → List Expr
joined lists = flat_map (λ (exprs : List Expr). exprs) lists

-- ---- as contracts see them

abbrev pub said : Operation → Expr
said operation = operation.expr.now

abbrev pub all_said : List Operation → List Expr
all_said list = map said list
