-- What an expression rests on, its variables and its replacement, variant by variant; and induction on expressions.
use Rattle.std.proofs.Common.{◌≡◌, ℕ, Bool, false, true, List, ◌++◌, map, Option, sym, ap, subst, ◌∙◌}
use Rattle.std.specs.Prelude.{Ok}
use Rattle.tel_term.specs.Arithmetic.{Valued, expr_value, and_then, negated, layer_value}
use Rattle.tel_term.specs.declared.terms.Value.{Value}
use Rattle.tel_term.specs.declared.exprs.SumOp.{SumOp}
use Rattle.tel_term.specs.declared.exprs.ProductOp.{ProductOp}
use Rattle.tel_term.specs.declared.exprs.Expr.{Expr, map-Expr}
use Rattle.tel_term.specs.declared.exprs.Expr.TheVariants as exprs
use Rattle.tel_term.specs.declared.exprs.Expr.TheVariants.{rolls-Value, rolls-Var, rolls-Minus, rolls-Sum, rolls-Product}
use Rattle.tel_term.specs.declared.exprs.Expr.TheOpen.{Expr-F}
use Rattle.tel_term.specs.declared.exprs.Expr.TheOpen as layers
use Rattle.tel_term.specs.declared.exprs.Expr.TheViews.{roll-Expr}
use Rattle.tel_term.specs.declared.exprs.Expr.TheFolds.{fold-roll-Expr, ind-Expr}
use Rattle.rule_constants.specs.Constants.{needs_of, layer_needs, operand_lists, option_list, linked, has_variable, layer_has_variable, expr_replaced, layer_replaced}
use Rattle.rule_constants.specs.Operands.{each_needs, each_replaced}

pub needs-value : (links : List (Option ℕ)) (value : Value) → needs_of links (exprs.Value value) ≡ option_list (linked links value)
needs-value links value = ap (needs_of links) (sym (rolls-Value value)) ∙ fold-roll-Expr (List ℕ) (layer_needs links) (layers.Value value)

pub needs-minus : (links : List (Option ℕ)) (inner : Expr) → needs_of links (exprs.Minus inner) ≡ needs_of links inner
needs-minus links inner = ap (needs_of links) (sym (rolls-Minus inner)) ∙ fold-roll-Expr (List ℕ) (layer_needs links) (layers.Minus inner)

pub needs-sum : (links : List (Option ℕ)) (first : Expr) (more : List (SumOp × Expr)) → needs_of links (exprs.Sum first more) ≡ needs_of links first ++ operand_lists (each_needs links more)
needs-sum links first more = ap (needs_of links) (sym (rolls-Sum first more)) ∙ fold-roll-Expr (List ℕ) (layer_needs links) (layers.Sum first more)

pub needs-product : (links : List (Option ℕ)) (first : Expr) (more : List (ProductOp × Expr)) → needs_of links (exprs.Product first more) ≡ needs_of links first ++ operand_lists (each_needs links more)
needs-product links first more = ap (needs_of links) (sym (rolls-Product first more)) ∙ fold-roll-Expr (List ℕ) (layer_needs links) (layers.Product first more)

pub replaced-value : (new : Value → Value) (value : Value) → expr_replaced new (exprs.Value value) ≡ exprs.Value (new value)
replaced-value new value = ap (expr_replaced new) (sym (rolls-Value value)) ∙ fold-roll-Expr Expr (layer_replaced new) (layers.Value value)

pub replaced-var : (new : Value → Value) (variable : ℕ) → expr_replaced new (exprs.Var variable) ≡ exprs.Var variable
replaced-var new variable = ap (expr_replaced new) (sym (rolls-Var variable)) ∙ fold-roll-Expr Expr (layer_replaced new) (layers.Var variable)

pub replaced-minus : (new : Value → Value) (inner : Expr) → expr_replaced new (exprs.Minus inner) ≡ exprs.Minus (expr_replaced new inner)
replaced-minus new inner = ap (expr_replaced new) (sym (rolls-Minus inner)) ∙ fold-roll-Expr Expr (layer_replaced new) (layers.Minus inner)

pub replaced-sum : (new : Value → Value) (first : Expr) (more : List (SumOp × Expr)) → expr_replaced new (exprs.Sum first more) ≡ exprs.Sum (expr_replaced new first) (each_replaced new more)
replaced-sum new first more = ap (expr_replaced new) (sym (rolls-Sum first more)) ∙ fold-roll-Expr Expr (layer_replaced new) (layers.Sum first more)

pub replaced-product : (new : Value → Value) (first : Expr) (more : List (ProductOp × Expr)) → expr_replaced new (exprs.Product first more) ≡ exprs.Product (expr_replaced new first) (each_replaced new more)
replaced-product new first more = ap (expr_replaced new) (sym (rolls-Product first more)) ∙ fold-roll-Expr Expr (layer_replaced new) (layers.Product first more)

pub variable-value : (value : Value) → has_variable (exprs.Value value) ≡ false
variable-value value = ap has_variable (sym (rolls-Value value)) ∙ fold-roll-Expr Bool layer_has_variable (layers.Value value)

pub variable-var : (variable : ℕ) → has_variable (exprs.Var variable) ≡ true
variable-var variable = ap has_variable (sym (rolls-Var variable)) ∙ fold-roll-Expr Bool layer_has_variable (layers.Var variable)

pub value-value : (binding : List Value) (value : Value) → expr_value binding (exprs.Value value) ≡ Ok value
value-value binding value = ap (expr_value binding) (sym (rolls-Value value)) ∙ fold-roll-Expr Valued (layer_value binding) (layers.Value value)

pub variable-minus : (inner : Expr) → has_variable (exprs.Minus inner) ≡ has_variable inner
variable-minus inner = ap has_variable (sym (rolls-Minus inner)) ∙ fold-roll-Expr Bool layer_has_variable (layers.Minus inner)

pub value-minus : (binding : List Value) (inner : Expr) → expr_value binding (exprs.Minus inner) ≡ and_then (expr_value binding inner) negated
value-minus binding inner = ap (expr_value binding) (sym (rolls-Minus inner)) ∙ fold-roll-Expr Valued (layer_value binding) (layers.Minus inner)

pub value-replaced_minus : (binding : List Value) (new : Value → Value) (inner : Expr) → expr_value binding (expr_replaced new (exprs.Minus inner)) ≡ and_then (expr_value binding (expr_replaced new inner)) negated
value-replaced_minus binding new inner = ap (expr_value binding) (replaced-minus new inner) ∙ value-minus binding (expr_replaced new inner)

pub value-replaced_value : (binding : List Value) (new : Value → Value) (value : Value) → expr_value binding (expr_replaced new (exprs.Value value)) ≡ Ok (new value)
value-replaced_value binding new value = ap (expr_value binding) (replaced-value new value) ∙ value-value binding (new value)

-- operands, of each of which something is known
abbrev pub Parts : (P : Expr → Type 0) → Type 0 → Type 0
Parts P Op = List (Op × ((expr : Expr) × P expr))

abbrev pub bare : (P : Expr → Type 0) (Op : Type 0) → Parts P Op → List (Op × Expr)
bare P Op parts = map (λ (part : Op × ((expr : Expr) × P expr)). (part.0, part.1.0)) parts

-- what has to be shown of an expression, where it is known of its parts
pub record Steps (P : Expr → Type 0) : Type 0 where
  pub value : (value : Value) → P (exprs.Value value)
  pub var : (variable : ℕ) → P (exprs.Var variable)
  pub minus : (inner : Expr) → P inner → P (exprs.Minus inner)
  pub sum : (first : Expr) (more : Parts P SumOp) → P first → P (exprs.Sum first (bare P SumOp more))
  pub product : (first : Expr) (more : Parts P ProductOp) → P first → P (exprs.Product first (bare P ProductOp more))

one_layer : (P : Expr → Type 0) → Steps P → (y : Expr-F ((expr : Expr) × P expr)) → P (roll-Expr (map-Expr ((expr : Expr) × P expr) Expr (λ e. e.0) y))
one_layer P steps (layers.Value value) = subst P (sym (rolls-Value value)) (steps.value value)
one_layer P steps (layers.Var variable) = subst P (sym (rolls-Var variable)) (steps.var variable)
one_layer P steps (layers.Minus e) = subst P (sym (rolls-Minus e.0)) (steps.minus e.0 e.1)
one_layer P steps (layers.Sum first more) = subst P (sym (rolls-Sum first.0 (bare P SumOp more))) (steps.sum first.0 more first.1)
one_layer P steps (layers.Product first more) = subst P (sym (rolls-Product first.0 (bare P ProductOp more))) (steps.product first.0 more first.1)

pub by_parts : (P : Expr → Type 0) → Steps P → (expr : Expr) → P expr
by_parts P steps = ind-Expr P (λ x y is. subst (λ (z : Expr-F Expr). P (roll-Expr z)) is (one_layer P steps y))
