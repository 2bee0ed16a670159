-- Whether expressions have values.
use Rattle.std.specs.Prelude.{Bool, List}
use Rattle.std.specs.List.{list_all, flat_map}
use Rattle.tel_base.specs.Members.{In}
use Rattle.tel_term.specs.declared.terms.Term.{Term}
use Rattle.tel_term.specs.declared.terms.Value.{Value}
use Rattle.tel_term.specs.declared.exprs.Expr.{Expr}
use Rattle.tel_term.specs.Arithmetic.{expr_value}
use Rattle.tel_rule.specs.declared.formulas.Formula.{Formula}
use Rattle.tel_rule.specs.declared.formulas.Formula.TheFolds.{fold-Formula}
use Rattle.tel_rule.specs.declared.statements.LitItem.{LitItem}
use Rattle.tel_rule.specs.declared.statements.LitItem.TheVariants as items
use Rattle.tel_rule.specs.declared.statements.Literal.{Literal}
use Rattle.live_instances.specs.Instances.{has_value, layer_exprs, item_exprs, compares}
use Rattle.rule_plans.specs.Within.{values_in}
use Rattle.plan_search.specs.Steps.{AreTerms}

-- whether each of these expressions has a value
abbrev pub all_valued : List Value → List Expr → Bool
all_valued binding exprs = list_all (λ (expr : Expr). has_value (expr_value binding expr)) exprs

abbrev pub formula_exprs : Formula → List Expr
formula_exprs formula = fold-Formula (List Expr) layer_exprs formula

abbrev pub joined : List (List Expr) → List Expr
joined lists = flat_map (λ (exprs : List Expr). exprs) lists

abbrev pub body_exprs : List Literal → List Expr
body_exprs body = flat_map (λ (literal : Literal). item_exprs literal.item) body

-- whether each comparison of a body holds
abbrev pub all_compare : List Term → List Value → List Literal → Bool
all_compare symbols binding body = list_all (λ (literal : Literal). compares symbols binding literal.item) body

-- the sides of a comparison are of terms of the program
abbrev pub ItemHasTerms : List Term → LitItem → Type 0
ItemHasTerms symbols (items.Atom atom) = Unit {0}
ItemHasTerms symbols (items.Tel formula) = Unit {0}
ItemHasTerms symbols (items.Compare relation left right) = AreTerms symbols (values_in left) × AreTerms symbols (values_in right)

abbrev pub BodyHasTerms : List Term → List Literal → Type 0
BodyHasTerms symbols body = (literal : Literal) → In literal body → ItemHasTerms symbols literal.item
