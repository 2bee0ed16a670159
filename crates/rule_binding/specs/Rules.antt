-- The rules of binding of a body: which variable is bound where which others are.
use Rattle.std.specs.Prelude.{ℕ, Bool, List, [], ◌∷◌, ◌++◌, Option, Some, None, if◌then◌else◌}
use Rattle.std.specs.List.{flat_map}
use Rattle.tel_term.specs.declared.exprs.Expr.{Expr}
use Rattle.tel_rule.specs.declared.statements.Relation.{Relation}
use Rattle.tel_rule.specs.declared.statements.LitItem.{LitItem}
use Rattle.tel_rule.specs.declared.statements.LitItem.TheVariants as items
use Rattle.tel_rule.specs.declared.statements.Literal.{Literal}
use Rattle.tel_rule.specs.declared.statements.Signature.{Signature}
use Rattle.rule_binding.specs.declared.rules.BindingRule.{BindingRule}
use Rattle.rule_binding.specs.Binding.{Equation, vars_of, whole_var, is_table_atom, relation_equations}

-- a variable that is bound by nothing else
abbrev pub free_rules : Option ℕ → List BindingRule
free_rules None = []
free_rules (Some v) = record { var = v; needs = [] } ∷ []

abbrev pub args_rules : List Expr → List BindingRule
args_rules args = flat_map (λ (arg : Expr). free_rules (whole_var arg)) args

-- a variable that is bound where those of the other side are
abbrev pub var_rules : Expr → Option ℕ → List BindingRule
var_rules other None = []
var_rules other (Some v) = record { var = v; needs = vars_of other } ∷ []

abbrev pub side_rules : Expr → Expr → List BindingRule
side_rules side other = var_rules other (whole_var side)

abbrev pub equation_rules : Equation → List BindingRule
equation_rules equation = side_rules equation.left equation.right ++ side_rules equation.right equation.left

abbrev pub compare_rules : Expr → Expr → Relation → List BindingRule
compare_rules left right relation = flat_map equation_rules (relation_equations left right relation)

abbrev pub item_rules : (Signature → Bool) → ℕ → LitItem → List BindingRule
item_rules tables nots (items.Atom atom) = if is_table_atom tables nots atom then args_rules atom.args else []
item_rules tables nots (items.Tel formula) = []
item_rules tables nots (items.Compare relation left right) = compare_rules left right relation

abbrev pub body_rules : (Signature → Bool) → List Literal → List BindingRule
body_rules tables body = flat_map (λ (literal : Literal). item_rules tables literal.nots literal.item) body
