-- Which variables of a statement are bound, and by which equations: first by the rows of tables, then again and again by the leftmost `=` that sets one.
use Rattle.std.specs.Prelude.{◌≡◌, ℕ, ◌<◌, ◌==◌, Bool, not, ◌&&◌, List, [], ◌∷◌, ◌++◌, map, length, Option, Some, None, IsTrue, IsFalse, if◌then◌else◌}
use Rattle.std.specs.List.{list_all, list_any, flat_map}
use Rattle.tel_term.specs.declared.exprs.Expr.{Expr}
use Rattle.tel_term.specs.declared.exprs.Expr.TheOpen.{Expr-F}
use Rattle.tel_term.specs.declared.exprs.Expr.TheOpen as layers
use Rattle.tel_term.specs.declared.exprs.Expr.TheFolds.{fold-Expr}
use Rattle.tel_rule.specs.declared.formulas.Atom.{Atom}
use Rattle.tel_rule.specs.declared.statements.Relation.{Relation}
use Rattle.tel_rule.specs.declared.statements.Relation.TheVariants as relations
use Rattle.tel_rule.specs.declared.statements.LitItem.{LitItem}
use Rattle.tel_rule.specs.declared.statements.LitItem.TheVariants as items
use Rattle.tel_rule.specs.declared.statements.Literal.{Literal}
use Rattle.tel_rule.specs.declared.statements.Signature.{Signature}
use Rattle.tel_rule.specs.declared.statements.Kind.{Kind}
use Rattle.tel_rule.specs.declared.statements.Kind.TheVariants as kinds
use Rattle.tel_rule.specs.declared.statements.Statement.{Statement}
use Rattle.tel_semantics.specs.Tables.{predicate_of}

-- a set of variables, which are numbers
abbrev pub Vars : Type 0
Vars = ℕ → Bool

-- whether a variable is among these
abbrev pub has : List ℕ → Vars
has vars v = list_any (λ (w : ℕ). w == v) vars

-- ---- variables of expressions

-- the variables of operands, each behind its operator
abbrev pub operand_vars : {Op : Type 0} → List (Op × List ℕ) → List ℕ
operand_vars {Op} operands = flat_map (λ (operand : Op × List ℕ). operand.1) operands

abbrev pub layer_vars : Expr-F (List ℕ) → List ℕ
layer_vars (layers.Value value) = []
layer_vars (layers.Var v) = v ∷ []
layer_vars (layers.Minus inner) = inner
layer_vars (layers.Sum first more) = first ++ operand_vars more
layer_vars (layers.Product first more) = first ++ operand_vars more

-- the variables of an expression, from left to right
abbrev pub vars_of : Expr → List ℕ
vars_of expr = fold-Expr (List ℕ) layer_vars expr

-- operands with their variables
abbrev pub with_vars : {Op : Type 0} → List (Op × Expr) → List (Op × List ℕ)
with_vars {Op} operands = map (λ (operand : Op × Expr). (operand.0, vars_of operand.1)) operands

abbrev pub layer_whole : Expr-F (Option ℕ) → Option ℕ
layer_whole (layers.Value value) = None
layer_whole (layers.Var v) = Some v
layer_whole (layers.Minus inner) = None
layer_whole (layers.Sum first more) = None
layer_whole (layers.Product first more) = None

-- the variable that an expression is as a whole
abbrev pub whole_var : Expr → Option ℕ
whole_var expr = fold-Expr (Option ℕ) layer_whole expr

abbrev pub one_var : Option ℕ → List ℕ
one_var None = []
one_var (Some v) = v ∷ []

-- ---- bound by a table

-- a positive unprimed atom of a table
abbrev pub is_table_atom : (Signature → Bool) → ℕ → Atom → Bool
is_table_atom tables nots atom = (nots == 0) && ((atom.before == 0) && ((atom.after == 0) && tables (predicate_of atom)))

-- the variables that are whole arguments
abbrev pub whole_args : List Expr → List ℕ
whole_args args = flat_map (λ (arg : Expr). one_var (whole_var arg)) args

abbrev pub item_row_vars : (Signature → Bool) → ℕ → LitItem → List ℕ
item_row_vars tables nots (items.Atom atom) = if is_table_atom tables nots atom then whole_args atom.args else []
item_row_vars tables nots (items.Tel formula) = []
item_row_vars tables nots (items.Compare relation left right) = []

-- the variables that the table atoms of a body bind: those that stand as a whole argument in a positive unprimed one, outside `&tel`
abbrev pub row_vars : (Signature → Bool) → List Literal → List ℕ
row_vars tables body = flat_map (λ (literal : Literal). item_row_vars tables literal.nots literal.item) body

-- ---- bound by an equation

-- an `=`
pub record Equation : Type 0 where
  pub left : Expr
  pub right : Expr

abbrev pub relation_equations : Expr → Expr → Relation → List Equation
relation_equations left right relations.Equal = record { left = left; right = right } ∷ []
relation_equations left right relations.Unequal = []
relation_equations left right relations.Less = []
relation_equations left right relations.LessEqual = []
relation_equations left right relations.Greater = []
relation_equations left right relations.GreaterEqual = []

abbrev pub item_equations : LitItem → List Equation
item_equations (items.Atom atom) = []
item_equations (items.Tel formula) = []
item_equations (items.Compare relation left right) = relation_equations left right relation

-- the equations of a body, from left to right
abbrev pub equations_of : List Literal → List Equation
equations_of body = flat_map (λ (literal : Literal). item_equations literal.item) body

-- a setting equation: the variable that it binds, and the other side
pub record Setting : Type 0 where
  pub var : ℕ
  pub value : Expr

abbrev pub var_set : Vars → Expr → Option ℕ → List Setting
var_set bound other None = []
var_set bound other (Some v) = if not (bound v) && list_all bound (vars_of other) then record { var = v; value = other } ∷ [] else []

-- a side that is an unbound variable alone is set by the other side, where no variable of it is unbound
abbrev pub side_set : Vars → Expr → Expr → List Setting
side_set bound side other = var_set bound other (whole_var side)

-- what an equation sets where these variables are bound
abbrev pub sets : Vars → Equation → List Setting
sets bound equation = side_set bound equation.left equation.right ++ side_set bound equation.right equation.left

-- what each equation would set, from left to right
abbrev pub possible : Vars → List Equation → List Setting
possible bound equations = flat_map (sets bound) equations

abbrev pub first_of : List Setting → Option Setting
first_of [] = None
first_of (setting ∷ more) = Some setting

-- the setting equations, in their order, where these variables are bound: the leftmost one that can set a variable, then those where that one is
-- bound too, until none is left
abbrev pub AreSettings : List Equation → List ℕ → List Setting → Type 0
AreSettings equations bound [] = first_of (possible (has bound) equations) ≡ None
AreSettings equations bound (setting ∷ more) = (first_of (possible (has bound) equations) ≡ Some setting) × AreSettings equations (setting.var ∷ bound) more

-- the variables that are bound in the end
abbrev pub bound_by : List ℕ → List Setting → List ℕ
bound_by bound [] = bound
bound_by bound (setting ∷ more) = bound_by (setting.var ∷ bound) more

-- ---- statements

-- the body of a rule; other statements have none
abbrev pub body_of : Kind → List Literal
body_of (kinds.Rule head body) = body
body_of (kinds.Facts fact) = []
body_of (kinds.Const name value) = []
body_of (kinds.Show shown) = []

-- these are the setting equations of a statement, in their order
abbrev pub SettingsOf : (Signature → Bool) → Statement → List Setting → Type 0
SettingsOf tables statement settings = AreSettings (equations_of (body_of statement.kind)) (row_vars tables (body_of statement.kind)) settings

-- the variables that a statement binds, by its tables and these setting equations
abbrev pub bound_vars : (Signature → Bool) → Statement → List Setting → List ℕ
bound_vars tables statement settings = bound_by (row_vars tables (body_of statement.kind)) settings

-- the first of so many variables that isn't in a set, where there is one
abbrev pub IsFirstMissing : Vars → ℕ → Option ℕ → Type 0
IsFirstMissing X count None = (v : ℕ) → v < count → IsTrue (X v)
IsFirstMissing X count (Some first) = (first < count) × IsFalse (X first) × ((v : ℕ) → v < first → IsTrue (X v))

-- the first variable of a statement, in their order, that isn't bound
pub record IsFirstUnbound (tables : Signature → Bool) (statement : Statement) (first : Option ℕ) : Type 0 where
  pub settings : List Setting
  pub are : SettingsOf tables statement settings
  pub is : IsFirstMissing (has (bound_vars tables statement settings)) (length statement.vars) first
