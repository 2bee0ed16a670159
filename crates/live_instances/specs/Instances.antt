-- Which bindings of a rule make an instance, and which of these are live.
use Rattle.std.specs.Prelude.{◌↔◌, ℕ, Bool, true, false, ◌&&◌, List, [], ◌∷◌, ◌++◌, Ok, Err, Option, Some, None, if◌then◌else◌, IsTrue}
use Rattle.std.specs.List.{list_all, flat_map}
use Rattle.std.specs.Ordering.{match_ordering}
use Rattle.std.specs.declared.cmp.Ordering.{Ordering}
use Rattle.tel_base.specs.Members.{In}
use Rattle.tel_term.specs.declared.terms.Term.{Term}
use Rattle.tel_term.specs.declared.terms.Value.{Value}
use Rattle.tel_term.specs.declared.exprs.Expr.{Expr}
use Rattle.tel_term.specs.Arithmetic.{Valued, expr_value}
use Rattle.tel_term.specs.Order.{value_cmp}
use Rattle.tel_rule.specs.Rising.{rises}
use Rattle.tel_rule.specs.declared.formulas.Atom.{Atom}
use Rattle.tel_rule.specs.declared.formulas.Formula.TheOpen.{Formula-F}
use Rattle.tel_rule.specs.declared.formulas.Formula.TheOpen as formulas
use Rattle.tel_rule.specs.declared.formulas.Formula.TheFolds.{fold-Formula}
use Rattle.tel_rule.specs.declared.statements.Head.{Head}
use Rattle.tel_rule.specs.declared.statements.Head.TheVariants as heads
use Rattle.tel_rule.specs.declared.statements.Relation.{Relation}
use Rattle.tel_rule.specs.declared.statements.Relation.TheVariants as relations
use Rattle.tel_rule.specs.declared.statements.LitItem.{LitItem}
use Rattle.tel_rule.specs.declared.statements.LitItem.TheVariants as items
use Rattle.tel_rule.specs.declared.statements.Literal.{Literal}
use Rattle.tel_rule.specs.declared.statements.Statement.{Statement}
use Rattle.tel_semantics.specs.Tables.{predicate_of, is_table, is_row}
use Rattle.rule_binding.specs.Binding.{is_table_atom}
use Rattle.live_instances.specs.Bindings.{is_binding, binding_lt}

-- ---- the expressions of a rule, from left to right

abbrev pub layer_exprs : Formula-F (List Expr) → List Expr
layer_exprs (formulas.Const op) = []
layer_exprs (formulas.Atom atom) = atom.args
layer_exprs (formulas.Unary op inner) = inner
layer_exprs (formulas.Binary op left right) = left ++ right
layer_exprs (formulas.Many op operands) = flat_map (λ (exprs : List Expr). exprs) operands

abbrev pub item_exprs : LitItem → List Expr
item_exprs (items.Atom atom) = atom.args
item_exprs (items.Tel formula) = fold-Formula (List Expr) layer_exprs formula
item_exprs (items.Compare relation left right) = left ∷ right ∷ []

abbrev pub head_exprs : Head → List Expr
head_exprs (heads.Normal atom) = atom.args
head_exprs (heads.Choice atom) = atom.args
head_exprs heads.None = []

abbrev pub rule_exprs : Head → List Literal → List Expr
rule_exprs head body = head_exprs head ++ flat_map (λ (literal : Literal). item_exprs literal.item) body

-- ---- instances

abbrev pub has_value : Valued → Bool
has_value (Ok value) = true
has_value (Err fault) = false

-- whether a relation holds of two terms that stand so
abbrev pub relates : Relation → Ordering → Bool
relates relations.Equal order = match_ordering order false true false
relates relations.Unequal order = match_ordering order true false true
relates relations.Less order = match_ordering order true false false
relates relations.LessEqual order = match_ordering order true true false
relates relations.Greater order = match_ordering order false false true
relates relations.GreaterEqual order = match_ordering order false true true

abbrev pub both_relate : List Term → Relation → Valued → Valued → Bool
both_relate symbols relation (Ok left) (Ok right) = relates relation (value_cmp symbols left right)
both_relate symbols relation left right = false

-- a comparison holds where both sides have values that stand so; of other literals it isn't asked
abbrev pub compares : List Term → List Value → LitItem → Bool
compares symbols binding (items.Atom atom) = true
compares symbols binding (items.Tel formula) = true
compares symbols binding (items.Compare relation left right) = both_relate symbols relation (expr_value binding left) (expr_value binding right)

-- a binding makes an instance exactly where every expression has a value and every comparison holds
abbrev pub makes_instance : List Term → Head → List Literal → List Value → Bool
makes_instance symbols head body binding =
    list_all (λ (expr : Expr). has_value (expr_value binding expr)) (rule_exprs head body)
    && list_all (λ (literal : Literal). compares symbols binding literal.item) body

-- ---- live instances

abbrev pub item_table_atoms : List Statement → ℕ → LitItem → List Atom
item_table_atoms statements nots (items.Atom atom) = if is_table_atom (is_table statements) nots atom then atom ∷ [] else []
item_table_atoms statements nots (items.Tel formula) = []
item_table_atoms statements nots (items.Compare relation left right) = []

-- the positive unprimed table atoms of a body
abbrev pub table_atoms : List Statement → List Literal → List Atom
table_atoms statements body = flat_map (λ (literal : Literal). item_table_atoms statements literal.nots literal.item) body

abbrev pub with_value : Valued → Option (List Value) → Option (List Value)
with_value (Ok value) (Some row) = Some (value ∷ row)
with_value value row = None

-- the values of expressions, where each has one
abbrev pub values_of : List Value → List Expr → Option (List Value)
values_of binding [] = Some []
values_of binding (expr ∷ more) = with_value (expr_value binding expr) (values_of binding more)

abbrev pub passes : (List Value → Bool) → Option (List Value) → Bool
passes test None = false
passes test (Some row) = test row

-- the arguments of a table atom are a row
abbrev pub atom_is_row : List Statement → List Value → Atom → Bool
atom_is_row statements binding atom = passes (is_row statements (predicate_of atom)) (values_of binding atom.args)

-- an instance is live exactly where each of its positive unprimed table atoms is a row
abbrev pub is_live : List Statement → List Term → Head → List Literal → List Value → Bool
is_live statements symbols head body binding =
    makes_instance symbols head body binding && list_all (atom_is_row statements binding) (table_atoms statements body)

-- the bindings of a rule, of so many variables, that make live instances: each once, in their order
pub record AreLive (statements : List Statement) (symbols : List Term) (count : ℕ) (head : Head) (body : List Literal) (bindings : List (List Value)) : Type 0 where
  pub rise : IsTrue (rises (binding_lt symbols) bindings)
  pub members : (binding : List Value) → In binding bindings ↔ (IsTrue (is_binding symbols count binding) × IsTrue (is_live statements symbols head body binding))
