-- Constants of a program: which statement defines a name, what a definition rests on, and which value it has.
use Rattle.std.specs.Prelude.{◌≡◌, ⊤, ◌⊎◌, ◌<◌, ℕ, zero, suc, Bool, true, false, not, ◌&&◌, ◌||◌, List, [], ◌∷◌, ◌++◌, map, Option, Some, None, Ok, Err, is_some, if◌then◌else◌, slice_get, slice_index_or, bytes_eq}
use Rattle.std.specs.List.{list_all}
use Rattle.std.specs.Option.{option_map}
use Rattle.tel_term.specs.declared.terms.Term.{Term}
use Rattle.tel_term.specs.declared.terms.Term.TheVariants as terms
use Rattle.tel_term.specs.declared.terms.Value.{Value}
use Rattle.tel_term.specs.declared.terms.Value.TheVariants as values
use Rattle.tel_term.specs.declared.exprs.Expr.{Expr}
use Rattle.tel_term.specs.declared.exprs.Expr.TheVariants as exprs
use Rattle.tel_term.specs.declared.exprs.Expr.TheOpen.{Expr-F}
use Rattle.tel_term.specs.declared.exprs.Expr.TheOpen as layers
use Rattle.tel_term.specs.declared.exprs.Expr.TheFolds.{fold-Expr}
use Rattle.tel_term.specs.Arithmetic.{Valued, expr_value}
use Rattle.tel_rule.specs.declared.statements.Kind.{Kind}
use Rattle.tel_rule.specs.declared.statements.Kind.TheVariants as kinds
use Rattle.tel_rule.specs.declared.statements.Statement.{Statement}

-- ---- names and their definitions

-- whether a statement defines this name
abbrev pub defines : List ℕ → Kind → Bool
defines name (kinds.Const defined expr) = bytes_eq defined name
defines name (kinds.Rule head body) = false
defines name (kinds.Facts fact) = false
defines name (kinds.Show shown) = false

-- the number of the first statement that defines a name, which is its definition
abbrev pub definition_of : List Statement → List ℕ → Option ℕ
definition_of [] name = None
definition_of (statement ∷ more) name = if defines name statement.kind then Some 0 else option_map suc (definition_of more name)

-- the definition of a term: a number or a string has none
abbrev pub term_definition : List Statement → Term → Option ℕ
term_definition statements (terms.Num n) = None
term_definition statements (terms.Name name) = definition_of statements name
term_definition statements (terms.Str bytes) = None

-- the definitions of the names and strings of a program
abbrev pub links_of : List Statement → List Term → List (Option ℕ)
links_of statements symbols = map (term_definition statements) symbols

-- the definition that a value in an expression names
abbrev pub linked : List (Option ℕ) → Value → Option ℕ
linked links (values.Num n) = None
linked links (values.Sym symbol) = slice_index_or links symbol None

-- ---- expressions

abbrev pub option_list : Option ℕ → List ℕ
option_list None = []
option_list (Some number) = number ∷ []

-- the lists of all operands of a chain, in a row
abbrev pub operand_lists : {Op : Type 0} → List (Op × List ℕ) → List ℕ
operand_lists [] = []
operand_lists (operand ∷ more) = operand.1 ++ operand_lists more

-- whether a test holds of some operand of a chain
abbrev pub some_operand : {Op : Type 0} → List (Op × Bool) → Bool
some_operand [] = false
some_operand (operand ∷ more) = operand.1 || some_operand more

abbrev pub layer_needs : List (Option ℕ) → Expr-F (List ℕ) → List ℕ
layer_needs links (layers.Value value) = option_list (linked links value)
layer_needs links (layers.Var variable) = []
layer_needs links (layers.Minus inner) = inner
layer_needs links (layers.Sum first more) = first ++ operand_lists more
layer_needs links (layers.Product first more) = first ++ operand_lists more

-- the definitions that an expression names, from left to right
abbrev pub needs_of : List (Option ℕ) → Expr → List ℕ
needs_of links expr = fold-Expr (List ℕ) (layer_needs links) expr

abbrev pub layer_has_variable : Expr-F Bool → Bool
layer_has_variable (layers.Value value) = false
layer_has_variable (layers.Var variable) = true
layer_has_variable (layers.Minus inner) = inner
layer_has_variable (layers.Sum first more) = first || some_operand more
layer_has_variable (layers.Product first more) = first || some_operand more

-- whether a variable stands in an expression
abbrev pub has_variable : Expr → Bool
has_variable expr = fold-Expr Bool layer_has_variable expr

abbrev pub layer_replaced : (Value → Value) → Expr-F Expr → Expr
layer_replaced new (layers.Value value) = exprs.Value (new value)
layer_replaced new (layers.Var variable) = exprs.Var variable
layer_replaced new (layers.Minus inner) = exprs.Minus inner
layer_replaced new (layers.Sum first more) = exprs.Sum first more
layer_replaced new (layers.Product first more) = exprs.Product first more

-- an expression with other values in place of its own
abbrev pub expr_replaced : (Value → Value) → Expr → Expr
expr_replaced new expr = fold-Expr Expr (layer_replaced new) expr

-- ---- values

-- values of definitions, by the numbers of their statements; none where one has no value
abbrev pub Values : Type 0
Values = ℕ → Option Value

abbrev pub value_or : Value → Option Value → Value
value_or value None = value
value_or value (Some other) = other

abbrev pub value_at : Values → Option ℕ → Option Value
value_at known None = None
value_at known (Some number) = known number

-- what stands in place of a value: for the name of a constant the constant's value
abbrev pub replacement : List (Option ℕ) → Values → Value → Value
replacement links known value = value_or value (value_at known (linked links value))

abbrev pub all_known : Values → List ℕ → Bool
all_known known numbers = list_all (λ number. is_some (known number)) numbers

abbrev pub ok_value : Valued → Option Value
ok_value (Ok value) = Some value
ok_value (Err fault) = None

-- the value of a defining expression under the values of definitions: it has none where it has a variable, or names a constant
-- without a value, or has no value by itself once each constant has its value in it
abbrev pub defined_value : List (Option ℕ) → Values → Expr → Option Value
defined_value links known expr =
    if not (has_variable expr) && all_known known (needs_of links expr) then ok_value (expr_value [] (expr_replaced (replacement links known) expr)) else None

abbrev pub kind_value : List (Option ℕ) → Values → Kind → Option Value
kind_value links known (kinds.Const name expr) = defined_value links known expr
kind_value links known (kinds.Rule head body) = None
kind_value links known (kinds.Facts fact) = None
kind_value links known (kinds.Show shown) = None

abbrev pub statement_value : List (Option ℕ) → Values → Option Statement → Option Value
statement_value links known None = None
statement_value links known (Some statement) = kind_value links known statement.kind

-- the values that follow from values in one round
abbrev pub next_values : List Statement → List (Option ℕ) → Values → Values
next_values statements links known number = statement_value links known (slice_get statements number)

-- the values after so many rounds, of which the first has none to begin with
abbrev pub values_after : List Statement → List (Option ℕ) → ℕ → Values
values_after statements links zero number = None
values_after statements links (suc rounds) number = next_values statements links (values_after statements links rounds) number

-- a definition has this value: it follows in so many rounds. So one that rests on itself has none.
abbrev pub HasValue : List Statement → List Term → ℕ → Value → Type 0
HasValue statements symbols number value = (rounds : ℕ) × (values_after statements (links_of statements symbols) rounds number ≡ Some value)

-- it has no value
abbrev pub HasNoValue : List Statement → List Term → ℕ → Type 0
HasNoValue statements symbols number = (rounds : ℕ) → values_after statements (links_of statements symbols) rounds number ≡ None

-- ---- the cause

-- the statement with this number, of this kind, defines no constant, or is the definition of its name and has a value
abbrev pub IsSoundConstant : List Statement → List Term → ℕ → Kind → Type 0
IsSoundConstant statements symbols number (kinds.Const name expr) = (definition_of statements name ≡ Some number) × ((value : Value) × HasValue statements symbols number value)
IsSoundConstant statements symbols number (kinds.Rule head body) = ⊤
IsSoundConstant statements symbols number (kinds.Facts fact) = ⊤
IsSoundConstant statements symbols number (kinds.Show shown) = ⊤

-- it defines this name, which an earlier one defines, or has no value
abbrev pub IsFaultyConstant : List Statement → List Term → ℕ → Kind → List ℕ → Type 0
IsFaultyConstant statements symbols number (kinds.Const name expr) fault = (fault ≡ name) × ((definition_of statements name ≡ Some number → ⊥) ⊎ HasNoValue statements symbols number)
IsFaultyConstant statements symbols number (kinds.Rule head body) fault = ⊥
IsFaultyConstant statements symbols number (kinds.Facts fact) fault = ⊥
IsFaultyConstant statements symbols number (kinds.Show shown) fault = ⊥

-- each of the first statements, so many, that defines a constant is sound
abbrev pub AreSoundConstants : List Statement → List Term → ℕ → Type 0
AreSoundConstants statements symbols count =
    (number : ℕ) (statement : Statement) → number < count → slice_get statements number ≡ Some statement
    → IsSoundConstant statements symbols number statement.kind

-- the statement with this number is the first one whose constant is faulty
abbrev pub IsFirstFaulty : List Statement → List Term → ℕ → Type 0
IsFirstFaulty statements symbols number =
    ((statement : Statement) × (slice_get statements number ≡ Some statement) × ((name : List ℕ) × IsFaultyConstant statements symbols number statement.kind name))
    × AreSoundConstants statements symbols number
