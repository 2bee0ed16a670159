-- Rules and programs whose variables are numbered and whose names and strings are terms of the program.
use Rattle.std.specs.Prelude.{◌↔◌, ℕ, ◌<◌, List, [], ◌∷◌, ◌++◌, length, IsTrue}
use Rattle.std.specs.List.{list_all, flat_map}
use Rattle.tel_base.specs.Members.{In}
use Rattle.tel_term.specs.declared.terms.Term.{Term}
use Rattle.tel_term.specs.declared.terms.Value.{Value}
use Rattle.tel_term.specs.declared.exprs.Expr.{Expr}
use Rattle.tel_term.specs.declared.exprs.Expr.TheOpen.{Expr-F}
use Rattle.tel_term.specs.declared.exprs.Expr.TheOpen as layers
use Rattle.tel_term.specs.declared.exprs.Expr.TheFolds.{fold-Expr}
use Rattle.tel_rule.specs.declared.statements.Arg.{Arg}
use Rattle.tel_rule.specs.declared.statements.Arg.TheVariants as args
use Rattle.tel_rule.specs.declared.statements.Kind.{Kind}
use Rattle.tel_rule.specs.declared.statements.Kind.TheVariants as kinds
use Rattle.tel_rule.specs.declared.statements.Signature.{Signature}
use Rattle.tel_rule.specs.declared.statements.Statement.{Statement}
use Rattle.tel_semantics.specs.Tables.{is_table, is_row}
use Rattle.rule_binding.specs.Binding.{vars_of}
use Rattle.live_instances.specs.Bindings.{is_value}
use Rattle.live_instances.specs.Instances.{rule_exprs}
use Rattle.join_plans.specs.Once.{IsOnce}
use Rattle.rule_plans.specs.Goals.{Rows}

-- the values of operands, each behind its operator
abbrev pub operand_values : {Op : Type 0} → List (Op × List Value) → List Value
operand_values {Op} operands = flat_map (λ (operand : Op × List Value). operand.1) operands

abbrev pub layer_values : Expr-F (List Value) → List Value
layer_values (layers.Value value) = value ∷ []
layer_values (layers.Var v) = []
layer_values (layers.Minus inner) = inner
layer_values (layers.Sum first more) = first ++ operand_values more
layer_values (layers.Product first more) = first ++ operand_values more

-- the values that stand in an expression, from left to right
abbrev pub values_in : Expr → List Value
values_in expr = fold-Expr (List Value) layer_values expr

-- the variables of an expression are among so many, and its values are terms of the program
pub record IsWithin (symbols : List Term) (count : ℕ) (expr : Expr) : Type 0 where
  pub vars : (v : ℕ) → In v (vars_of expr) → v < count
  pub values : (value : Value) → In value (values_in expr) → IsTrue (is_value symbols value)

abbrev pub AreWithin : List Term → ℕ → List Expr → Type 0
AreWithin symbols count exprs = (expr : Expr) → In expr exprs → IsWithin symbols count expr

-- these are the rows of each table, each once; those of every predicate are of terms of the program
pub record AreRowsOf (statements : List Statement) (symbols : List Term) (rows : Rows) : Type 0 where
  pub same : (predicate : Signature) → IsTrue (is_table statements predicate) → (row : List Value) → In row (rows predicate) ↔ IsTrue (is_row statements predicate row)
  pub once : (predicate : Signature) → IsOnce (rows predicate)
  pub terms : (predicate : Signature) (row : List Value) → In row (rows predicate) → IsTrue (list_all (is_value symbols) row)

-- ---- programs

abbrev pub arg_exprs : Arg → List Expr
arg_exprs (args.One expr) = expr ∷ []
arg_exprs (args.Range low high) = low ∷ high ∷ []

abbrev pub tuple_exprs : List Arg → List Expr
tuple_exprs tuple = flat_map arg_exprs tuple

-- the expressions of a statement, from left to right
abbrev pub kind_exprs : Kind → List Expr
kind_exprs (kinds.Rule head body) = rule_exprs head body
kind_exprs (kinds.Facts fact) = flat_map tuple_exprs fact.tuples
kind_exprs (kinds.Const name value) = value ∷ []
kind_exprs (kinds.Show shown) = []

-- the expressions of statements speak of these terms alone, and of the variables of their statement
abbrev pub StatementsAreWithin : List Term → List Statement → Type 0
StatementsAreWithin symbols statements = (statement : Statement) → In statement statements → AreWithin symbols (length statement.vars) (kind_exprs statement.kind)
