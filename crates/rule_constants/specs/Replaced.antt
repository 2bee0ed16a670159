-- A program with its constants replaced: wherever the name of a constant stands as a value in an expression, its value stands.
use Rattle.std.specs.Prelude.{◌≡◌, ◌↔◌, ℕ, List, map, Some}
use Rattle.tel_term.specs.declared.terms.Term.{Term}
use Rattle.tel_term.specs.declared.terms.Value.{Value}
use Rattle.tel_rule.specs.declared.formulas.Atom.{Atom}
use Rattle.tel_rule.specs.declared.formulas.Formula.{Formula}
use Rattle.tel_rule.specs.declared.formulas.Formula.TheVariants as formulas
use Rattle.tel_rule.specs.declared.formulas.Formula.TheOpen.{Formula-F}
use Rattle.tel_rule.specs.declared.formulas.Formula.TheOpen as layers
use Rattle.tel_rule.specs.declared.formulas.Formula.TheFolds.{fold-Formula}
use Rattle.tel_rule.specs.declared.statements.Head.{Head}
use Rattle.tel_rule.specs.declared.statements.Head.TheVariants as heads
use Rattle.tel_rule.specs.declared.statements.LitItem.{LitItem}
use Rattle.tel_rule.specs.declared.statements.LitItem.TheVariants as items
use Rattle.tel_rule.specs.declared.statements.Literal.{Literal}
use Rattle.tel_rule.specs.declared.statements.Arg.{Arg}
use Rattle.tel_rule.specs.declared.statements.Arg.TheVariants as args
use Rattle.tel_rule.specs.declared.statements.Fact.{Fact}
use Rattle.tel_rule.specs.declared.statements.Kind.{Kind}
use Rattle.tel_rule.specs.declared.statements.Kind.TheVariants as kinds
use Rattle.tel_rule.specs.declared.statements.Statement.{Statement}
use Rattle.tel_rule.specs.declared.statements.Program.{Program}
use Rattle.rule_constants.specs.Constants.{Values, HasValue, links_of, replacement, expr_replaced}

-- a name of a predicate is no value, so it stays
abbrev pub atom_replaced : (Value → Value) → Atom → Atom
atom_replaced new atom = record { negative = atom.negative; before = atom.before; name = atom.name; after = atom.after; args = map (expr_replaced new) atom.args }

abbrev pub layer_replaced : (Value → Value) → Formula-F Formula → Formula
layer_replaced new (layers.Const op) = formulas.Const op
layer_replaced new (layers.Atom atom) = formulas.Atom (atom_replaced new atom)
layer_replaced new (layers.Unary op inner) = formulas.Unary op inner
layer_replaced new (layers.Binary op left right) = formulas.Binary op left right
layer_replaced new (layers.Many op operands) = formulas.Many op operands

abbrev pub formula_replaced : (Value → Value) → Formula → Formula
formula_replaced new formula = fold-Formula Formula (layer_replaced new) formula

abbrev pub item_replaced : (Value → Value) → LitItem → LitItem
item_replaced new (items.Atom atom) = items.Atom (atom_replaced new atom)
item_replaced new (items.Tel formula) = items.Tel (formula_replaced new formula)
item_replaced new (items.Compare relation left right) = items.Compare relation (expr_replaced new left) (expr_replaced new right)

abbrev pub literal_replaced : (Value → Value) → Literal → Literal
literal_replaced new literal = record { nots = literal.nots; item = item_replaced new literal.item }

abbrev pub head_replaced : (Value → Value) → Head → Head
head_replaced new (heads.Normal atom) = heads.Normal (atom_replaced new atom)
head_replaced new (heads.Choice atom) = heads.Choice (atom_replaced new atom)
head_replaced new heads.None = heads.None

abbrev pub arg_replaced : (Value → Value) → Arg → Arg
arg_replaced new (args.One expr) = args.One (expr_replaced new expr)
arg_replaced new (args.Range low high) = args.Range (expr_replaced new low) (expr_replaced new high)

abbrev pub fact_replaced : (Value → Value) → Fact → Fact
fact_replaced new fact = record { negative = fact.negative; before = fact.before; name = fact.name; after = fact.after; tuples = map (map (arg_replaced new)) fact.tuples }

-- the name that a `#const` defines stays too
abbrev pub kind_replaced : (Value → Value) → Kind → Kind
kind_replaced new (kinds.Rule head body) = kinds.Rule (head_replaced new head) (map (literal_replaced new) body)
kind_replaced new (kinds.Facts fact) = kinds.Facts (fact_replaced new fact)
kind_replaced new (kinds.Const name expr) = kinds.Const name (expr_replaced new expr)
kind_replaced new (kinds.Show shown) = kinds.Show shown

abbrev pub statement_replaced : (Value → Value) → Statement → Statement
statement_replaced new statement = record { place = statement.place; part = statement.part; vars = statement.vars; kind = kind_replaced new statement.kind }

-- these are the values of the definitions, each where it has one
abbrev pub AreValues : List Statement → List Term → Values → Type 0
AreValues statements symbols known = (number : ℕ) (value : Value) → (known number ≡ Some value) ↔ HasValue statements symbols number value

-- the program with its constants replaced by their values, in the statements of all texts
pub record IsReplaced (program replaced : Program) : Type 0 where
  pub known : Values
  pub values : AreValues program.statements program.symbols known
  pub statements : replaced.statements ≡ map (statement_replaced (replacement (links_of program.statements program.symbols) known)) program.statements
  pub symbols : replaced.symbols ≡ program.symbols
