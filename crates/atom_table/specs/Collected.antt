-- Which atoms stand in a rule and in a fact, and what they are under a binding.
use Rattle.std.specs.Prelude.{pos, List, [], ◌∷◌, ◌++◌, map}
use Rattle.std.specs.List.{flat_map}
use Rattle.std.specs.Result.{result_unwrap_or}
use Rattle.tel_term.specs.declared.terms.Value.{Value}
use Rattle.tel_term.specs.declared.terms.Value.TheVariants as values
use Rattle.tel_term.specs.declared.exprs.Expr.{Expr}
use Rattle.tel_term.specs.Arithmetic.{expr_value}
use Rattle.tel_rule.specs.declared.formulas.Atom.{Atom}
use Rattle.tel_rule.specs.declared.formulas.Formula.{Formula}
use Rattle.tel_rule.specs.declared.formulas.Formula.TheOpen.{Formula-F}
use Rattle.tel_rule.specs.declared.formulas.Formula.TheOpen as formulas
use Rattle.tel_rule.specs.declared.formulas.Formula.TheFolds.{fold-Formula}
use Rattle.tel_rule.specs.declared.statements.Fact.{Fact}
use Rattle.tel_rule.specs.declared.statements.Head.{Head}
use Rattle.tel_rule.specs.declared.statements.Head.TheVariants as heads
use Rattle.tel_rule.specs.declared.statements.LitItem.{LitItem}
use Rattle.tel_rule.specs.declared.statements.LitItem.TheVariants as items
use Rattle.tel_rule.specs.declared.statements.Literal.{Literal}
use Rattle.atom_table.specs.Named.{NamedAtom, with_atom}

-- the value of an argument; one that has none counts as 0
abbrev pub value_under : List Value → Expr → Value
value_under binding expr = result_unwrap_or (expr_value binding expr) (values.Num (pos 0))

abbrev pub args_under : List Value → List Expr → List Value
args_under binding args = map (value_under binding) args

-- an atom under a binding of its variables; its primes say of which instant it speaks, and are no part of it
abbrev pub atom_under : List Value → Atom → NamedAtom
atom_under binding atom = record { negative = atom.negative; name = atom.name; args = args_under binding atom.args }

-- the atom of a fact with this row
abbrev pub fact_atom : Fact → List Value → NamedAtom
fact_atom fact row = record { negative = fact.negative; name = fact.name; args = row }

-- ---- the atoms of a rule, from left to right

abbrev pub joined : List (List Atom) → List Atom
joined lists = flat_map (λ (list : List Atom). list) lists

abbrev pub layer_atoms : Formula-F (List Atom) → List Atom
layer_atoms (formulas.Const op) = []
layer_atoms (formulas.Atom atom) = atom ∷ []
layer_atoms (formulas.Unary op inner) = inner
layer_atoms (formulas.Binary op left right) = left ++ right
layer_atoms (formulas.Many op operands) = joined operands

abbrev pub formula_atoms : Formula → List Atom
formula_atoms formula = fold-Formula (List Atom) layer_atoms formula

abbrev pub item_atoms : LitItem → List Atom
item_atoms (items.Atom atom) = atom ∷ []
item_atoms (items.Tel formula) = formula_atoms formula
item_atoms (items.Compare relation left right) = []

abbrev pub literal_atoms : Literal → List Atom
literal_atoms literal = item_atoms literal.item

abbrev pub head_atoms : Head → List Atom
head_atoms (heads.Normal atom) = atom ∷ []
head_atoms (heads.Choice atom) = atom ∷ []
head_atoms heads.None = []

abbrev pub rule_atoms : Head → List Literal → List Atom
rule_atoms head body = head_atoms head ++ flat_map literal_atoms body

-- ---- what becomes of a set of atoms

-- these atoms, and those of a list under a binding, each of which is put at the end unless it is there
abbrev pub with_atoms : List Value → List Atom → List NamedAtom → List NamedAtom
with_atoms binding [] known = known
with_atoms binding (atom ∷ more) known = with_atoms binding more (with_atom known (atom_under binding atom))
