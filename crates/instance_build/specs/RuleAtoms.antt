-- The atoms that stand in a rule, as often as they stand there.
use Rattle.std.specs.Prelude.{List, [], ◌∷◌, ◌++◌}
use Rattle.std.specs.List.{flat_map}
use Rattle.tel_rule.specs.declared.formulas.Atom.{Atom}
use Rattle.tel_rule.specs.declared.formulas.Formula.{Formula}
use Rattle.tel_rule.specs.declared.statements.LitItem.{LitItem}
use Rattle.tel_rule.specs.declared.statements.LitItem.TheVariants as items
use Rattle.tel_rule.specs.declared.statements.Literal.{Literal}
use Rattle.tel_rule.specs.declared.statements.Head.{Head}
use Rattle.tel_rule.specs.declared.statements.Head.TheVariants as heads
use Rattle.instance_build.specs.FormulaValues.{formula_value}

abbrev pub joined_atoms : List (List Atom) → List Atom
joined_atoms lists = flat_map (λ list. list) lists

-- the atoms of a formula, from left to right
abbrev pub formula_atoms : Formula → List Atom
formula_atoms formula = formula_value (λ atom. atom ∷ []) (λ op below. joined_atoms below) formula

-- of a comparison none
abbrev pub item_atoms : LitItem → List Atom
item_atoms (items.Atom atom) = atom ∷ []
item_atoms (items.Tel formula) = formula_atoms formula
item_atoms (items.Compare relation left right) = []

abbrev pub literal_atoms : Literal → List Atom
literal_atoms literal = item_atoms literal.item

abbrev pub head_atoms : Head → List Atom
head_atoms (heads.Normal atom) = atom ∷ []
head_atoms (heads.Choice atom) = atom ∷ []
head_atoms heads.None = []

-- the atoms of a rule: that of its head, and those of its body from left to right
abbrev pub rule_atoms : Head → List Literal → List Atom
rule_atoms head body = head_atoms head ++ flat_map literal_atoms body
