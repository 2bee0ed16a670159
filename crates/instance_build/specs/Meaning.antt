-- What rules say, over atoms of any kind: a formula in place of each atom, literal, body and head.
use Rattle.std.specs.Prelude.{ℕ, zero, suc, Bool, true, false, List, [], ◌∷◌, nat_lt, if◌then◌else◌}
use Rattle.tel_rule.specs.declared.formulas.Atom.{Atom}
use Rattle.tel_rule.specs.declared.formulas.Formula as read
use Rattle.tel_rule.specs.declared.statements.LitItem.{LitItem}
use Rattle.tel_rule.specs.declared.statements.LitItem.TheVariants as items
use Rattle.tel_rule.specs.declared.statements.Literal.{Literal}
use Rattle.tel_rule.specs.declared.statements.Head.{Head}
use Rattle.tel_rule.specs.declared.statements.Head.TheVariants as heads
use Rattle.tel_semantics.specs.Formula as semantic
use Rattle.tel_semantics.specs.Formula.{FormulaOver, True, False, And, Or, Arrow, Previous, Next, negation}
use Rattle.tel_semantics.specs.NodeFormula.{op_formula}
use Rattle.instance_build.specs.FormulaValues.{formula_value}

-- a formula as it is read, over what stands for its atoms
abbrev pub formula_meaning : {X : Type 0} → (Atom → X) → read.Formula → FormulaOver X
formula_meaning of_atom formula = formula_value (λ atom. semantic.Atom (of_atom atom)) op_formula formula

-- an atom at the same instant or at the one before, or a formula; a comparison holds where there is an instance
abbrev pub item_meaning : {X : Type 0} → (Atom → X) → LitItem → FormulaOver X
item_meaning of_atom (items.Atom atom) = if nat_lt 0 atom.before then Previous (semantic.Atom (of_atom atom)) else semantic.Atom (of_atom atom)
item_meaning of_atom (items.Tel formula) = formula_meaning of_atom formula
item_meaning of_atom (items.Compare relation left right) = True

-- a formula behind so many `not`
abbrev pub behind_nots : {X : Type 0} → ℕ → FormulaOver X → FormulaOver X
behind_nots zero f = f
behind_nots (suc nots) f = negation (behind_nots nots f)

abbrev pub literal_meaning : {X : Type 0} → (Atom → X) → Literal → FormulaOver X
literal_meaning of_atom literal = behind_nots literal.nots (item_meaning of_atom literal.item)

abbrev pub is_comparison : LitItem → Bool
is_comparison (items.Compare relation left right) = true
is_comparison (items.Atom atom) = false
is_comparison (items.Tel formula) = false

-- the `and` of the literals, without the comparisons
abbrev pub body_meaning : {X : Type 0} → (Atom → X) → List Literal → FormulaOver X
body_meaning of_atom [] = True
body_meaning of_atom (literal ∷ more) = if is_comparison literal.item then body_meaning of_atom more else And (literal_meaning of_atom literal) (body_meaning of_atom more)

-- an atom of a head, at the same instant or at the next one
abbrev pub derived_meaning : {X : Type 0} → (Atom → X) → Atom → FormulaOver X
derived_meaning of_atom atom = if nat_lt 0 atom.after then Next (semantic.Atom (of_atom atom)) else semantic.Atom (of_atom atom)

-- it, or a choice of it, or false
abbrev pub head_meaning : {X : Type 0} → (Atom → X) → Head → FormulaOver X
head_meaning of_atom (heads.Normal atom) = derived_meaning of_atom atom
head_meaning of_atom (heads.Choice atom) = Or (derived_meaning of_atom atom) (negation (derived_meaning of_atom atom))
head_meaning of_atom heads.None = False

-- body -> head
abbrev pub rule_meaning : {X : Type 0} → (Atom → X) → Head → List Literal → FormulaOver X
rule_meaning of_atom head body = Arrow (body_meaning of_atom body) (head_meaning of_atom head)
