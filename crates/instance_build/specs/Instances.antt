-- The instance of a rule over numbers of its atoms. The operators of its formulas are nodes, numbered by literal from left to right, a
-- node before those of its operands.
use Rattle.std.specs.Prelude.{ℕ, ◌+◌, ◌==◌, Bool, List, [], ◌∷◌, ◌++◌, length, false, nat_lt, nat_le, if◌then◌else◌}
use Rattle.tel_rule.specs.declared.parts.Part.{Part}
use Rattle.tel_rule.specs.declared.formulas.Atom.{Atom}
use Rattle.tel_rule.specs.declared.formulas.Formula.{Formula}
use Rattle.tel_rule.specs.declared.formulas.UnaryOp.TheVariants as unary
use Rattle.tel_rule.specs.declared.statements.LitItem.{LitItem}
use Rattle.tel_rule.specs.declared.statements.LitItem.TheVariants as read
use Rattle.tel_rule.specs.declared.statements.Literal.{Literal}
use Rattle.tel_rule.specs.declared.statements.Head.{Head}
use Rattle.tel_rule.specs.declared.statements.Head.TheVariants as heads
use Rattle.tel_rule.specs.declared.nodes.Node.{Node}
use Rattle.tel_rule.specs.declared.nodes.NodeOp.{NodeOp}
use Rattle.tel_rule.specs.declared.nodes.NodeOp.TheVariants as ops
use Rattle.tel_rule.specs.declared.nodes.Kid.{Kid}
use Rattle.tel_rule.specs.declared.nodes.Kid.TheVariants as kids
use Rattle.tel_rule.specs.declared.ground.Instance.{Instance}
use Rattle.tel_rule.specs.declared.ground.GroundHead.{GroundHead}
use Rattle.tel_rule.specs.declared.ground.GroundHead.TheVariants as derived
use Rattle.tel_rule.specs.declared.ground.BodyLit.{BodyLit}
use Rattle.tel_rule.specs.declared.ground.BodyItem.{BodyItem}
use Rattle.tel_rule.specs.declared.ground.BodyItem.TheVariants as items
use Rattle.instance_build.specs.FormulaValues.{formula_value}

-- what is made where the nodes from a number on are free, and the nodes of it, numbered from there on
abbrev pub Numbered : Type 0 → Type 0
Numbered X = ℕ → X × List Node

-- several in a row, each with the numbers behind those of the ones before it
abbrev pub in_row : {X : Type 0} → List (Numbered X) → Numbered (List X)
in_row [] first = ([], [])
in_row (thing ∷ more) first =
    let here = thing first in
    let later = in_row more (first + length here.1) in
    (here.0 ∷ later.0, here.1 ++ later.1)

-- ---- formulas

-- an atom is a child without a node
abbrev pub atom_kid : ℕ → Numbered Kid
atom_kid atom first = (kids.Atom atom, [])

-- an operator is a node before those of its operands
abbrev pub node_over : NodeOp → List (Numbered Kid) → Numbered Kid
node_over op operands first =
    let below = in_row operands (first + 1) in
    (kids.Node first, record { op = op; kids = below.0 } ∷ below.1)

-- the child that a formula is, and its nodes
abbrev pub grown : (Atom → ℕ) → Formula → Numbered Kid
grown number formula = formula_value (λ atom. atom_kid (number atom)) node_over formula

-- ---- literals

-- a child as what a literal looks at
abbrev pub kid_item : Kid → BodyItem
kid_item (kids.Atom atom) = items.Atom atom
kid_item (kids.Node node) = items.Node node

-- an atom of a body: at the same instant, or one instant before
abbrev pub atom_item : (Atom → ℕ) → Atom → BodyItem
atom_item number atom = if nat_lt 0 atom.before then items.Before (number atom) else items.Atom (number atom)

-- a literal with no `not`, which is positive, or with one; a comparison is none
abbrev pub once : (Atom → ℕ) → Bool → LitItem → Numbered (List BodyLit)
once number positive (read.Atom atom) first = (record { positive = positive; item = atom_item number atom } ∷ [], [])
once number positive (read.Tel formula) first =
    let inside = grown number formula first in
    (record { positive = positive; item = kid_item inside.0 } ∷ [], inside.1)
once number positive (read.Compare relation left right) first = ([], [])

-- an atom of a body as the child of a node: one instant before it is a node
abbrev pub atom_grown : (Atom → ℕ) → Atom → Numbered Kid
atom_grown number atom = if nat_lt 0 atom.before then node_over (ops.Unary unary.Previous) (atom_kid (number atom) ∷ []) else atom_kid (number atom)

-- `not` of a node ~ over a child
abbrev pub not_node : Numbered Kid → Numbered (List BodyLit)
not_node child first =
    let made = node_over (ops.Unary unary.Not) (child ∷ []) first in
    (record { positive = false; item = kid_item made.0 } ∷ [], made.1)

-- a literal with two `not`
abbrev pub twice : (Atom → ℕ) → LitItem → Numbered (List BodyLit)
twice number (read.Atom atom) first = not_node (atom_grown number atom) first
twice number (read.Tel formula) first = not_node (grown number formula) first
twice number (read.Compare relation left right) first = ([], [])

-- the literal of an instance that a literal is; a comparison, which holds where there is an instance, is none
abbrev pub ground_literal : (Atom → ℕ) → Literal → Numbered (List BodyLit)
ground_literal number literal first = if nat_le literal.nots 1 then once number (literal.nots == 0) literal.item first else twice number literal.item first

-- the literals of a body
abbrev pub ground_body : (Atom → ℕ) → List Literal → Numbered (List BodyLit)
ground_body number [] first = ([], [])
ground_body number (literal ∷ more) first =
    let here = ground_literal number literal first in
    let later = ground_body number more (first + length here.1) in
    (here.0 ++ later.0, here.1 ++ later.1)

-- ---- rules

abbrev pub ground_head : (Atom → ℕ) → Head → GroundHead
ground_head number (heads.Normal atom) = derived.Normal (number atom) (nat_lt 0 atom.after)
ground_head number (heads.Choice atom) = derived.Choice (number atom) (nat_lt 0 atom.after)
ground_head number heads.None = derived.None

-- the instance of a rule, which is the statement with this number
abbrev pub ground_rule : (Atom → ℕ) → ℕ → Part → Head → List Literal → Numbered Instance
ground_rule number statement part head body first =
    let inside = ground_body number body first in
    (record { statement = statement; part = part; head = ground_head number head; body = inside.0 }, inside.1)
