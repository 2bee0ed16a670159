-- The stable sets of each operator at the lengths 1 to 3, worked out by hand: one node with the operator, and at some states a choice of the atom a,
-- which is otherwise false. An operator of two operands has a and `&initial` or `&final`.
use Rattle.std.proofs.Common.{◌≡◌, ℕ, false, List, [], ◌∷◌, refl}
use Rattle.tel_rule.specs.declared.formulas.ConstOp.{ConstOp}
use Rattle.tel_rule.specs.declared.formulas.ConstOp.TheVariants as constants
use Rattle.tel_rule.specs.declared.formulas.UnaryOp.{UnaryOp}
use Rattle.tel_rule.specs.declared.formulas.UnaryOp.TheVariants as unary
use Rattle.tel_rule.specs.declared.formulas.BinaryOp.TheVariants as binary
use Rattle.tel_rule.specs.declared.formulas.ManyOp.TheVariants as many
use Rattle.tel_rule.specs.declared.parts.Part.{Part}
use Rattle.tel_rule.specs.declared.parts.Part.TheVariants as parts
use Rattle.tel_rule.specs.declared.nodes.NodeOp.{NodeOp}
use Rattle.tel_rule.specs.declared.nodes.NodeOp.TheVariants as ops
use Rattle.tel_rule.specs.declared.nodes.Kid.TheVariants as kids
use Rattle.tel_rule.specs.declared.ground.GroundHead.TheVariants as heads
use Rattle.tel_rule.specs.Ground.{Ground}
use Rattle.tel_semantics.specs.NodeFormula.{node_formula}
use Rattle.stable_models.proofs.Examples.{atom, program, instance, sets_of}

abbrev upto_3 : Ground → List (List (List ℕ))
upto_3 p = sets_of p 1 ∷ sets_of p 2 ∷ sets_of p 3 ∷ []

-- no atom: a state has the constant and its end, 0 and 1, 2 and 3, 4 and 5
abbrev constant : ConstOp → Ground
constant op = program [] [] (record { op = ops.Const op; kids = [] } ∷ []) []

-- a state has a, the node, a body and its end: 0 to 3, 4 to 7, 8 to 11
abbrev of_one : UnaryOp → Part → Ground
of_one op part =
    program (atom 0 ∷ []) [] (record { op = ops.Unary op; kids = kids.Atom 0 ∷ [] } ∷ []) (instance part (heads.Choice 0 false) [] ∷ [])

-- a state has a, the node, the constant, a body and its end: 0 to 4, 5 to 9, 10 to 14
abbrev of_two : NodeOp → ConstOp → Part → Ground
of_two op other part =
    program (atom 0 ∷ []) [] (record { op = op; kids = kids.Atom 0 ∷ kids.Node 1 ∷ [] } ∷ record { op = ops.Const other; kids = [] } ∷ [])
    (instance part (heads.Choice 0 false) [] ∷ [])

-- at every state
const-true : upto_3 (constant constants.True) ≡ ((0 ∷ 1 ∷ []) ∷ [])
    ∷ ((0 ∷ 2 ∷ 3 ∷ []) ∷ [])
    ∷ ((0 ∷ 2 ∷ 4 ∷ 5 ∷ []) ∷ [])
    ∷ []
unfolding node_formula
const-true = refl

-- at none
const-false : upto_3 (constant constants.False) ≡ ((1 ∷ []) ∷ [])
    ∷ ((3 ∷ []) ∷ [])
    ∷ ((5 ∷ []) ∷ [])
    ∷ []
unfolding node_formula
const-false = refl

-- at the first
const-initial : upto_3 (constant constants.Initial) ≡ ((0 ∷ 1 ∷ []) ∷ [])
    ∷ ((0 ∷ 3 ∷ []) ∷ [])
    ∷ ((0 ∷ 5 ∷ []) ∷ [])
    ∷ []
unfolding node_formula
const-initial = refl

-- at the last
const-final : upto_3 (constant constants.Final) ≡ ((0 ∷ 1 ∷ []) ∷ [])
    ∷ ((2 ∷ 3 ∷ []) ∷ [])
    ∷ ((4 ∷ 5 ∷ []) ∷ [])
    ∷ []
unfolding node_formula
const-final = refl

-- ~ a
negation : upto_3 (of_one unary.Not parts.Initial) ≡ ((1 ∷ 3 ∷ []) ∷ (0 ∷ 3 ∷ []) ∷ [])
    ∷ ((1 ∷ 5 ∷ 7 ∷ []) ∷ (0 ∷ 5 ∷ 7 ∷ []) ∷ [])
    ∷ ((1 ∷ 5 ∷ 9 ∷ 11 ∷ []) ∷ (0 ∷ 5 ∷ 9 ∷ 11 ∷ []) ∷ [])
    ∷ []
unfolding node_formula
negation = refl

-- < a: at the second state, where a is at the first
previous : upto_3 (of_one unary.Previous parts.Initial) ≡ ((3 ∷ []) ∷ (0 ∷ 3 ∷ []) ∷ [])
    ∷ ((7 ∷ []) ∷ (0 ∷ 5 ∷ 7 ∷ []) ∷ [])
    ∷ ((11 ∷ []) ∷ (0 ∷ 5 ∷ 11 ∷ []) ∷ [])
    ∷ []
unfolding node_formula
previous = refl

-- <: a: at the first state too
weak_previous : upto_3 (of_one unary.WeakPrevious parts.Initial) ≡ ((1 ∷ 3 ∷ []) ∷ (0 ∷ 1 ∷ 3 ∷ []) ∷ [])
    ∷ ((1 ∷ 7 ∷ []) ∷ (0 ∷ 1 ∷ 5 ∷ 7 ∷ []) ∷ [])
    ∷ ((1 ∷ 11 ∷ []) ∷ (0 ∷ 1 ∷ 5 ∷ 11 ∷ []) ∷ [])
    ∷ []
unfolding node_formula
weak_previous = refl

-- <* a: as long as a lasts
always_before : upto_3 (of_one unary.AlwaysBefore parts.Initial) ≡ ((3 ∷ []) ∷ (0 ∷ 1 ∷ 3 ∷ []) ∷ [])
    ∷ ((7 ∷ []) ∷ (0 ∷ 1 ∷ 7 ∷ []) ∷ [])
    ∷ ((11 ∷ []) ∷ (0 ∷ 1 ∷ 11 ∷ []) ∷ [])
    ∷ []
unfolding node_formula
always_before = refl

-- <? a: from the first a on
once_before : upto_3 (of_one unary.OnceBefore parts.Initial) ≡ ((3 ∷ []) ∷ (0 ∷ 1 ∷ 3 ∷ []) ∷ [])
    ∷ ((7 ∷ []) ∷ (0 ∷ 1 ∷ 5 ∷ 7 ∷ []) ∷ [])
    ∷ ((11 ∷ []) ∷ (0 ∷ 1 ∷ 5 ∷ 9 ∷ 11 ∷ []) ∷ [])
    ∷ []
unfolding node_formula
once_before = refl

-- << a: everywhere, where a is at the first state
initially : upto_3 (of_one unary.Initially parts.Always) ≡ ((3 ∷ []) ∷ (0 ∷ 1 ∷ 3 ∷ []) ∷ [])
    ∷ ((7 ∷ []) ∷ (4 ∷ 7 ∷ []) ∷ (0 ∷ 1 ∷ 5 ∷ 7 ∷ []) ∷ (0 ∷ 1 ∷ 4 ∷ 5 ∷ 7 ∷ []) ∷ [])
    ∷ ((11 ∷ []) ∷ (8 ∷ 11 ∷ []) ∷ (4 ∷ 11 ∷ []) ∷ (4 ∷ 8 ∷ 11 ∷ []) ∷ (0 ∷ 1 ∷ 5 ∷ 9 ∷ 11 ∷ []) ∷ (0 ∷ 1 ∷ 5 ∷ 8 ∷ 9 ∷ 11 ∷ []) ∷ (0 ∷ 1 ∷ 4 ∷ 5 ∷ 9 ∷ 11 ∷ []) ∷ (0 ∷ 1 ∷ 4 ∷ 5 ∷ 8 ∷ 9 ∷ 11 ∷ []) ∷ [])
    ∷ []
unfolding node_formula
initially = refl

-- > a: one state before a
next : upto_3 (of_one unary.Next parts.Final) ≡ ((3 ∷ []) ∷ (0 ∷ 3 ∷ []) ∷ [])
    ∷ ((7 ∷ []) ∷ (1 ∷ 4 ∷ 7 ∷ []) ∷ [])
    ∷ ((11 ∷ []) ∷ (5 ∷ 8 ∷ 11 ∷ []) ∷ [])
    ∷ []
unfolding node_formula
next = refl

-- >: a: at the last state too
weak_next : upto_3 (of_one unary.WeakNext parts.Final) ≡ ((1 ∷ 3 ∷ []) ∷ (0 ∷ 1 ∷ 3 ∷ []) ∷ [])
    ∷ ((5 ∷ 7 ∷ []) ∷ (1 ∷ 4 ∷ 5 ∷ 7 ∷ []) ∷ [])
    ∷ ((9 ∷ 11 ∷ []) ∷ (5 ∷ 8 ∷ 9 ∷ 11 ∷ []) ∷ [])
    ∷ []
unfolding node_formula
weak_next = refl

-- >* a: from where a lasts to the end
always_after : upto_3 (of_one unary.AlwaysAfter parts.Final) ≡ ((3 ∷ []) ∷ (0 ∷ 1 ∷ 3 ∷ []) ∷ [])
    ∷ ((7 ∷ []) ∷ (4 ∷ 5 ∷ 7 ∷ []) ∷ [])
    ∷ ((11 ∷ []) ∷ (8 ∷ 9 ∷ 11 ∷ []) ∷ [])
    ∷ []
unfolding node_formula
always_after = refl

-- >? a: up to the last a
once_after : upto_3 (of_one unary.OnceAfter parts.Final) ≡ ((3 ∷ []) ∷ (0 ∷ 1 ∷ 3 ∷ []) ∷ [])
    ∷ ((7 ∷ []) ∷ (1 ∷ 4 ∷ 5 ∷ 7 ∷ []) ∷ [])
    ∷ ((11 ∷ []) ∷ (1 ∷ 5 ∷ 8 ∷ 9 ∷ 11 ∷ []) ∷ [])
    ∷ []
unfolding node_formula
once_after = refl

-- >> a: everywhere, where a is at the last state
finally : upto_3 (of_one unary.Finally parts.Always) ≡ ((3 ∷ []) ∷ (0 ∷ 1 ∷ 3 ∷ []) ∷ [])
    ∷ ((7 ∷ []) ∷ (1 ∷ 4 ∷ 5 ∷ 7 ∷ []) ∷ (0 ∷ 7 ∷ []) ∷ (0 ∷ 1 ∷ 4 ∷ 5 ∷ 7 ∷ []) ∷ [])
    ∷ ((11 ∷ []) ∷ (1 ∷ 5 ∷ 8 ∷ 9 ∷ 11 ∷ []) ∷ (4 ∷ 11 ∷ []) ∷ (1 ∷ 4 ∷ 5 ∷ 8 ∷ 9 ∷ 11 ∷ []) ∷ (0 ∷ 11 ∷ []) ∷ (0 ∷ 1 ∷ 5 ∷ 8 ∷ 9 ∷ 11 ∷ []) ∷ (0 ∷ 4 ∷ 11 ∷ []) ∷ (0 ∷ 1 ∷ 4 ∷ 5 ∷ 8 ∷ 9 ∷ 11 ∷ []) ∷ [])
    ∷ []
unfolding node_formula
finally = refl

-- a & &initial
both : upto_3 (of_two (ops.Many many.And) constants.Initial parts.Initial) ≡ ((2 ∷ 4 ∷ []) ∷ (0 ∷ 1 ∷ 2 ∷ 4 ∷ []) ∷ [])
    ∷ ((2 ∷ 9 ∷ []) ∷ (0 ∷ 1 ∷ 2 ∷ 9 ∷ []) ∷ [])
    ∷ ((2 ∷ 14 ∷ []) ∷ (0 ∷ 1 ∷ 2 ∷ 14 ∷ []) ∷ [])
    ∷ []
unfolding node_formula
both = refl

-- a | &initial
one : upto_3 (of_two (ops.Many many.Or) constants.Initial parts.Dynamic) ≡ ((1 ∷ 2 ∷ 4 ∷ []) ∷ [])
    ∷ ((1 ∷ 2 ∷ 9 ∷ []) ∷ (1 ∷ 2 ∷ 5 ∷ 6 ∷ 9 ∷ []) ∷ [])
    ∷ ((1 ∷ 2 ∷ 14 ∷ []) ∷ (1 ∷ 2 ∷ 10 ∷ 11 ∷ 14 ∷ []) ∷ (1 ∷ 2 ∷ 5 ∷ 6 ∷ 14 ∷ []) ∷ (1 ∷ 2 ∷ 5 ∷ 6 ∷ 10 ∷ 11 ∷ 14 ∷ []) ∷ [])
    ∷ []
unfolding node_formula
one = refl

-- a -> &initial
implies : upto_3 (of_two (ops.Binary binary.Implies) constants.Initial parts.Dynamic) ≡ ((1 ∷ 2 ∷ 4 ∷ []) ∷ [])
    ∷ ((1 ∷ 2 ∷ 6 ∷ 9 ∷ []) ∷ (1 ∷ 2 ∷ 5 ∷ 9 ∷ []) ∷ [])
    ∷ ((1 ∷ 2 ∷ 6 ∷ 11 ∷ 14 ∷ []) ∷ (1 ∷ 2 ∷ 6 ∷ 10 ∷ 14 ∷ []) ∷ (1 ∷ 2 ∷ 5 ∷ 11 ∷ 14 ∷ []) ∷ (1 ∷ 2 ∷ 5 ∷ 10 ∷ 14 ∷ []) ∷ [])
    ∷ []
unfolding node_formula
implies = refl

-- a <- &initial
implied_by : upto_3 (of_two (ops.Binary binary.ImpliedBy) constants.Initial parts.Initial) ≡ ((2 ∷ 4 ∷ []) ∷ (0 ∷ 1 ∷ 2 ∷ 4 ∷ []) ∷ [])
    ∷ ((2 ∷ 6 ∷ 9 ∷ []) ∷ (0 ∷ 1 ∷ 2 ∷ 6 ∷ 9 ∷ []) ∷ [])
    ∷ ((2 ∷ 6 ∷ 11 ∷ 14 ∷ []) ∷ (0 ∷ 1 ∷ 2 ∷ 6 ∷ 11 ∷ 14 ∷ []) ∷ [])
    ∷ []
unfolding node_formula
implied_by = refl

-- a <> &initial
same : upto_3 (of_two (ops.Binary binary.Same) constants.Initial parts.Dynamic) ≡ ((2 ∷ 4 ∷ []) ∷ [])
    ∷ ((2 ∷ 6 ∷ 9 ∷ []) ∷ (2 ∷ 5 ∷ 9 ∷ []) ∷ [])
    ∷ ((2 ∷ 6 ∷ 11 ∷ 14 ∷ []) ∷ (2 ∷ 6 ∷ 10 ∷ 14 ∷ []) ∷ (2 ∷ 5 ∷ 11 ∷ 14 ∷ []) ∷ (2 ∷ 5 ∷ 10 ∷ 14 ∷ []) ∷ [])
    ∷ []
unfolding node_formula
same = refl

-- a since &initial: as long as a lasts after the first state
since : upto_3 (of_two (ops.Binary binary.Since) constants.Initial parts.Dynamic) ≡ ((1 ∷ 2 ∷ 4 ∷ []) ∷ [])
    ∷ ((1 ∷ 2 ∷ 9 ∷ []) ∷ (1 ∷ 2 ∷ 5 ∷ 6 ∷ 9 ∷ []) ∷ [])
    ∷ ((1 ∷ 2 ∷ 14 ∷ []) ∷ (1 ∷ 2 ∷ 10 ∷ 14 ∷ []) ∷ (1 ∷ 2 ∷ 5 ∷ 6 ∷ 14 ∷ []) ∷ (1 ∷ 2 ∷ 5 ∷ 6 ∷ 10 ∷ 11 ∷ 14 ∷ []) ∷ [])
    ∷ []
unfolding node_formula
since = refl

-- a trigger &final: at the last state, where a is there or it is the first one
trigger : upto_3 (of_two (ops.Binary binary.Trigger) constants.Final parts.Dynamic) ≡ ((1 ∷ 2 ∷ 4 ∷ []) ∷ [])
    ∷ ((7 ∷ 9 ∷ []) ∷ (5 ∷ 6 ∷ 7 ∷ 9 ∷ []) ∷ [])
    ∷ ((12 ∷ 14 ∷ []) ∷ (10 ∷ 11 ∷ 12 ∷ 14 ∷ []) ∷ (5 ∷ 12 ∷ 14 ∷ []) ∷ (5 ∷ 10 ∷ 11 ∷ 12 ∷ 14 ∷ []) ∷ [])
    ∷ []
unfolding node_formula
trigger = refl

-- a until &final: from where a lasts up to the end
until : upto_3 (of_two (ops.Binary binary.Until) constants.Final parts.Always) ≡ ((1 ∷ 2 ∷ 4 ∷ []) ∷ (0 ∷ 1 ∷ 2 ∷ 4 ∷ []) ∷ [])
    ∷ ((6 ∷ 7 ∷ 9 ∷ []) ∷ (5 ∷ 6 ∷ 7 ∷ 9 ∷ []) ∷ (0 ∷ 1 ∷ 6 ∷ 7 ∷ 9 ∷ []) ∷ (0 ∷ 1 ∷ 5 ∷ 6 ∷ 7 ∷ 9 ∷ []) ∷ [])
    ∷ ((11 ∷ 12 ∷ 14 ∷ []) ∷ (10 ∷ 11 ∷ 12 ∷ 14 ∷ []) ∷ (5 ∷ 6 ∷ 11 ∷ 12 ∷ 14 ∷ []) ∷ (5 ∷ 6 ∷ 10 ∷ 11 ∷ 12 ∷ 14 ∷ []) ∷ (0 ∷ 11 ∷ 12 ∷ 14 ∷ []) ∷ (0 ∷ 10 ∷ 11 ∷ 12 ∷ 14 ∷ []) ∷ (0 ∷ 1 ∷ 5 ∷ 6 ∷ 11 ∷ 12 ∷ 14 ∷ []) ∷ (0 ∷ 1 ∷ 5 ∷ 6 ∷ 10 ∷ 11 ∷ 12 ∷ 14 ∷ []) ∷ [])
    ∷ []
unfolding node_formula
until = refl

-- a release &initial: at the first state, where a is there or it is the last one
release : upto_3 (of_two (ops.Binary binary.Release) constants.Initial parts.Initial) ≡ ((1 ∷ 2 ∷ 4 ∷ []) ∷ (0 ∷ 1 ∷ 2 ∷ 4 ∷ []) ∷ [])
    ∷ ((2 ∷ 9 ∷ []) ∷ (0 ∷ 1 ∷ 2 ∷ 9 ∷ []) ∷ [])
    ∷ ((2 ∷ 14 ∷ []) ∷ (0 ∷ 1 ∷ 2 ∷ 14 ∷ []) ∷ [])
    ∷ []
unfolding node_formula
release = refl
