-- The clauses of the modules 0 and 1 of two programs, worked out by hand.
use Rattle.std.proofs.Common.{◌≡◌, true, false, List, [], ◌∷◌, refl}
use Rattle.tel_base.specs.Literals.{lit_of}
use Rattle.tel_rule.specs.declared.formulas.ConstOp.TheVariants as constants
use Rattle.tel_rule.specs.declared.formulas.UnaryOp.TheVariants as unary
use Rattle.tel_rule.specs.declared.formulas.BinaryOp.TheVariants as binary
use Rattle.tel_rule.specs.declared.formulas.ManyOp.TheVariants as many
use Rattle.tel_rule.specs.declared.parts.Part.TheVariants as parts
use Rattle.tel_rule.specs.declared.nodes.NodeOp.{NodeOp}
use Rattle.tel_rule.specs.declared.nodes.NodeOp.TheVariants as ops
use Rattle.tel_rule.specs.declared.nodes.Kid.{Kid}
use Rattle.tel_rule.specs.declared.nodes.Kid.TheVariants as kids
use Rattle.tel_rule.specs.declared.nodes.Node.{Node}
use Rattle.tel_rule.specs.declared.ground.GroundHead.TheVariants as heads
use Rattle.tel_rule.specs.declared.ground.BodyItem.TheVariants as items
use Rattle.tel_rule.specs.Ground.{Ground}
use Rattle.normal_program.specs.ModuleClauses.{no_lit, put_lit, in_order, has_both, clauses_of}
use Rattle.step_module.specs.Modules.{module_of}
use Rattle.stable_models.proofs.Examples.{atom, program, instance, loop}

-- ---- p :- &tel { >? q }. #program dynamic. q :- 'p.
-- A state has p, q, the node, two bodies and its end: 0 to 5, 6 to 11, and of the next one 13 is q and 14 the node.

loop-0 : clauses_of (module_of loop 0) ≡
    (lit_of 2 ∷ no_lit 3 ∷ [])
    ∷ (no_lit 2 ∷ lit_of 3 ∷ [])
    ∷ (lit_of 0 ∷ no_lit 3 ∷ [])
    ∷ (no_lit 0 ∷ lit_of 3 ∷ [])
    ∷ (no_lit 1 ∷ [])
    ∷ (no_lit 1 ∷ lit_of 2 ∷ [])
    ∷ (lit_of 2 ∷ no_lit 8 ∷ [])
    ∷ (lit_of 1 ∷ no_lit 2 ∷ lit_of 8 ∷ [])
    ∷ (no_lit 5 ∷ no_lit 8 ∷ [])
    ∷ []
unfolding put_lit in_order has_both
loop-0 = refl

loop-1 : clauses_of (module_of loop 1) ≡
    (no_lit 5 ∷ [])
    ∷ (lit_of 8 ∷ no_lit 9 ∷ [])
    ∷ (no_lit 8 ∷ lit_of 9 ∷ [])
    ∷ (lit_of 6 ∷ no_lit 9 ∷ [])
    ∷ (lit_of 0 ∷ no_lit 10 ∷ [])
    ∷ (no_lit 0 ∷ lit_of 10 ∷ [])
    ∷ (lit_of 7 ∷ no_lit 10 ∷ [])
    ∷ (no_lit 6 ∷ lit_of 9 ∷ [])
    ∷ (no_lit 7 ∷ lit_of 10 ∷ [])
    ∷ (no_lit 7 ∷ lit_of 8 ∷ [])
    ∷ (lit_of 8 ∷ no_lit 14 ∷ [])
    ∷ (lit_of 7 ∷ no_lit 8 ∷ lit_of 14 ∷ [])
    ∷ (no_lit 11 ∷ no_lit 14 ∷ [])
    ∷ []
unfolding put_lit in_order has_both
loop-1 = refl

-- ---- a choice, a primed head, a final constraint, strong negation, and each shape
-- {a}. -a' :- a. #program final. :- &tel { &true & (a | -a) & ~a & (a trigger -a) & (a since -a) & (a <> -a) & &false & > -a }.
-- A state has a, -a, nine nodes, three bodies and its end: 0 to 14, 15 to 29, and of the next one 31 is -a.

abbrev node : NodeOp → List Kid → Node
node op list = record { op = op; kids = list }

abbrev both : List Kid
both = kids.Atom 0 ∷ kids.Atom 1 ∷ []

abbrev shapes : Ground
shapes =
    program
    (atom 0 ∷ record { negative = true; name = 0; args = [] } ∷ [])
    ((0, 1) ∷ [])
    (node (ops.Many many.And) (kids.Node 1 ∷ kids.Node 2 ∷ kids.Node 3 ∷ kids.Node 4 ∷ kids.Node 5 ∷ kids.Node 6 ∷ kids.Node 7 ∷ kids.Node 8 ∷ [])
    ∷ node (ops.Const constants.True) []
    ∷ node (ops.Many many.Or) both
    ∷ node (ops.Unary unary.Not) (kids.Atom 0 ∷ [])
    ∷ node (ops.Binary binary.Trigger) both
    ∷ node (ops.Binary binary.Since) both
    ∷ node (ops.Binary binary.Same) both
    ∷ node (ops.Const constants.False) []
    ∷ node (ops.Unary unary.Next) (kids.Atom 1 ∷ [])
    ∷ [])
    (instance parts.Always (heads.Choice 0 false) []
    ∷ instance parts.Always (heads.Normal 1 true) (record { positive = true; item = items.Atom 0 } ∷ [])
    ∷ instance parts.Final heads.None (record { positive = true; item = items.Node 0 } ∷ [])
    ∷ [])

shapes-0 : clauses_of (module_of shapes 0) ≡
    (lit_of 11 ∷ [])
    ∷ (lit_of 0 ∷ no_lit 12 ∷ [])
    ∷ (no_lit 0 ∷ lit_of 12 ∷ [])
    ∷ (no_lit 12 ∷ no_lit 14 ∷ [])
    ∷ (lit_of 2 ∷ no_lit 13 ∷ [])
    ∷ (no_lit 13 ∷ lit_of 14 ∷ [])
    ∷ (no_lit 2 ∷ lit_of 13 ∷ no_lit 14 ∷ [])
    ∷ (no_lit 13 ∷ [])
    ∷ (no_lit 0 ∷ lit_of 11 ∷ [])
    ∷ (no_lit 1 ∷ [])
    ∷ (no_lit 2 ∷ lit_of 3 ∷ [])
    ∷ (no_lit 2 ∷ lit_of 4 ∷ [])
    ∷ (no_lit 2 ∷ lit_of 5 ∷ [])
    ∷ (no_lit 2 ∷ lit_of 6 ∷ [])
    ∷ (no_lit 2 ∷ lit_of 7 ∷ [])
    ∷ (no_lit 2 ∷ lit_of 8 ∷ [])
    ∷ (no_lit 2 ∷ lit_of 9 ∷ [])
    ∷ (no_lit 2 ∷ lit_of 10 ∷ [])
    ∷ (lit_of 2 ∷ no_lit 3 ∷ no_lit 4 ∷ no_lit 5 ∷ no_lit 6 ∷ no_lit 7 ∷ no_lit 8 ∷ no_lit 9 ∷ no_lit 10 ∷ [])
    ∷ (lit_of 3 ∷ [])
    ∷ (no_lit 0 ∷ lit_of 4 ∷ [])
    ∷ (no_lit 1 ∷ lit_of 4 ∷ [])
    ∷ (lit_of 0 ∷ lit_of 1 ∷ no_lit 4 ∷ [])
    ∷ (no_lit 0 ∷ no_lit 5 ∷ [])
    ∷ (lit_of 0 ∷ lit_of 5 ∷ [])
    ∷ (lit_of 1 ∷ no_lit 6 ∷ [])
    ∷ (no_lit 1 ∷ lit_of 6 ∷ [])
    ∷ (lit_of 1 ∷ no_lit 7 ∷ [])
    ∷ (no_lit 1 ∷ lit_of 7 ∷ [])
    ∷ (no_lit 0 ∷ lit_of 1 ∷ no_lit 8 ∷ [])
    ∷ (lit_of 0 ∷ no_lit 1 ∷ no_lit 8 ∷ [])
    ∷ (lit_of 0 ∷ lit_of 1 ∷ lit_of 8 ∷ [])
    ∷ (no_lit 0 ∷ no_lit 1 ∷ lit_of 8 ∷ [])
    ∷ (no_lit 9 ∷ [])
    ∷ (no_lit 10 ∷ lit_of 16 ∷ [])
    ∷ (lit_of 10 ∷ no_lit 16 ∷ [])
    ∷ (no_lit 0 ∷ no_lit 1 ∷ [])
    ∷ (no_lit 14 ∷ no_lit 16 ∷ [])
    ∷ []
unfolding put_lit in_order has_both
shapes-0 = refl

shapes-1 : clauses_of (module_of shapes 1) ≡
    (no_lit 14 ∷ [])
    ∷ (lit_of 26 ∷ [])
    ∷ (lit_of 15 ∷ no_lit 27 ∷ [])
    ∷ (no_lit 15 ∷ lit_of 27 ∷ [])
    ∷ (no_lit 27 ∷ no_lit 29 ∷ [])
    ∷ (lit_of 17 ∷ no_lit 28 ∷ [])
    ∷ (no_lit 28 ∷ lit_of 29 ∷ [])
    ∷ (no_lit 17 ∷ lit_of 28 ∷ no_lit 29 ∷ [])
    ∷ (no_lit 28 ∷ [])
    ∷ (no_lit 12 ∷ lit_of 16 ∷ [])
    ∷ (no_lit 15 ∷ lit_of 26 ∷ [])
    ∷ (lit_of 12 ∷ no_lit 16 ∷ [])
    ∷ (no_lit 17 ∷ lit_of 18 ∷ [])
    ∷ (no_lit 17 ∷ lit_of 19 ∷ [])
    ∷ (no_lit 17 ∷ lit_of 20 ∷ [])
    ∷ (no_lit 17 ∷ lit_of 21 ∷ [])
    ∷ (no_lit 17 ∷ lit_of 22 ∷ [])
    ∷ (no_lit 17 ∷ lit_of 23 ∷ [])
    ∷ (no_lit 17 ∷ lit_of 24 ∷ [])
    ∷ (no_lit 17 ∷ lit_of 25 ∷ [])
    ∷ (lit_of 17 ∷ no_lit 18 ∷ no_lit 19 ∷ no_lit 20 ∷ no_lit 21 ∷ no_lit 22 ∷ no_lit 23 ∷ no_lit 24 ∷ no_lit 25 ∷ [])
    ∷ (lit_of 18 ∷ [])
    ∷ (no_lit 15 ∷ lit_of 19 ∷ [])
    ∷ (no_lit 16 ∷ lit_of 19 ∷ [])
    ∷ (lit_of 15 ∷ lit_of 16 ∷ no_lit 19 ∷ [])
    ∷ (no_lit 15 ∷ no_lit 20 ∷ [])
    ∷ (lit_of 15 ∷ lit_of 20 ∷ [])
    ∷ (lit_of 16 ∷ no_lit 21 ∷ [])
    ∷ (lit_of 6 ∷ lit_of 15 ∷ no_lit 21 ∷ [])
    ∷ (no_lit 15 ∷ no_lit 16 ∷ lit_of 21 ∷ [])
    ∷ (no_lit 6 ∷ no_lit 16 ∷ lit_of 21 ∷ [])
    ∷ (no_lit 16 ∷ lit_of 22 ∷ [])
    ∷ (no_lit 7 ∷ no_lit 15 ∷ lit_of 22 ∷ [])
    ∷ (lit_of 15 ∷ lit_of 16 ∷ no_lit 22 ∷ [])
    ∷ (lit_of 7 ∷ lit_of 16 ∷ no_lit 22 ∷ [])
    ∷ (no_lit 15 ∷ lit_of 16 ∷ no_lit 23 ∷ [])
    ∷ (lit_of 15 ∷ no_lit 16 ∷ no_lit 23 ∷ [])
    ∷ (lit_of 15 ∷ lit_of 16 ∷ lit_of 23 ∷ [])
    ∷ (no_lit 15 ∷ no_lit 16 ∷ lit_of 23 ∷ [])
    ∷ (no_lit 24 ∷ [])
    ∷ (no_lit 25 ∷ lit_of 31 ∷ [])
    ∷ (lit_of 25 ∷ no_lit 31 ∷ [])
    ∷ (no_lit 15 ∷ no_lit 16 ∷ [])
    ∷ (no_lit 29 ∷ no_lit 31 ∷ [])
    ∷ []
unfolding put_lit in_order has_both
shapes-1 = refl
