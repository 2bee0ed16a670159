-- The shape of each operator at the states 0 and 1, worked out by hand: two atoms and one node, so that a state has the variables f, g, x and its
-- end, 0 to 3 at state 0, 4 to 7 at state 1, and 8 to 11 at state 2.
use Rattle.std.proofs.Common.{◌≡◌, ℕ, List, [], ◌∷◌, map, refl}
use Rattle.tel_base.specs.declared.literals.Lit.{Lit}
use Rattle.tel_base.specs.Literals.{lit_of, negate}
use Rattle.tel_rule.specs.declared.formulas.ConstOp.TheVariants as constants
use Rattle.tel_rule.specs.declared.formulas.UnaryOp.TheVariants as unary
use Rattle.tel_rule.specs.declared.formulas.BinaryOp.TheVariants as binary
use Rattle.tel_rule.specs.declared.formulas.ManyOp.TheVariants as many
use Rattle.tel_rule.specs.declared.nodes.NodeOp.{NodeOp}
use Rattle.tel_rule.specs.declared.nodes.NodeOp.TheVariants as ops
use Rattle.tel_rule.specs.declared.nodes.Kid.TheVariants as kids
use Rattle.normal_program.specs.declared.shapes.Shape.{Shape}
use Rattle.normal_program.specs.declared.shapes.Shape.TheVariants as shapes
use Rattle.formula_unfold.specs.Unfold.{op_shape}

abbrev shape : NodeOp → ℕ → Shape
shape op t = op_shape (record { atoms = 2; nodes = 1; bodies = 0 }) op (kids.Atom 0 ∷ kids.Atom 1 ∷ []) 0 t

abbrev all_shapes : ℕ → List Shape
all_shapes t =
    map (λ op. shape op t)
    (ops.Const constants.True ∷ ops.Const constants.False ∷ ops.Const constants.Initial ∷ ops.Const constants.Final ∷ ops.Unary unary.Not ∷ ops.Many many.And ∷ ops.Many many.Or ∷ ops.Binary binary.Implies ∷ ops.Binary binary.ImpliedBy ∷ ops.Binary binary.Same ∷ ops.Unary unary.Previous ∷ ops.Unary unary.WeakPrevious ∷ ops.Unary unary.AlwaysBefore ∷ ops.Unary unary.OnceBefore ∷ ops.Unary unary.Initially ∷ ops.Binary binary.Since ∷ ops.Binary binary.Trigger ∷ ops.Unary unary.Next ∷ ops.Unary unary.WeakNext ∷ ops.Unary unary.AlwaysAfter ∷ ops.Unary unary.OnceAfter ∷ ops.Unary unary.Finally ∷ ops.Binary binary.Until ∷ ops.Binary binary.Release ∷ [])

at_first : all_shapes 0 ≡ shapes.True
    ∷ shapes.False
    ∷ shapes.True
    ∷ shapes.Is (lit_of 3)
    ∷ shapes.Is (negate (lit_of 0))
    ∷ shapes.All (lit_of 0 ∷ lit_of 1 ∷ [])
    ∷ shapes.Any (lit_of 0 ∷ lit_of 1 ∷ [])
    ∷ shapes.Any (negate (lit_of 0) ∷ lit_of 1 ∷ [])
    ∷ shapes.Any (lit_of 0 ∷ negate (lit_of 1) ∷ [])
    ∷ shapes.Same (lit_of 0) (lit_of 1)
    ∷ shapes.False
    ∷ shapes.True
    ∷ shapes.Is (lit_of 0)
    ∷ shapes.Is (lit_of 0)
    ∷ shapes.Is (lit_of 0)
    ∷ shapes.Is (lit_of 1)
    ∷ shapes.Is (lit_of 1)
    ∷ shapes.Is (lit_of 4)
    ∷ shapes.Any (lit_of 3 ∷ lit_of 4 ∷ [])
    ∷ shapes.AllAny (lit_of 0) (lit_of 3 ∷ lit_of 6 ∷ [])
    ∷ shapes.Any (lit_of 0 ∷ lit_of 6 ∷ [])
    ∷ shapes.AnyAll (lit_of 6) (lit_of 0) (lit_of 3)
    ∷ shapes.AnyAll (lit_of 1) (lit_of 0) (lit_of 6)
    ∷ shapes.AllAny (lit_of 1) (lit_of 0 ∷ lit_of 3 ∷ lit_of 6 ∷ [])
    ∷ []
at_first = refl

at_second : all_shapes 1 ≡ shapes.True
    ∷ shapes.False
    ∷ shapes.False
    ∷ shapes.Is (lit_of 7)
    ∷ shapes.Is (negate (lit_of 4))
    ∷ shapes.All (lit_of 4 ∷ lit_of 5 ∷ [])
    ∷ shapes.Any (lit_of 4 ∷ lit_of 5 ∷ [])
    ∷ shapes.Any (negate (lit_of 4) ∷ lit_of 5 ∷ [])
    ∷ shapes.Any (lit_of 4 ∷ negate (lit_of 5) ∷ [])
    ∷ shapes.Same (lit_of 4) (lit_of 5)
    ∷ shapes.Is (lit_of 0)
    ∷ shapes.Is (lit_of 0)
    ∷ shapes.All (lit_of 4 ∷ lit_of 2 ∷ [])
    ∷ shapes.Any (lit_of 4 ∷ lit_of 2 ∷ [])
    ∷ shapes.Is (lit_of 2)
    ∷ shapes.AnyAll (lit_of 5) (lit_of 4) (lit_of 2)
    ∷ shapes.AllAny (lit_of 5) (lit_of 4 ∷ lit_of 2 ∷ [])
    ∷ shapes.Is (lit_of 8)
    ∷ shapes.Any (lit_of 7 ∷ lit_of 8 ∷ [])
    ∷ shapes.AllAny (lit_of 4) (lit_of 7 ∷ lit_of 10 ∷ [])
    ∷ shapes.Any (lit_of 4 ∷ lit_of 10 ∷ [])
    ∷ shapes.AnyAll (lit_of 10) (lit_of 4) (lit_of 7)
    ∷ shapes.AnyAll (lit_of 5) (lit_of 4) (lit_of 10)
    ∷ shapes.AllAny (lit_of 5) (lit_of 4 ∷ lit_of 7 ∷ lit_of 10 ∷ [])
    ∷ []
at_second = refl
