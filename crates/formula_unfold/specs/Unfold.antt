-- What each operator hangs on at a state, by the laws that unfold it: one of the past by the state before, one of the future by the state
-- after. The operators are those of temporal logic on finite traces.
use Rattle.std.specs.Prelude.{ℕ, ◌+◌, ◌-◌, List, [], ◌∷◌, map, ◌==◌, if◌then◌else◌, slice_index_or}
use Rattle.tel_base.specs.Literals.{lit_of, negate}
use Rattle.tel_rule.specs.declared.formulas.ConstOp.{ConstOp}
use Rattle.tel_rule.specs.declared.formulas.ConstOp.TheVariants as constants
use Rattle.tel_rule.specs.declared.formulas.UnaryOp.{UnaryOp}
use Rattle.tel_rule.specs.declared.formulas.UnaryOp.TheVariants as unary
use Rattle.tel_rule.specs.declared.formulas.BinaryOp.{BinaryOp}
use Rattle.tel_rule.specs.declared.formulas.BinaryOp.TheVariants as binary
use Rattle.tel_rule.specs.declared.formulas.ManyOp.{ManyOp}
use Rattle.tel_rule.specs.declared.formulas.ManyOp.TheVariants as many
use Rattle.tel_rule.specs.declared.nodes.NodeOp.{NodeOp}
use Rattle.tel_rule.specs.declared.nodes.NodeOp.TheVariants as ops
use Rattle.tel_rule.specs.declared.nodes.Kid.{Kid}
use Rattle.tel_rule.specs.declared.nodes.Kid.TheVariants as kids
use Rattle.normal_program.specs.declared.shapes.Shape.{Shape}
use Rattle.normal_program.specs.declared.shapes.Shape.TheVariants as shapes
use Rattle.atom_space.specs.Numbers.{Counts, visible, part, end_at}

-- the variable of a child
abbrev pub kid_var : Counts → Kid → ℕ → ℕ
kid_var counts (kids.Atom atom) t = visible counts atom t
kid_var counts (kids.Node node) t = part counts node t

-- one shape at state 0, another later
abbrev pub by_state : ℕ → Shape → Shape → Shape
by_state t first later = if t == 0 then first else later

abbrev pub const_shape : ConstOp → ℕ → ℕ → Shape
const_shape constants.True last t = shapes.True
const_shape constants.False last t = shapes.False
const_shape constants.Initial last t = by_state t shapes.True shapes.False
const_shape constants.Final last t = shapes.Is (lit_of last)

-- the shape of a node, by the variables of its child, its own and the end, each at a state
abbrev pub unary_shape : UnaryOp → (ℕ → ℕ) → (ℕ → ℕ) → ℕ → ℕ → Shape
unary_shape unary.Not kid own last t = shapes.Is (negate (lit_of (kid t)))
unary_shape unary.Previous kid own last t = by_state t shapes.False (shapes.Is (lit_of (kid (t - 1))))
unary_shape unary.WeakPrevious kid own last t = by_state t shapes.True (shapes.Is (lit_of (kid (t - 1))))
unary_shape unary.AlwaysBefore kid own last t = by_state t (shapes.Is (lit_of (kid t))) (shapes.All (lit_of (kid t) ∷ lit_of (own (t - 1)) ∷ []))
unary_shape unary.OnceBefore kid own last t = by_state t (shapes.Is (lit_of (kid t))) (shapes.Any (lit_of (kid t) ∷ lit_of (own (t - 1)) ∷ []))
unary_shape unary.Initially kid own last t = by_state t (shapes.Is (lit_of (kid t))) (shapes.Is (lit_of (own (t - 1))))
unary_shape unary.Next kid own last t = shapes.Is (lit_of (kid (t + 1)))
unary_shape unary.WeakNext kid own last t = shapes.Any (lit_of last ∷ lit_of (kid (t + 1)) ∷ [])
unary_shape unary.AlwaysAfter kid own last t = shapes.AllAny (lit_of (kid t)) (lit_of last ∷ lit_of (own (t + 1)) ∷ [])
unary_shape unary.OnceAfter kid own last t = shapes.Any (lit_of (kid t) ∷ lit_of (own (t + 1)) ∷ [])
unary_shape unary.Finally kid own last t = shapes.AnyAll (lit_of (own (t + 1))) (lit_of (kid t)) (lit_of last)

abbrev pub binary_shape : BinaryOp → (ℕ → ℕ) → (ℕ → ℕ) → (ℕ → ℕ) → ℕ → ℕ → Shape
binary_shape binary.Since f g own last t = by_state t (shapes.Is (lit_of (g t))) (shapes.AnyAll (lit_of (g t)) (lit_of (f t)) (lit_of (own (t - 1))))
binary_shape binary.Trigger f g own last t = by_state t (shapes.Is (lit_of (g t))) (shapes.AllAny (lit_of (g t)) (lit_of (f t) ∷ lit_of (own (t - 1)) ∷ []))
binary_shape binary.Until f g own last t = shapes.AnyAll (lit_of (g t)) (lit_of (f t)) (lit_of (own (t + 1)))
binary_shape binary.Release f g own last t = shapes.AllAny (lit_of (g t)) (lit_of (f t) ∷ lit_of last ∷ lit_of (own (t + 1)) ∷ [])
binary_shape binary.Implies f g own last t = shapes.Any (negate (lit_of (f t)) ∷ lit_of (g t) ∷ [])
binary_shape binary.ImpliedBy f g own last t = shapes.Any (lit_of (f t) ∷ negate (lit_of (g t)) ∷ [])
binary_shape binary.Same f g own last t = shapes.Same (lit_of (f t)) (lit_of (g t))

abbrev pub many_shape : Counts → ManyOp → List Kid → ℕ → Shape
many_shape counts many.And list t = shapes.All (map (λ (kid : Kid). lit_of (kid_var counts kid t)) list)
many_shape counts many.Or list t = shapes.Any (map (λ (kid : Kid). lit_of (kid_var counts kid t)) list)

-- the child at a place; past the end the atom 0
abbrev pub kid_of : List Kid → ℕ → Kid
kid_of list place = slice_index_or list place (kids.Atom 0)

-- the shape of the node x with this operator and these children
abbrev pub op_shape : Counts → NodeOp → List Kid → ℕ → ℕ → Shape
op_shape counts (ops.Const op) list x t = const_shape op (end_at counts t) t
op_shape counts (ops.Unary op) list x t = unary_shape op (kid_var counts (kid_of list 0)) (part counts x) (end_at counts t) t
op_shape counts (ops.Binary op) list x t = binary_shape op (kid_var counts (kid_of list 0)) (kid_var counts (kid_of list 1)) (part counts x) (end_at counts t) t
op_shape counts (ops.Many op) list x t = many_shape counts op list t
