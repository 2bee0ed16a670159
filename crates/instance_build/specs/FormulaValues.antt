-- Values of formulas as they are read: an atom has one, and an operator makes one of those of its operands.
use Rattle.std.specs.Prelude.{List, [], ◌∷◌}
use Rattle.tel_rule.specs.declared.formulas.Atom.{Atom}
use Rattle.tel_rule.specs.declared.formulas.Formula.{Formula}
use Rattle.tel_rule.specs.declared.formulas.Formula.TheOpen.{Formula-F}
use Rattle.tel_rule.specs.declared.formulas.Formula.TheOpen as layers
use Rattle.tel_rule.specs.declared.formulas.Formula.TheFolds.{fold-Formula}
use Rattle.tel_rule.specs.declared.nodes.NodeOp.{NodeOp}
use Rattle.tel_rule.specs.declared.nodes.NodeOp.TheVariants as ops

-- the value of a formula over the values of its operands, from left to right
abbrev pub layer_value : {X : Type 0} → (Atom → X) → (NodeOp → List X → X) → Formula-F X → X
layer_value of_atom make (layers.Const op) = make (ops.Const op) []
layer_value of_atom make (layers.Atom atom) = of_atom atom
layer_value of_atom make (layers.Unary op operand) = make (ops.Unary op) (operand ∷ [])
layer_value of_atom make (layers.Binary op left right) = make (ops.Binary op) (left ∷ right ∷ [])
layer_value of_atom make (layers.Many op operands) = make (ops.Many op) operands

abbrev pub formula_value : {X : Type 0} → (Atom → X) → (NodeOp → List X → X) → Formula → X
formula_value {X} of_atom make formula = fold-Formula X (layer_value of_atom make) formula
