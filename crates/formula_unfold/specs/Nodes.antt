-- The nodes of a program at a state.
use Rattle.std.specs.Prelude.{ℕ, List, [], length, get_or}
use Rattle.tel_rule.specs.declared.formulas.ConstOp.TheVariants as constants
use Rattle.tel_rule.specs.declared.nodes.Node.{Node}
use Rattle.tel_rule.specs.declared.nodes.NodeOp.TheVariants as ops
use Rattle.tel_rule.specs.Ground.{Ground}
use Rattle.normal_program.specs.declared.shapes.Shape.{Shape}
use Rattle.normal_program.specs.declared.shapes.NodeRule.{NodeRule}
use Rattle.atom_space.specs.Numbers.{Counts, part}
use Rattle.formula_unfold.specs.Unfold.{op_shape}

-- what a state has variables for
abbrev pub counts_of : Ground → Counts
counts_of program = record { atoms = length program.atoms; nodes = length program.nodes; bodies = length program.instances }

-- the node with a number; past the last one it is `&true`
abbrev pub node_of : List Node → ℕ → Node
node_of nodes x = get_or nodes x (record { op = ops.Const constants.True; kids = [] })

-- the shape of a node at a state
abbrev pub node_shape : Counts → Node → ℕ → ℕ → Shape
node_shape counts node x t = op_shape counts node.op node.kids x t

abbrev pub shape_at : Ground → ℕ → ℕ → Shape
shape_at program x t = node_shape (counts_of program) (node_of program.nodes x) x t

-- the node with a number at a state
abbrev pub node_at : Ground → ℕ → ℕ → NodeRule
node_at program t x = record { var = part (counts_of program) x t; shape = shape_at program x t }
