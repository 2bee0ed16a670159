-- The nodes of formulas. The children of a node come after it, so what nodes mean is made from the last one on.
use Rattle.std.specs.Prelude.{ℕ, ◌+◌, ◌-◌, if◌then◌else◌, Bool, true, false, ◌&&◌, List, [], ◌∷◌, map, length, nat_lt, ◌==◌, slice_index_or}
use Rattle.std.specs.List.{list_all}
use Rattle.tel_rule.specs.declared.formulas.UnaryOp.TheVariants as unary
use Rattle.tel_rule.specs.declared.formulas.BinaryOp.{BinaryOp}
use Rattle.tel_rule.specs.declared.formulas.BinaryOp.TheVariants as binary
use Rattle.tel_rule.specs.declared.nodes.Node.{Node}
use Rattle.tel_rule.specs.declared.nodes.NodeOp.{NodeOp}
use Rattle.tel_rule.specs.declared.nodes.NodeOp.TheVariants as ops
use Rattle.tel_rule.specs.declared.nodes.Kid.{Kid}
use Rattle.tel_rule.specs.declared.nodes.Kid.TheVariants as kids

-- the value of a child, where the nodes from `first` on have these values; a node that isn't among them has the value `none`
abbrev pub kid_value : {X : Type 0} → (ℕ → X) → X → ℕ → List X → Kid → X
kid_value of_atom none first values (kids.Atom atom) = of_atom atom
kid_value of_atom none first values (kids.Node node) = slice_index_or values (node - first) none

-- a value for each node, where these are the nodes from `first` on: what is made of its operator and its children's values
abbrev pub node_values : {X : Type 0} → (ℕ → X) → X → (NodeOp → List X → X) → ℕ → List Node → List X
node_values of_atom none make first [] = []
node_values of_atom none make first (node ∷ more) =
    let later = node_values of_atom none make (first + 1) more in
    make node.op (map (kid_value of_atom none (first + 1) later) node.kids) ∷ later

-- how many children an operator has
abbrev pub takes_kids : NodeOp → ℕ → Bool
takes_kids (ops.Const op) count = count == 0
takes_kids (ops.Unary op) count = count == 1
takes_kids (ops.Binary op) count = count == 2
takes_kids (ops.Many op) count = true

-- a child of the node with this number: an atom in range, or a node in range after it
abbrev pub is_kid : ℕ → ℕ → ℕ → Kid → Bool
is_kid atoms nodes number (kids.Atom atom) = nat_lt atom atoms
is_kid atoms nodes number (kids.Node node) = nat_lt number node && nat_lt node nodes

abbrev pub is_node : ℕ → ℕ → ℕ → Node → Bool
is_node atoms nodes number node = takes_kids node.op (length node.kids) && list_all (is_kid atoms nodes number) node.kids

-- so many atoms and nodes; each node, numbered from `number` on, has the children that it may have
abbrev pub are_nodes : ℕ → ℕ → ℕ → List Node → Bool
are_nodes atoms nodes number [] = true
are_nodes atoms nodes number (node ∷ more) = is_node atoms nodes number node && are_nodes atoms nodes (number + 1) more

-- whether a child is in range: an atom, or any node
abbrev pub kid_in_range : ℕ → ℕ → Kid → Bool
kid_in_range atoms nodes (kids.Atom atom) = nat_lt atom atoms
kid_in_range atoms nodes (kids.Node node) = nat_lt node nodes

abbrev pub is_arrow : BinaryOp → Bool
is_arrow binary.Implies = true
is_arrow binary.ImpliedBy = true
is_arrow binary.Same = true
is_arrow op = false

-- whether each way from a node down to an arrow passes a Not, where that is told of its children
abbrev pub guard : NodeOp → List Bool → Bool
guard (ops.Const op) below = true
guard (ops.Unary unary.Not) below = true
guard (ops.Unary op) below = list_all (λ b. b) below
guard (ops.Binary op) below = if is_arrow op then false else list_all (λ b. b) below
guard (ops.Many op) below = list_all (λ b. b) below

-- the same for each node
abbrev pub guards : List Node → List Bool
guards nodes = node_values (λ atom. true) true guard 0 nodes
