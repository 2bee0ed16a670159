-- What a node's value is made of: its operator, and the values of its children among those of all nodes.
use Rattle.std.proofs.Common.{◌≡◌, ℕ, zero, suc, ◌+◌, ◌-◌, ◌<◌, true, List, [], ◌∷◌, length, map, drop, get_or, refl, sym, ap, ap₂, subst, ◌∙◌, arith}
use Rattle.std.specs.Prelude.{nat_lt, slice_index_or}
use Rattle.std.specs.List.{list_all}
use Rattle.std.proofs.lemmas.Bool.{and_parts, ltb-true}
use Rattle.std.proofs.lemmas.List.{get_or-drop}
use Rattle.tel_rule.specs.declared.nodes.Node.{Node}
use Rattle.tel_rule.specs.declared.nodes.NodeOp.{NodeOp}
use Rattle.tel_rule.specs.declared.nodes.Kid.{Kid}
use Rattle.tel_rule.specs.declared.nodes.Kid.TheVariants as kids
use Rattle.tel_rule.specs.Nodes.{kid_value, node_values, is_kid, is_node, are_nodes}

-- each node has the children that it may have
pub node-at : (atoms total first : ℕ) (nodes : List Node) (x : ℕ) (node : Node) → are_nodes atoms total first nodes ≡ true → x < length nodes → node ≡ get_or nodes x node → is_node atoms total (first + x) node ≡ true
node-at atoms total first [] x node right within there = absurd (omega arith)
node-at atoms total first (first_node ∷ more) zero node right within there =
    let both = and_parts (is_node atoms total first first_node) (are_nodes atoms total (first + 1) more) right in
    subst (λ (n : Node). is_node atoms total (first + 0) n ≡ true) (sym there)
    (subst (λ (number : ℕ). is_node atoms total number first_node ≡ true) (omega arith) both.0)
node-at atoms total first (first_node ∷ more) (suc x) node right within there =
    let both = and_parts (is_node atoms total first first_node) (are_nodes atoms total (first + 1) more) right in
    subst (λ (number : ℕ). is_node atoms total number node ≡ true) (omega arith)
    (node-at atoms total (first + 1) more x node both.1 (omega arith) there)

-- the value of a node, over the values of those behind it
value-here : {X : Type 0} (of_atom : ℕ → X) (none : X) (make : NodeOp → List X → X) (first x : ℕ) (nodes : List Node) (node : Node) → x < length nodes → node ≡ get_or nodes x node → slice_index_or (node_values of_atom none make first nodes) x none ≡ make node.op (map (kid_value of_atom none (first + x + 1) (drop (suc x) (node_values of_atom none make first nodes))) node.kids)
value-here of_atom none make first x [] node within there = absurd (omega arith)
value-here of_atom none make first zero (head ∷ more) node within there =
    let later = node_values of_atom none make (first + 1) more in
    ap (λ (n : Node). make n.op (map (kid_value of_atom none (first + 1) later) n.kids)) (sym there)
    ∙ ap (λ (number : ℕ). make node.op (map (kid_value of_atom none number later) node.kids)) (omega arith)
value-here of_atom none make first (suc x) (head ∷ more) node within there =
    value-here of_atom none make (first + 1) x more node (omega arith) there
    ∙ ap (λ (number : ℕ). make node.op (map (kid_value of_atom none number (drop (suc x) (node_values of_atom none make (first + 1) more))) node.kids)) (omega arith)

kid-same : {X : Type 0} (of_atom : ℕ → X) (none : X) (atoms total x : ℕ) (values : List X) (kid : Kid) → is_kid atoms total x kid ≡ true → kid_value of_atom none (x + 1) (drop (suc x) values) kid ≡ kid_value of_atom none 0 values kid
kid-same of_atom none atoms total x values (kids.Atom atom) right = refl
kid-same of_atom none atoms total x values (kids.Node node) right =
    let both = and_parts (nat_lt x node) (nat_lt node total) right in
    let after : x < node = ltb-true x node both.0 in
    get_or-drop (suc x) values (node - (x + 1)) none ∙ ap (λ (number : ℕ). get_or values number none) (omega arith)

kids-same : {X : Type 0} (of_atom : ℕ → X) (none : X) (atoms total x : ℕ) (values : List X) (list : List Kid) → list_all (is_kid atoms total x) list ≡ true → map (kid_value of_atom none (x + 1) (drop (suc x) values)) list ≡ map (kid_value of_atom none 0 values) list
kids-same of_atom none atoms total x values [] right = refl
kids-same of_atom none atoms total x values (kid ∷ more) right =
    let both = and_parts (is_kid atoms total x kid) (list_all (is_kid atoms total x) more) right in
    ap₂ (λ value rest. value ∷ rest) (kid-same of_atom none atoms total x values kid both.0) (kids-same of_atom none atoms total x values more both.1)

-- the value of a node is made of its operator and the values of its children
pub value-at : {X : Type 0} (of_atom : ℕ → X) (none : X) (make : NodeOp → List X → X) (atoms total : ℕ) (nodes : List Node) (x : ℕ) (node : Node) → are_nodes atoms total 0 nodes ≡ true → x < length nodes → node ≡ get_or nodes x node → slice_index_or (node_values of_atom none make 0 nodes) x none ≡ make node.op (map (kid_value of_atom none 0 (node_values of_atom none make 0 nodes)) node.kids)
value-at of_atom none make atoms total nodes x node right within there =
    let values = node_values of_atom none make 0 nodes in
    let here : is_node atoms total x node ≡ true = subst (λ (number : ℕ). is_node atoms total number node ≡ true) (omega arith) (node-at atoms total 0 nodes x node right within there) in
    let kids_right = (and_parts _ (list_all (is_kid atoms total x) node.kids) here).1 in
    value-here of_atom none make 0 x nodes node within there
    ∙ ap (λ (number : ℕ). make node.op (map (kid_value of_atom none number (drop (suc x) values)) node.kids)) (omega arith)
    ∙ ap (make node.op) (kids-same of_atom none atoms total x values node.kids kids_right)
