-- A node means its operator over what its children mean.
use Rattle.std.proofs.Common.{◌≡◌, ℕ, zero, suc, ◌<◌, true, List, [], ◌∷◌, length, map, get_or, refl, sym, ap, ap₂, subst, ◌∙◌, arith}
use Rattle.std.specs.Prelude.{slice_index_or, slice_get, Some, false}
use Rattle.std.specs.List.{list_all}
use Rattle.std.proofs.lemmas.Bool.{and_parts, eqb-true}
use Rattle.std.proofs.lemmas.List.{get_or-map}
use Rattle.std.proofs.lemmas.Option.{get_or_from_slice_get, slice_get_within}
use Rattle.std.proofs.Math.Nat.{sub-zero}
use Rattle.tel_rule.specs.declared.formulas.UnaryOp.{UnaryOp}
use Rattle.tel_rule.specs.declared.formulas.BinaryOp.{BinaryOp}
use Rattle.tel_rule.specs.declared.nodes.Node.{Node}
use Rattle.tel_rule.specs.declared.nodes.NodeOp.{NodeOp}
use Rattle.tel_rule.specs.declared.nodes.NodeOp.TheVariants as ops
use Rattle.tel_rule.specs.declared.nodes.Kid.{Kid}
use Rattle.tel_rule.specs.declared.nodes.Kid.TheVariants as kids
use Rattle.tel_rule.specs.Nodes.{kid_value, takes_kids, is_kid, is_node}
use Rattle.tel_rule.specs.Ground.{Ground, IsGround}
use Rattle.tel_rule.proofs.NodeSteps.{node-at, value-at}
use Rattle.tel_rule.specs.declared.ground.BodyItem.TheVariants as items
use Rattle.tel_semantics.specs.Formula.{Formula, False, Atom, Previous, negation}
use Rattle.tel_semantics.specs.Theory.{literal_formula}
use Rattle.tel_semantics.specs.Walking.{IsNodeAt}
use Rattle.tel_semantics.specs.Laws.{IsNot, IsBefore}
use Rattle.tel_semantics.specs.NodeFormula.{unary_formula, binary_formula, op_formula, node_formulas, node_formula, kid_formula}

kid-means : (nodes : List Node) (kid : Kid) → kid_value Atom False 0 (node_formulas nodes) kid ≡ kid_formula nodes kid
unfolding node_formula
kid-means nodes (kids.Atom atom) = refl
kid-means nodes (kids.Node node) = ap (λ (number : ℕ). slice_index_or (node_formulas nodes) number False) (sub-zero node)

kids-mean : (nodes : List Node) (list : List Kid) → map (kid_value Atom False 0 (node_formulas nodes)) list ≡ map (kid_formula nodes) list
kids-mean nodes [] = refl
kids-mean nodes (kid ∷ more) = ap₂ (λ (f : Formula) (rest : List Formula). f ∷ rest) (kid-means nodes kid) (kids-mean nodes more)

pub node_at : (program : Ground) (x : ℕ) (node : Node) → IsGround program → x < length program.nodes → node ≡ get_or program.nodes x node → IsNodeAt program x node.op node.kids
unfolding node_formula
node_at program x node ground within there =
    let atoms = length program.atoms in
    let total = length program.nodes in
    let here : is_node atoms total x node ≡ true = subst (λ (number : ℕ). is_node atoms total number node ≡ true) (omega arith) (node-at atoms total 0 program.nodes x node ground.nodes within there) in
    let parts = and_parts (takes_kids node.op (length node.kids)) (list_all (is_kid atoms total x) node.kids) here in
    record {
      counted = parts.0;
      right = parts.1;
      means = value-at Atom False op_formula atoms total program.nodes x node ground.nodes within there ∙ ap (op_formula node.op) (kids-mean program.nodes node.kids);
    }

-- the same by the operator and the list of children that were read
pub node_read : (program : Ground) (x : ℕ) (node : Node) (nodes : List Node) (op : NodeOp) (list : List Kid) → IsGround program → x < length program.nodes → nodes ≡ program.nodes → node ≡ get_or nodes x node → node.op ≡ op → list ≡ node.kids → IsNodeAt program x op list
node_read program x node nodes op list ground within same there is listed =
    let from : node ≡ get_or program.nodes x node = there ∙ ap (λ (all : List Node). get_or all x node) same in
    subst (λ (o : NodeOp). IsNodeAt program x o list) is (subst (λ (l : List Kid). IsNodeAt program x node.op l) (sym listed) (node_at program x node ground within from))

pub kid-right : (atoms total x : ℕ) (list : List Kid) (i : ℕ) (d : Kid) → list_all (is_kid atoms total x) list ≡ true → i < length list → is_kid atoms total x (get_or list i d) ≡ true
kid-right atoms total x [] i d right within = absurd (omega arith)
kid-right atoms total x (kid ∷ more) zero d right within = (and_parts (is_kid atoms total x kid) (list_all (is_kid atoms total x) more) right).0
kid-right atoms total x (kid ∷ more) (suc i) d right within =
    kid-right atoms total x more i d (and_parts (is_kid atoms total x kid) (list_all (is_kid atoms total x) more) right).1 (omega arith)

pub unary_count : {program : Ground} {x : ℕ} {op : UnaryOp} {list : List Kid} → IsNodeAt program x (ops.Unary op) list → length list ≡ 1
unary_count {program} {x} {op} {list} node = eqb-true (length list) 1 node.counted

pub binary_count : {program : Ground} {x : ℕ} {op : BinaryOp} {list : List Kid} → IsNodeAt program x (ops.Binary op) list → length list ≡ 2
binary_count {program} {x} {op} {list} node = eqb-true (length list) 2 node.counted

pub unary_means : {program : Ground} {x : ℕ} {op : UnaryOp} {list : List Kid} (d : Kid) → IsNodeAt program x (ops.Unary op) list → node_formula program.nodes x ≡ unary_formula op (kid_formula program.nodes (get_or list 0 d))
unary_means {program} {x} {op} {list} d node =
    let count = unary_count node in
    node.means ∙ ap (unary_formula op) (get_or-map (kid_formula program.nodes) list 0 d False (omega arith))

pub binary_means : {program : Ground} {x : ℕ} {op : BinaryOp} {list : List Kid} (d : Kid) → IsNodeAt program x (ops.Binary op) list → node_formula program.nodes x ≡ binary_formula op (kid_formula program.nodes (get_or list 0 d)) (kid_formula program.nodes (get_or list 1 d))
binary_means {program} {x} {op} {list} d node =
    let count = binary_count node in
    node.means ∙ ap₂ (binary_formula op) (get_or-map (kid_formula program.nodes) list 0 d False (omega arith)) (get_or-map (kid_formula program.nodes) list 1 d False (omega arith))

-- ---- the laws

found_at : (nodes : List Node) (x : ℕ) (node : Node) → slice_get nodes x ≡ Some node → (x < length nodes) × (node ≡ get_or nodes x node)
found_at nodes x node found = (slice_get_within nodes x node found, sym (get_or_from_slice_get nodes x node node found))

pub nodes_mean : (program : Ground) (x : ℕ) (node : Node) → IsGround program → slice_get program.nodes x ≡ Some node → node_formula program.nodes x ≡ op_formula node.op (map (kid_formula program.nodes) node.kids)
nodes_mean program x node ground found =
    let at = found_at program.nodes x node found in
    (node_at program x node ground at.0 at.1).means

pub two_nots : (program : Ground) (x : ℕ) (kid : Kid) → IsGround program → IsNot program.nodes x kid → literal_formula program.nodes (record { positive = false; item = items.Node x }) ≡ negation (negation (kid_formula program.nodes kid))
two_nots program x kid ground is_not = ap negation (nodes_mean program x _ ground is_not)

pub two_nots_before : (program : Ground) (x y atom : ℕ) → IsGround program → IsNot program.nodes x (kids.Node y) → IsBefore program.nodes y atom → literal_formula program.nodes (record { positive = false; item = items.Node x }) ≡ negation (negation (Previous (Atom atom)))
two_nots_before program x y atom ground is_not is_before =
    two_nots program x (kids.Node y) ground is_not ∙ ap (λ (f : Formula). negation (negation f)) (nodes_mean program y _ ground is_before)
