-- The formulas of a program have its atoms alone.
use Rattle.std.proofs.Common.{◌≡◌, ℕ, zero, suc, ◌+◌, ◌-◌, ◌<◌, Bool, true, false, ◌&&◌, List, [], ◌∷◌, length, map, refl, subst, ◌∙◌, ⊎_elim, arith}
use Rattle.std.specs.Prelude.{nat_lt, slice_index_or, if◌then◌else◌}
use Rattle.std.specs.List.{list_all, filter, range_with_len}
use Rattle.std.proofs.lemmas.Bool.{and_parts, and_from, lt-ltb}
use Rattle.std.proofs.lemmas.List.Folds.{list_all-map, list_all-append}
use Rattle.tel_rule.specs.declared.formulas.ConstOp.{ConstOp}
use Rattle.tel_rule.specs.declared.formulas.ConstOp.TheVariants as constants
use Rattle.tel_rule.specs.declared.formulas.UnaryOp.{UnaryOp}
use Rattle.tel_rule.specs.declared.formulas.UnaryOp.TheVariants as unary
use Rattle.tel_rule.specs.declared.formulas.BinaryOp.{BinaryOp}
use Rattle.tel_rule.specs.declared.formulas.BinaryOp.TheVariants as binary
use Rattle.tel_rule.specs.declared.formulas.ManyOp.{ManyOp}
use Rattle.tel_rule.specs.declared.formulas.ManyOp.TheVariants as many
use Rattle.tel_rule.specs.declared.nodes.Node.{Node}
use Rattle.tel_rule.specs.declared.nodes.NodeOp.{NodeOp}
use Rattle.tel_rule.specs.declared.nodes.NodeOp.TheVariants as ops
use Rattle.tel_rule.specs.declared.nodes.Kid.{Kid}
use Rattle.tel_rule.specs.declared.nodes.Kid.TheVariants as kids
use Rattle.tel_rule.specs.declared.ground.Instance.{Instance}
use Rattle.tel_rule.specs.declared.ground.GroundHead.{GroundHead}
use Rattle.tel_rule.specs.declared.ground.GroundHead.TheVariants as heads
use Rattle.tel_rule.specs.declared.ground.BodyLit.{BodyLit}
use Rattle.tel_rule.specs.declared.ground.BodyItem.{BodyItem}
use Rattle.tel_rule.specs.declared.ground.BodyItem.TheVariants as items
use Rattle.tel_rule.specs.Nodes.{kid_value, node_values, takes_kids, is_kid, is_node, are_nodes}
use Rattle.tel_rule.specs.declared.ground.GroundAtom.{GroundAtom}
use Rattle.tel_rule.specs.Atoms.{is_pair, atom_at, pairs_with, pairs_of}
use Rattle.tel_rule.specs.Ground.{Ground, IsGround, head_in_range, item_in_range, literal_in_range, instance_in_range}
use Rattle.tel_semantics.specs.Formula.{Formula, False, Atom, atoms_below, negation}
use Rattle.tel_semantics.specs.NodeFormula.{const_formula, unary_formula, binary_formula, many_formula, op_formula, node_formulas, node_formula}
use Rattle.tel_semantics.specs.Theory.{Demand, item_formula, literal_formula, body_formula, derived_formula, head_formula, instance_formula, demand_of, pair_demand, theory}
use Rattle.tel_base.proofs.Members.{In, In-map_from, In-flat_map_from, In-filter_from, list_all-from_In}

-- ---- the formulas of the nodes

negation_below : (count : ℕ) (f : Formula) → atoms_below count f ≡ true → atoms_below count (negation f) ≡ true
negation_below count f h = and_from (atoms_below count f) true h refl

const_below : (count : ℕ) (op : ConstOp) → atoms_below count (const_formula op) ≡ true
const_below count constants.True = refl
const_below count constants.False = refl
const_below count constants.Initial = refl
const_below count constants.Final = refl

unary_below : (count : ℕ) (op : UnaryOp) (f : Formula) → atoms_below count f ≡ true → atoms_below count (unary_formula op f) ≡ true
unary_below count unary.Not f h = and_from (atoms_below count f) true h refl
unary_below count unary.Previous f h = h
unary_below count unary.WeakPrevious f h = and_from (atoms_below count f) true h refl
unary_below count unary.AlwaysBefore f h = h
unary_below count unary.OnceBefore f h = h
unary_below count unary.Initially f h = h
unary_below count unary.Next f h = h
unary_below count unary.WeakNext f h = and_from (atoms_below count f) true h refl
unary_below count unary.AlwaysAfter f h = h
unary_below count unary.OnceAfter f h = h
unary_below count unary.Finally f h = h

binary_below : (count : ℕ) (op : BinaryOp) (f g : Formula) → atoms_below count f ≡ true → atoms_below count g ≡ true → atoms_below count (binary_formula op f g) ≡ true
binary_below count binary.Since f g h i = and_from (atoms_below count f) (atoms_below count g) h i
binary_below count binary.Trigger f g h i = and_from (atoms_below count f) (atoms_below count g) h i
binary_below count binary.Until f g h i = and_from (atoms_below count f) (atoms_below count g) h i
binary_below count binary.Release f g h i = and_from (atoms_below count f) (atoms_below count g) h i
binary_below count binary.Implies f g h i = and_from (atoms_below count f) (atoms_below count g) h i
binary_below count binary.ImpliedBy f g h i = and_from (atoms_below count g) (atoms_below count f) i h
binary_below count binary.Same f g h i =
    and_from (atoms_below count f && atoms_below count g) (atoms_below count g && atoms_below count f) (and_from (atoms_below count f) (atoms_below count g) h i) (and_from (atoms_below count g) (atoms_below count f) i h)

many_below : (count : ℕ) (op : ManyOp) (formulas : List Formula) → list_all (atoms_below count) formulas ≡ true → atoms_below count (many_formula op formulas) ≡ true
many_below count many.And [] h = refl
many_below count many.And (f ∷ more) h =
    let both = and_parts (atoms_below count f) (list_all (atoms_below count) more) h in
    and_from (atoms_below count f) (atoms_below count (many_formula many.And more)) both.0 (many_below count many.And more both.1)
many_below count many.Or [] h = refl
many_below count many.Or (f ∷ more) h =
    let both = and_parts (atoms_below count f) (list_all (atoms_below count) more) h in
    and_from (atoms_below count f) (atoms_below count (many_formula many.Or more)) both.0 (many_below count many.Or more both.1)

-- one of these formulas; past their end there is `false`
looked_up_below : (count : ℕ) (formulas : List Formula) (i : ℕ) → list_all (atoms_below count) formulas ≡ true → atoms_below count (slice_index_or formulas i False) ≡ true
looked_up_below count [] i h = refl
looked_up_below count (f ∷ more) zero h = (and_parts (atoms_below count f) (list_all (atoms_below count) more) h).0
looked_up_below count (f ∷ more) (suc i) h =
    looked_up_below count more i (and_parts (atoms_below count f) (list_all (atoms_below count) more) h).1

op_below : (count : ℕ) (op : NodeOp) (formulas : List Formula) → list_all (atoms_below count) formulas ≡ true → atoms_below count (op_formula op formulas) ≡ true
op_below count (ops.Const op) formulas h = const_below count op
op_below count (ops.Unary op) formulas h = unary_below count op (slice_index_or formulas 0 False) (looked_up_below count formulas 0 h)
op_below count (ops.Binary op) formulas h =
    binary_below count op (slice_index_or formulas 0 False) (slice_index_or formulas 1 False) (looked_up_below count formulas 0 h) (looked_up_below count formulas 1 h)
op_below count (ops.Many op) formulas h = many_below count op formulas h

kid_below : (count total number first : ℕ) (formulas : List Formula) (kid : Kid) → list_all (atoms_below count) formulas ≡ true → is_kid count total number kid ≡ true → atoms_below count (kid_value Atom False first formulas kid) ≡ true
kid_below count total number first formulas (kids.Atom atom) h right = right
kid_below count total number first formulas (kids.Node node) h right = looked_up_below count formulas (node - first) h

kids_below : (count total number first : ℕ) (formulas : List Formula) (list : List Kid) → list_all (atoms_below count) formulas ≡ true → list_all (is_kid count total number) list ≡ true → list_all (atoms_below count) (map (kid_value Atom False first formulas) list) ≡ true
kids_below count total number first formulas [] h right = refl
kids_below count total number first formulas (kid ∷ more) h right =
    let both = and_parts (is_kid count total number kid) (list_all (is_kid count total number) more) right in
    and_from (atoms_below count (kid_value Atom False first formulas kid)) (list_all (atoms_below count) (map (kid_value Atom False first formulas) more)) (kid_below count total number first formulas kid h both.0) (kids_below count total number first formulas more h both.1)

nodes_below : (count total first : ℕ) (nodes : List Node) → are_nodes count total first nodes ≡ true → list_all (atoms_below count) (node_values Atom False op_formula first nodes) ≡ true
nodes_below count total first [] right = refl
nodes_below count total first (node ∷ more) right =
    let both = and_parts (is_node count total first node) (are_nodes count total (first + 1) more) right in
    let list = (and_parts (takes_kids node.op (length node.kids)) (list_all (is_kid count total first) node.kids) both.0).1 in
    let later = node_values Atom False op_formula (first + 1) more in
    let rest = nodes_below count total (first + 1) more both.1 in
    let formulas = map (kid_value Atom False (first + 1) later) node.kids in
    and_from (atoms_below count (op_formula node.op formulas)) (list_all (atoms_below count) later) (op_below count node.op formulas (kids_below count total first (first + 1) later node.kids rest list)) rest

pub node_below : (count total : ℕ) (nodes : List Node) (x : ℕ) → are_nodes count total 0 nodes ≡ true → atoms_below count (node_formula nodes x) ≡ true
unfolding node_formula
node_below count total nodes x right = looked_up_below count (node_formulas nodes) x (nodes_below count total 0 nodes right)

-- ---- the formulas of the instances

pub item_below : (count total : ℕ) (nodes : List Node) (item : BodyItem) → are_nodes count total 0 nodes ≡ true → item_in_range count total item ≡ true → atoms_below count (item_formula nodes item) ≡ true
item_below count total nodes (items.Atom atom) right h = h
item_below count total nodes (items.Before atom) right h = h
item_below count total nodes (items.Node node) right h = node_below count total nodes node right

choice_below : (count : ℕ) (b : Bool) (f g : Formula) → atoms_below count f ≡ true → atoms_below count g ≡ true → atoms_below count (if b then f else g) ≡ true
choice_below count true f g h i = h
choice_below count false f g h i = i

literal_below : (count total : ℕ) (nodes : List Node) (literal : BodyLit) → are_nodes count total 0 nodes ≡ true → literal_in_range count total literal ≡ true → atoms_below count (literal_formula nodes literal) ≡ true
literal_below count total nodes literal right h =
    let f = item_formula nodes literal.item in
    let below = item_below count total nodes literal.item right h in
    choice_below count literal.positive f (negation f) below (negation_below count f below)

pub body_below : (count total : ℕ) (nodes : List Node) (body : List BodyLit) → are_nodes count total 0 nodes ≡ true → list_all (literal_in_range count total) body ≡ true → atoms_below count (body_formula nodes body) ≡ true
body_below count total nodes [] right h = refl
body_below count total nodes (literal ∷ more) right h =
    let both = and_parts (literal_in_range count total literal) (list_all (literal_in_range count total) more) h in
    and_from (atoms_below count (literal_formula nodes literal)) (atoms_below count (body_formula nodes more)) (literal_below count total nodes literal right both.0) (body_below count total nodes more right both.1)

derived_below : (count atom : ℕ) (after : Bool) → nat_lt atom count ≡ true → atoms_below count (derived_formula atom after) ≡ true
derived_below count atom true h = h
derived_below count atom false h = h

head_below : (count : ℕ) (head : GroundHead) → head_in_range count head ≡ true → atoms_below count (head_formula head) ≡ true
head_below count (heads.Normal atom after) h = derived_below count atom after h
head_below count (heads.Choice atom after) h =
    let f = derived_formula atom after in
    let below = derived_below count atom after h in
    and_from (atoms_below count f) (atoms_below count (negation f)) below (negation_below count f below)
head_below count heads.None h = refl

instance_below : (count total : ℕ) (nodes : List Node) (instance : Instance) → are_nodes count total 0 nodes ≡ true → instance_in_range count total instance ≡ true → atoms_below count (instance_formula nodes instance) ≡ true
instance_below count total nodes instance right h =
    let both = and_parts (head_in_range count instance.head) (list_all (literal_in_range count total) instance.body) h in
    and_from (atoms_below count (body_formula nodes instance.body)) (atoms_below count (head_formula instance.head)) (body_below count total nodes instance.body right both.1) (head_below count instance.head both.0)

-- ---- the theory

abbrev pub demand_below : ℕ → Demand → Bool
demand_below count demand = atoms_below count demand.formula

instances_below : (count total : ℕ) (nodes : List Node) (instances : List Instance) → are_nodes count total 0 nodes ≡ true → list_all (instance_in_range count total) instances ≡ true → list_all (demand_below count) (map (demand_of nodes) instances) ≡ true
instances_below count total nodes [] right h = refl
instances_below count total nodes (instance ∷ more) right h =
    let both = and_parts (instance_in_range count total instance) (list_all (instance_in_range count total) more) h in
    and_from (atoms_below count (instance_formula nodes instance)) (list_all (demand_below count) (map (demand_of nodes) more)) (instance_below count total nodes instance right both.0) (instances_below count total nodes more right both.1)

range_below : (n low x : ℕ) → In x (range_with_len low n) → x < low + n
range_below zero low x found = absurd found
range_below (suc n) low x found =
    ⊎_elim (λ same. omega (arith, same)) (λ later. omega (arith, range_below n (low + 1) x later)) found

-- the numbers of a pair are those of atoms
pub pair_below : (atoms : List GroundAtom) (pair : ℕ × ℕ) → In pair (pairs_of atoms) → (pair.0 < length atoms) × (pair.1 < length atoms)
pair_below atoms pair found =
    let numbers = range_with_len 0 (length atoms) in
    let plain = In-flat_map_from (pairs_with atoms) pair numbers found in
    let negatives = filter (λ (other : ℕ). is_pair (atom_at atoms plain.0) (atom_at atoms other)) numbers in
    let other = In-map_from (λ (negative : ℕ). (plain.0, negative)) pair negatives plain.2 in
    let kept = In-filter_from (λ (negative : ℕ). is_pair (atom_at atoms plain.0) (atom_at atoms negative)) other.0 numbers other.1 in
    let first : plain.0 < length atoms = omega (arith, range_below (length atoms) 0 plain.0 plain.1) in
    let second : other.0 < length atoms = omega (arith, range_below (length atoms) 0 other.0 kept.0) in
    let P : ℕ × ℕ → Type 0 = λ (p : ℕ × ℕ). (p.0 < length atoms) × (p.1 < length atoms) in
    subst P other.2 (first, second)

pairs_below : (atoms : List GroundAtom) (pairs : List (ℕ × ℕ)) → pairs ≡ pairs_of atoms → list_all (demand_below (length atoms)) (map pair_demand pairs) ≡ true
pairs_below atoms pairs same =
    let count = length atoms in
    list_all-map (demand_below count) pair_demand pairs
    ∙ list_all-from_In (λ (pair : ℕ × ℕ). demand_below count (pair_demand pair)) pairs (λ pair found.
    let within = pair_below atoms pair (subst (λ (all : List (ℕ × ℕ)). In pair all) same found) in
    and_from (nat_lt pair.0 count && nat_lt pair.1 count) true (and_from (nat_lt pair.0 count) (nat_lt pair.1 count) (lt-ltb pair.0 count within.0) (lt-ltb pair.1 count within.1)) refl)

pub theory_below : (program : Ground) → IsGround program → list_all (demand_below (length program.atoms)) (theory program) ≡ true
theory_below program ground =
    let count = length program.atoms in
    list_all-append (demand_below count) (map (demand_of program.nodes) program.instances) (map pair_demand program.pairs)
    ∙ and_from (list_all (demand_below count) (map (demand_of program.nodes) program.instances)) (list_all (demand_below count) (map pair_demand program.pairs)) (instances_below count (length program.nodes) program.nodes program.instances ground.nodes ground.in_range) (pairs_below program.atoms program.pairs ground.paired)
