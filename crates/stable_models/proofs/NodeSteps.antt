-- A node of a program holds exactly where a body of its shape does.
use Rattle.std.proofs.Common.{◌≡◌, ℕ, ◌+◌, ◌-◌, ◌<◌, Bool, true, false, not, ◌&&◌, List, [], ◌∷◌, length, map, refl, ap, inl, inr, ◌∙◌, arith}
use Rattle.std.specs.Prelude.{nat_lt}
use Rattle.std.proofs.lemmas.Bool.{lt-ltb, false≢true, eqb-true}
use Rattle.tel_rule.specs.declared.formulas.ManyOp.{ManyOp}
use Rattle.tel_rule.specs.declared.formulas.ManyOp.TheVariants as many
use Rattle.tel_base.specs.declared.literals.Lit.{Lit}
use Rattle.normal_program.specs.declared.shapes.Shape.TheVariants as shapes
use Rattle.tel_rule.specs.declared.nodes.NodeOp.{NodeOp}
use Rattle.tel_rule.specs.declared.nodes.NodeOp.TheVariants as ops
use Rattle.tel_rule.specs.declared.nodes.Kid.{Kid}
use Rattle.tel_rule.specs.Nodes.{is_arrow}
use Rattle.tel_rule.specs.Ground.{Ground}
use Rattle.tel_semantics.specs.Traces.{Test}
use Rattle.tel_semantics.specs.Formula.{Formula}
use Rattle.tel_semantics.specs.NodeFormula.{op_formula, node_formula, kid_formula}
use Rattle.tel_semantics.specs.Satisfaction.{sat}
use Rattle.tel_base.proofs.Members.{In}
use Rattle.tel_semantics.specs.Walking.{IsNodeAt}
use Rattle.atom_space.specs.Numbers.{part, end_at}
use Rattle.formula_unfold.specs.Unfold.{kid_var, many_shape, op_shape}
use Rattle.normal_program.specs.StableSets.{Set, shape_holds}
use Rattle.tel_base.specs.Literals.{lit_of}
use Rattle.formula_unfold.specs.Nodes.{counts_of}
use Rattle.stable_models.proofs.Steps.{is_not, looks_back, looks_on, looks_back2, looks_on2, EachSeen, many_vars, const_step, unary_step, binary_step, many_step}

abbrev pub is_not_op : NodeOp → Bool
is_not_op (ops.Unary op) = is_not op
is_not_op op = false

abbrev pub is_arrow_op : NodeOp → Bool
is_arrow_op (ops.Binary op) = is_arrow op
is_arrow_op op = false

abbrev pub op_back : NodeOp → Bool
op_back (ops.Unary op) = looks_back op
op_back (ops.Binary op) = looks_back2 op
op_back op = false

abbrev pub op_on : NodeOp → Bool
op_on (ops.Unary op) = looks_on op
op_on (ops.Binary op) = looks_on2 op
op_on op = false

-- what the variables of the node x with this operator and these children say at the state k
pub record NodeSeen (program : Ground) (X S : Set) (op : NodeOp) (list : List Kid) (x n : ℕ) (H T : Test) (k : ℕ) : Type 0 where
  pub here : is_not_op op ≡ false → (kid : Kid) → In kid list → (j : ℕ) → X (kid_var (counts_of program) kid j) ≡ (nat_lt j n && sat (kid_formula program.nodes kid) n H T j)
  pub there : (kid : Kid) → In kid list → S (kid_var (counts_of program) kid k) ≡ sat (kid_formula program.nodes kid) n T T k
  pub persists : (kid : Kid) → In kid list → sat (kid_formula program.nodes kid) n H T k ≡ true → sat (kid_formula program.nodes kid) n T T k ≡ true
  pub back : op_back op ≡ true → 0 < k → X (part (counts_of program) x (k - 1)) ≡ sat (node_formula program.nodes x) n H T (k - 1)
  pub on : op_on op ≡ true → X (part (counts_of program) x (k + 1)) ≡ (nat_lt (k + 1) n && sat (node_formula program.nodes x) n H T (k + 1))
  pub ending : X (end_at (counts_of program) k) ≡ not (nat_lt (k + 1) n)
  pub arrow : is_arrow_op op ≡ true → (kid : Kid) → In kid list → sat (kid_formula program.nodes kid) n T T k ≡ sat (kid_formula program.nodes kid) n H T k

at_state : (X : Set) (v n k : ℕ) (s : Bool) → k < n → X v ≡ (nat_lt k n && s) → X v ≡ s
at_state X v n k s l e = e ∙ (λ i. lt-ltb k n l i && s)

each_seen : (program : Ground) (X : Set) (list : List Kid) (n : ℕ) (H T : Test) (k : ℕ) → k < n → ((kid : Kid) → In kid list → (j : ℕ) → X (kid_var (counts_of program) kid j) ≡ (nat_lt j n && sat (kid_formula program.nodes kid) n H T j)) → EachSeen X (map (kid_var (counts_of program)) list) (map (kid_formula program.nodes) list) n H T k
each_seen program X [] n H T k l seen = refl
each_seen program X (kid ∷ more) n H T k l seen =
    (at_state X (kid_var (counts_of program) kid k) n k (sat (kid_formula program.nodes kid) n H T k) l (seen kid (inl refl) k), each_seen program X more n H T k l (λ other found. seen other (inr found)))

same_kids : (program : Ground) (list : List Kid) (k : ℕ) → map (λ (kid : ℕ → ℕ). lit_of (kid k)) (map (kid_var (counts_of program)) list) ≡ map (λ (kid : Kid). lit_of (kid_var (counts_of program) kid k)) list
same_kids program [] k = refl
same_kids program (kid ∷ more) k = ap (λ (lits : List Lit). lit_of (kid_var (counts_of program) kid k) ∷ lits) (same_kids program more k)

same_many : (program : Ground) (op : ManyOp) (list : List Kid) (k : ℕ) → many_vars op (map (kid_var (counts_of program)) list) k ≡ many_shape (counts_of program) op list k
same_many program many.And list k = ap shapes.All (same_kids program list k)
same_many program many.Or list k = ap shapes.Any (same_kids program list k)

pub op_step : (program : Ground) (op : NodeOp) (list : List Kid) (x n : ℕ) (H T : Test) (X S : Set) (k : ℕ) → IsNodeAt program x op list → k < n → NodeSeen program X S op list x n H T k → sat (op_formula op (map (kid_formula program.nodes) list)) n H T k ≡ shape_holds X S (op_shape (counts_of program) op list x k)
op_step program (ops.Const op) list x n H T X S k node l seen = const_step op n H T X S (end_at (counts_of program) k) k l seen.ending
op_step program (ops.Unary op) [] x n H T X S k node l seen = absurd (false≢true node.counted)
op_step program (ops.Unary op) (kid ∷ []) x n H T X S k node l seen =
    let means = node.means in
    unary_step op (kid_formula program.nodes kid) n H T X S (kid_var (counts_of program) kid) (part (counts_of program) x) (end_at (counts_of program) k) k l (record {
      here = λ other j. seen.here other kid (inl refl) j;
      there = seen.there kid (inl refl);
      persists = seen.persists kid (inl refl);
      back = λ t above. seen.back t above ∙ ap (λ (f : Formula). sat f n H T (k - 1)) means;
      on = λ t. seen.on t ∙ ap (λ (f : Formula). nat_lt (k + 1) n && sat f n H T (k + 1)) means;
      ending = seen.ending;
    })
op_step program (ops.Unary op) (kid ∷ other ∷ more) x n H T X S k node l seen =
    absurd (omega (arith, eqb-true (length (kid ∷ other ∷ more)) 1 node.counted))
op_step program (ops.Binary op) [] x n H T X S k node l seen = absurd (false≢true node.counted)
op_step program (ops.Binary op) (kid ∷ []) x n H T X S k node l seen = absurd (omega (arith, eqb-true (length (kid ∷ [])) 2 node.counted))
op_step program (ops.Binary op) (left ∷ right ∷ []) x n H T X S k node l seen =
    let means = node.means in
    let of = kid_formula program.nodes in
    let at = kid_var (counts_of program) in
    let r : In right (left ∷ right ∷ []) = inr (inl refl) in
    binary_step op (of left) (of right) n H T X S (at left) (at right) (part (counts_of program) x) (end_at (counts_of program) k) k l (record {
      of_f = at_state X (at left k) n k (sat (of left) n H T k) l (seen.here refl left (inl refl) k);
      of_g = at_state X (at right k) n k (sat (of right) n H T k) l (seen.here refl right r k);
      back = λ t above. seen.back t above ∙ ap (λ (f : Formula). sat f n H T (k - 1)) means;
      on = λ t. seen.on t ∙ ap (λ (f : Formula). nat_lt (k + 1) n && sat f n H T (k + 1)) means;
      ending = seen.ending;
      arrow_f = λ t. (seen.there left (inl refl) ∙ seen.arrow t left (inl refl), seen.arrow t left (inl refl));
      arrow_g = λ t. (seen.there right r ∙ seen.arrow t right r, seen.arrow t right r);
    })
op_step program (ops.Binary op) (left ∷ right ∷ other ∷ more) x n H T X S k node l seen =
    absurd (omega (arith, eqb-true (length (left ∷ right ∷ other ∷ more)) 2 node.counted))
op_step program (ops.Many op) list x n H T X S k node l seen =
    many_step op (map (kid_var (counts_of program)) list) (map (kid_formula program.nodes) list) n H T X S k (each_seen program X list n H T k l (seen.here refl)) ∙ ap (shape_holds X S) (same_many program op list k)

pub node_step : (program : Ground) (op : NodeOp) (list : List Kid) (x n : ℕ) (H T : Test) (X S : Set) (k : ℕ) → IsNodeAt program x op list → k < n → NodeSeen program X S op list x n H T k → sat (node_formula program.nodes x) n H T k ≡ shape_holds X S (op_shape (counts_of program) op list x k)
node_step program op list x n H T X S k node l seen =
    ap (λ (f : Formula). sat f n H T k) node.means ∙ op_step program op list x n H T X S k node l seen
