-- Part variables have the values of their nodes: in every closed set at least, in a supported one exactly.
use Rattle.std.proofs.Common.{◌≡◌, ℕ, ◌+◌, ◌-◌, ◌<◌, Bool, true, false, cond, not, ◌&&◌, ◌||◌, List, [], ◌∷◌, length, map, refl, sym, ap, inl, inr, ◌∙◌, ⊎_elim, arith}
use Rattle.std.specs.Prelude.{nat_lt}
use Rattle.std.specs.List.{list_any}
use Rattle.std.proofs.lemmas.Bool.{eqb-true, and_parts, and_from, or_cases, or_left, or_right, lt-ltb, ltb-true, false≢true, cases_Bool}
use Rattle.tel_rule.specs.declared.formulas.UnaryOp.TheVariants as unary
use Rattle.tel_rule.specs.declared.formulas.BinaryOp.{BinaryOp}
use Rattle.tel_rule.specs.declared.formulas.BinaryOp.TheVariants as binary
use Rattle.tel_rule.specs.declared.nodes.NodeOp.{NodeOp}
use Rattle.tel_rule.specs.declared.nodes.NodeOp.TheVariants as ops
use Rattle.tel_rule.specs.declared.nodes.Kid.{Kid}
use Rattle.tel_rule.specs.declared.nodes.Kid.TheVariants as kids
use Rattle.tel_rule.specs.Nodes.{is_arrow, is_kid}
use Rattle.tel_rule.specs.Ground.{Ground, IsGround}
use Rattle.tel_semantics.specs.Traces.{Test, IsBelow}
use Rattle.tel_semantics.specs.Formula.{Formula, atoms_below}
use Rattle.tel_semantics.specs.NodeFormula.{op_formula, node_formula, kid_formula, binary_formula}
use Rattle.tel_semantics.specs.Satisfaction.{sat}
use Rattle.tel_base.proofs.Members.{In, In-list_all}
use Rattle.tel_semantics.specs.Walking.{IsNodeAt}
use Rattle.tel_semantics.proofs.NodeLaws.{node_at}
use Rattle.tel_semantics.proofs.InRange.{node_below}
use Rattle.tel_semantics.proofs.SatLaws.{sat-persists}
use Rattle.tel_semantics.proofs.Expansions.{same_truth}
use Rattle.tel_base.specs.declared.literals.Lit.{Lit}
use Rattle.formula_unfold.proofs.NodeReads.{get_same}
use Rattle.atom_space.specs.Numbers.{visible, part, end_at}
use Rattle.formula_unfold.specs.Unfold.{kid_var, binary_shape, op_shape}
use Rattle.normal_program.specs.StableSets.{Set, lit_holds, lits_hold, shape_holds}
use Rattle.normal_program.specs.Shapes.{shape_bodies}
use Rattle.formula_unfold.specs.Nodes.{counts_of, node_of, shape_at}
use Rattle.stable_models.specs.Values.{full}
use Rattle.stable_models.proofs.Numbering.{full-visible, full-part, full-end}
use Rattle.stable_models.proofs.Induction.{by_nodes}
use Rattle.stable_models.proofs.NodeSteps.{is_not_op, is_arrow_op, op_back, op_on, NodeSeen, node_step}

-- ---- nodes

pub at_node : (program : Ground) (x : ℕ) → IsGround program → x < length program.nodes → IsNodeAt program x (node_of program.nodes x).op (node_of program.nodes x).kids
at_node program x ground within =
    node_at program x (node_of program.nodes x) ground within (get_same program.nodes x _ (node_of program.nodes x) within)

abbrev pub on_at : Ground → ℕ → Bool
on_at program x = op_on (node_of program.nodes x).op

back_not_on : (op : NodeOp) → op_back op ≡ true → op_on op ≡ false
back_not_on (ops.Unary unary.AlwaysAfter) h = absurd (false≢true h)
back_not_on (ops.Unary unary.OnceAfter) h = absurd (false≢true h)
back_not_on (ops.Unary unary.Finally) h = absurd (false≢true h)
back_not_on (ops.Binary binary.Until) h = absurd (false≢true h)
back_not_on (ops.Binary binary.Release) h = absurd (false≢true h)
back_not_on (ops.Unary op) h = refl
back_not_on (ops.Binary op) h = refl
back_not_on op h = refl

kid_below : (program : Ground) (kid : Kid) (x : ℕ) → IsGround program → is_kid (length program.atoms) (length program.nodes) x kid ≡ true → atoms_below (length program.atoms) (kid_formula program.nodes kid) ≡ true
kid_below program (kids.Atom atom) x ground right = right
kid_below program (kids.Node node) x ground right = node_below (length program.atoms) (length program.nodes) program.nodes node ground.nodes

pub full-kid : (program : Ground) (n : ℕ) (H T : Test) (kid : Kid) (x j : ℕ) → is_kid (length program.atoms) (length program.nodes) x kid ≡ true → full program n H T (kid_var (counts_of program) kid j) ≡ (nat_lt j n && sat (kid_formula program.nodes kid) n H T j)
full-kid program n H T (kids.Atom atom) x j right = full-visible program n H T atom j (ltb-true atom (length program.atoms) right)
full-kid program n H T (kids.Node node) x j right =
    full-part program n H T node j (ltb-true node (length program.nodes) (and_parts (nat_lt x node) (nat_lt node (length program.nodes)) right).1)

pub within_n : (k n : ℕ) (s : Bool) → k < n → (nat_lt k n && s) ≡ s
within_n k n s l = λ i. lt-ltb k n l i && s

-- ---- sets

-- where bodies of nodes hold, the set has the nodes
abbrev pub NodesClosed : Ground → ℕ → Set → Set → Type 0
NodesClosed program n S X =
    (x k : ℕ) → x < length program.nodes → k < n → shape_holds X S (shape_at program x k) ≡ true → X (part (counts_of program) x k) ≡ true

lit-more : (X Y S : Set) (b : Bool) (v : ℕ) → ((u : ℕ) → X u ≡ true → Y u ≡ true) → cond b (X v) (not (S v)) ≡ true → cond b (Y v) (not (S v)) ≡ true
lit-more X Y S true v more t = more v t
lit-more X Y S false v more t = t

lits-more : (X Y S : Set) (lits : List Lit) → ((v : ℕ) → X v ≡ true → Y v ≡ true) → lits_hold X S lits ≡ true → lits_hold Y S lits ≡ true
lits-more X Y S [] more h = refl
lits-more X Y S (lit ∷ lits) more h =
    let both = and_parts (lit_holds X S lit) (lits_hold X S lits) h in
    and_from (lit_holds Y S lit) (lits_hold Y S lits) (lit-more X Y S lit.positive lit.var more both.0) (lits-more X Y S lits more both.1)

bodies-more : (X Y S : Set) (bodies : List (List Lit)) → ((v : ℕ) → X v ≡ true → Y v ≡ true) → list_any (lits_hold X S) bodies ≡ true → list_any (lits_hold Y S) bodies ≡ true
bodies-more X Y S [] more h = h
bodies-more X Y S (lits ∷ bodies) more h =
    ⊎_elim (λ here. or_left (lits_hold Y S lits) (list_any (lits_hold Y S) bodies) (lits-more X Y S lits more here)) (λ there. or_right (lits_hold Y S lits) (list_any (lits_hold Y S) bodies) (bodies-more X Y S bodies more there)) (or_cases (lits_hold X S lits) (list_any (lits_hold X S) bodies) h)

-- ---- what every closed set has

-- nodes whose way down to an arrow passes a Not, or any nodes where H is T
pub record Free (program : Ground) (n : ℕ) (H T : Test) (Q : ℕ → Bool) : Type 0 where
  pub below : (x y : ℕ) → x < length program.nodes → Q x ≡ true → is_not_op (node_of program.nodes x).op ≡ false → In (kids.Node y) (node_of program.nodes x).kids → Q y ≡ true
  pub arrows : (x : ℕ) → x < length program.nodes → Q x ≡ true → is_arrow_op (node_of program.nodes x).op ≡ true → (f : Formula) (k : ℕ) → k < n → sat f n T T k ≡ sat f n H T k

-- X has what is true of (H, T) among Visible and End variables
pub record Has (program : Ground) (n : ℕ) (H : Test) (X : Set) : Type 0 where
  pub atoms : (a k : ℕ) → a < length program.atoms → k < n → H k a ≡ true → X (visible (counts_of program) a k) ≡ true
  pub ending : (k : ℕ) → k < n → not (nat_lt (k + 1) n) ≡ true → X (end_at (counts_of program) k) ≡ true

absorb : (x b : Bool) → (b ≡ true → x ≡ true) → (x && b) ≡ b
absorb true b h = refl
absorb false true h = h refl
absorb false false h = refl

pub closed_has : (program : Ground) (n : ℕ) (H T : Test) (X : Set) (Q : ℕ → Bool) → IsGround program → IsBelow n (length program.atoms) H T → NodesClosed program n (full program n T T) X → Has program n H X → Free program n H T Q → (x k : ℕ) → x < length program.nodes → k < n → Q x ≡ true → sat (node_formula program.nodes x) n H T k ≡ true → X (part (counts_of program) x k) ≡ true
closed_has program n H T X Q ground below closed has free =
    let counts = counts_of program in
    let nodes = program.nodes in
    let F : Set = full program n H T in
    let S : Set = full program n T T in
    let V : Set = λ v. X v && F v in
    let P : ℕ → ℕ → Type 0 = λ x k. Q x ≡ true → sat (node_formula nodes x) n H T k ≡ true → X (part counts x k) ≡ true in
    -- a Part variable of which P is known
    let of_part : (x j : ℕ) → x < length nodes → Q x ≡ true → (j < n → P x j) → V (part counts x j) ≡ (nat_lt j n && sat (node_formula nodes x) n H T j) = λ x j within q p.
    let e = full-part program n H T x j within in
    absorb (X (part counts x j)) (F (part counts x j)) (λ t. let both = and_parts (nat_lt j n) (sat (node_formula nodes x) n H T j) (sym e ∙ t) in p (ltb-true j n both.0) q both.1) ∙ e in
    by_nodes (length nodes) n (on_at program) P (λ x k within l known q h.
    let node = node_of nodes x in
    let at = at_node program x ground within in
    let of_kid : is_not_op node.op ≡ false → (kid : Kid) → In kid node.kids → is_kid (length program.atoms) (length nodes) x kid ≡ true → (j : ℕ) → V (kid_var counts kid j) ≡ (nat_lt j n && sat (kid_formula nodes kid) n H T j) = λ other kid.
    elim kid as (λ kid. In kid node.kids → is_kid (length program.atoms) (length nodes) x kid ≡ true → (j : ℕ) → V (kid_var counts kid j) ≡ (nat_lt j n && sat (kid_formula nodes kid) n H T j)) [
      | kids.Atom a ↦ λ found right j.
          let e = full-visible program n H T a j (ltb-true a (length program.atoms) right) in
          absorb (X (visible counts a j)) (F (visible counts a j)) (λ t. let both = and_parts (nat_lt j n) (H j a) (sym e ∙ t) in has.atoms a j (ltb-true a (length program.atoms) right) (ltb-true j n both.0) both.1) ∙ e
      | kids.Node y ↦ λ found right j.
          let p = and_parts (nat_lt x y) (nat_lt y (length nodes)) right in
          of_part y j (ltb-true y (length nodes) p.1) (free.below x y within q other found) (λ m. known.later y j (ltb-true x y p.0) (ltb-true y (length nodes) p.1) m)
    ] in
    let right : (kid : Kid) → In kid node.kids → is_kid (length program.atoms) (length nodes) x kid ≡ true = λ kid found. In-list_all (is_kid (length program.atoms) (length nodes) x) kid node.kids at.right found in
    let seen : NodeSeen program V S node.op node.kids x n H T k = record {
      here = λ other kid found j. of_kid other kid found (right kid found) j;
      there = λ kid found. full-kid program n T T kid x k (right kid found) ∙ within_n k n (sat (kid_formula nodes kid) n T T k) l;
      persists = λ kid found. sat-persists (kid_formula nodes kid) n (length program.atoms) H T (kid_below program kid x ground (right kid found)) below k l;
      back = λ t above. of_part x (k - 1) within q (λ m. known.behind (back_not_on node.op t) (k - 1) (omega (arith, above))) ∙ within_n (k - 1) n (sat (node_formula nodes x) n H T (k - 1)) (omega (arith, l));
      on = λ t. of_part x (k + 1) within q (λ m. known.ahead t (k + 1) (omega arith) m);
      ending = let e = full-end program n H T k l in absorb (X (end_at counts k)) (F (end_at counts k)) (λ t. has.ending k l (sym e ∙ t)) ∙ e;
      arrow = λ t kid found. free.arrows x within q t (kid_formula nodes kid) k l;
    } in
    let body : shape_holds V S (shape_at program x k) ≡ true = sym (node_step program node.op node.kids x n H T V S k at l seen) ∙ h in
    closed x k within l (bodies-more V X S (shape_bodies (shape_at program x k)) (λ v t. (and_parts (X v) (F v) t).0) body))

-- ---- what a supported set has

pub supported_parts : (program : Ground) (n : ℕ) (T : Test) (S : Set) → IsGround program → NodesClosed program n S S
    → ((x k : ℕ) → x < length program.nodes → k < n → S (part (counts_of program) x k) ≡ true → shape_holds S S (shape_at program x k) ≡ true)
    → ((a j : ℕ) → a < length program.atoms → S (visible (counts_of program) a j) ≡ (nat_lt j n && T j a))
    → ((x j : ℕ) → x < length program.nodes → nat_lt j n ≡ false → S (part (counts_of program) x j) ≡ false)
    → ((k : ℕ) → k < n → S (end_at (counts_of program) k) ≡ not (nat_lt (k + 1) n))
    → (x k : ℕ) → x < length program.nodes → k < n → S (part (counts_of program) x k) ≡ sat (node_formula program.nodes x) n T T k
supported_parts program n T S ground closed supported of_atom none ending =
    let counts = counts_of program in
    let nodes = program.nodes in
    let P : ℕ → ℕ → Type 0 = λ x k. S (part counts x k) ≡ sat (node_formula nodes x) n T T k in
    let of_part : (x j : ℕ) → x < length nodes → (j < n → P x j) → S (part counts x j) ≡ (nat_lt j n && sat (node_formula nodes x) n T T j) = λ x j within p.
    ⊎_elim (λ (t : nat_lt j n ≡ true). p (ltb-true j n t) ∙ sym (λ i. t i && sat (node_formula nodes x) n T T j)) (λ (t : nat_lt j n ≡ false). none x j within t ∙ sym (λ i. t i && sat (node_formula nodes x) n T T j)) (cases_Bool (nat_lt j n)) in
    by_nodes (length nodes) n (on_at program) P (λ x k within l known.
    let node = node_of nodes x in
    let at = at_node program x ground within in
    let of_kid : (kid : Kid) → In kid node.kids → is_kid (length program.atoms) (length nodes) x kid ≡ true → (j : ℕ) → S (kid_var counts kid j) ≡ (nat_lt j n && sat (kid_formula nodes kid) n T T j) = λ kid.
    elim kid as (λ kid. In kid node.kids → is_kid (length program.atoms) (length nodes) x kid ≡ true → (j : ℕ) → S (kid_var counts kid j) ≡ (nat_lt j n && sat (kid_formula nodes kid) n T T j)) [
      | kids.Atom a ↦ λ found right j. of_atom a j (ltb-true a (length program.atoms) right)
      | kids.Node y ↦ λ found right j.
          let p = and_parts (nat_lt x y) (nat_lt y (length nodes)) right in
          of_part y j (ltb-true y (length nodes) p.1) (λ m. known.later y j (ltb-true x y p.0) (ltb-true y (length nodes) p.1) m)
    ] in
    let right : (kid : Kid) → In kid node.kids → is_kid (length program.atoms) (length nodes) x kid ≡ true = λ kid found. In-list_all (is_kid (length program.atoms) (length nodes) x) kid node.kids at.right found in
    let seen : NodeSeen program S S node.op node.kids x n T T k = record {
      here = λ other kid found j. of_kid kid found (right kid found) j;
      there = λ kid found. of_kid kid found (right kid found) k ∙ within_n k n (sat (kid_formula nodes kid) n T T k) l;
      persists = λ kid found t. t;
      back = λ t above. of_part x (k - 1) within (λ m. known.behind (back_not_on node.op t) (k - 1) (omega (arith, above))) ∙ within_n (k - 1) n (sat (node_formula nodes x) n T T (k - 1)) (omega (arith, l));
      on = λ t. of_part x (k + 1) within (λ m. known.ahead t (k + 1) (omega arith) m);
      ending = ending k l;
      arrow = λ t kid found. refl;
    } in
    let same = node_step program node.op node.kids x n T T S S k at l seen in
    same_truth (S (part counts x k)) (sat (node_formula nodes x) n T T k) (λ t. same ∙ supported x k within l t) (λ t. closed x k within l (sym same ∙ t)))

-- ---- what the values of an HT-trace are closed under

implies_closed : (a b a2 b2 : Bool) → (a ≡ true → a2 ≡ true) → (b ≡ true → b2 ≡ true) → ((not a2 && true) || ((b && true) || false)) ≡ true → ((not a || b) && (not a2 || b2)) ≡ true
implies_closed a true a2 b2 p q h = and_from (not a || true) (not a2 || b2) (or_right (not a) true refl) (or_right (not a2) b2 (q refl))
implies_closed true false true b2 p q h = h
implies_closed true false false b2 p q h = absurd (false≢true (p refl))
implies_closed false false true b2 p q h = absurd (false≢true h)
implies_closed false false false b2 p q h = refl

implied_closed : (a b a2 b2 : Bool) → (a ≡ true → a2 ≡ true) → (b ≡ true → b2 ≡ true) → ((a && true) || ((not b2 && true) || false)) ≡ true → ((not b || a) && (not b2 || a2)) ≡ true
implied_closed true b a2 b2 p q h = and_from (not b || true) (not b2 || a2) (or_right (not b) true refl) (or_right (not b2) a2 (p refl))
implied_closed false true a2 true p q h = absurd (false≢true h)
implied_closed false true a2 false p q h = absurd (false≢true (q refl))
implied_closed false false a2 true p q h = absurd (false≢true h)
implied_closed false false a2 false p q h = refl

same_none : (a b : Bool) → (a ≡ true → false ≡ true) → (b ≡ true → false ≡ true) → (((not a || b) && true) && ((not b || a) && true)) ≡ true
same_none true b p q = absurd (false≢true (p refl))
same_none false true p q = absurd (false≢true (q refl))
same_none false false p q = refl

same_lost : (a b : Bool) → ((a && (b && true)) || false) ≡ true → (a && b) ≡ true
same_lost true true h = refl
same_lost true false h = h
same_lost false b h = h

same_closed : (a b a2 b2 : Bool) → (a ≡ true → a2 ≡ true) → (b ≡ true → b2 ≡ true) → ((a && (b && true)) || ((not a2 && (not b2 && true)) || false)) ≡ true → (((not a || b) && (not a2 || b2)) && ((not b || a) && (not b2 || a2))) ≡ true
same_closed true true true true p q h = refl
same_closed true true false b2 p q h = absurd (false≢true (p refl))
same_closed true true true false p q h = absurd (false≢true (q refl))
same_closed a b false false p q h = same_none a b p q
same_closed true false true b2 p q h = absurd (false≢true h)
same_closed false b true b2 p q h = absurd (false≢true h)
same_closed a b false true p q h = absurd (false≢true (p (and_parts a b (same_lost a b h)).0))

pub arrow_binary : (op : BinaryOp) (f g : Formula) (n : ℕ) (H T : Test) (X S : Set) (left right own : ℕ → ℕ) (last k : ℕ) → is_arrow op ≡ true → X (left k) ≡ sat f n H T k → X (right k) ≡ sat g n H T k → S (left k) ≡ sat f n T T k → S (right k) ≡ sat g n T T k → (sat f n H T k ≡ true → sat f n T T k ≡ true) → (sat g n H T k ≡ true → sat g n T T k ≡ true) → shape_holds X S (binary_shape op left right own last k) ≡ true → sat (binary_formula op f g) n H T k ≡ true
arrow_binary binary.Implies f g n H T X S left right own last k t xf xg sf sg pf pg h =
    implies_closed (sat f n H T k) (sat g n H T k) (sat f n T T k) (sat g n T T k) pf pg (sym (λ i. (not (sf i) && true) || ((xg i && true) || false)) ∙ h)
arrow_binary binary.ImpliedBy f g n H T X S left right own last k t xf xg sf sg pf pg h =
    implied_closed (sat f n H T k) (sat g n H T k) (sat f n T T k) (sat g n T T k) pf pg (sym (λ i. (xf i && true) || ((not (sg i) && true) || false)) ∙ h)
arrow_binary binary.Same f g n H T X S left right own last k t xf xg sf sg pf pg h =
    same_closed (sat f n H T k) (sat g n H T k) (sat f n T T k) (sat g n T T k) pf pg (sym (λ i. (xf i && (xg i && true)) || ((not (sf i) && (not (sg i) && true)) || false)) ∙ h)
arrow_binary op f g n H T X S left right own last k t xf xg sf sg pf pg h = absurd (false≢true t)

-- an arrow at a node of the program
arrow_node : (program : Ground) (op : NodeOp) (list : List Kid) (x n : ℕ) (H T : Test) (X S : Set) (k : ℕ) → IsNodeAt program x op list → k < n → is_arrow_op op ≡ true
    → ((kid : Kid) → In kid list → X (kid_var (counts_of program) kid k) ≡ sat (kid_formula program.nodes kid) n H T k)
    → ((kid : Kid) → In kid list → S (kid_var (counts_of program) kid k) ≡ sat (kid_formula program.nodes kid) n T T k)
    → ((kid : Kid) → In kid list → sat (kid_formula program.nodes kid) n H T k ≡ true → sat (kid_formula program.nodes kid) n T T k ≡ true)
    → shape_holds X S (op_shape (counts_of program) op list x k) ≡ true
    → sat (op_formula op (map (kid_formula program.nodes) list)) n H T k ≡ true
arrow_node program (ops.Binary op) [] x n H T X S k node l t here there persists h = absurd (false≢true node.counted)
arrow_node program (ops.Binary op) (kid ∷ []) x n H T X S k node l t here there persists h = absurd (omega (arith, eqb-true (length (kid ∷ [])) 2 node.counted))
arrow_node program (ops.Binary op) (left ∷ right ∷ []) x n H T X S k node l t here there persists h =
    let of = kid_formula program.nodes in
    let at = kid_var (counts_of program) in
    let p : In left (left ∷ right ∷ []) = inl refl in
    let r : In right (left ∷ right ∷ []) = inr (inl refl) in
    arrow_binary op (of left) (of right) n H T X S (at left) (at right) (part (counts_of program) x) (end_at (counts_of program) k) k t (here left p) (here right r) (there left p) (there right r) (persists left p) (persists right r) h
arrow_node program (ops.Binary op) (left ∷ right ∷ other ∷ more) x n H T X S k node l t here there persists h =
    absurd (omega (arith, eqb-true (length (left ∷ right ∷ other ∷ more)) 2 node.counted))
arrow_node program op list x n H T X S k node l t here there persists h = absurd (false≢true t)

-- the values of (H, T) are closed under the rules of the nodes, in the reduct by those of (T, T)
pub full_closed : (program : Ground) (n : ℕ) (H T : Test) → IsGround program → IsBelow n (length program.atoms) H T → NodesClosed program n (full program n T T) (full program n H T)
full_closed program n H T ground below x k within l h =
    let counts = counts_of program in
    let nodes = program.nodes in
    let F : Set = full program n H T in
    let S : Set = full program n T T in
    let node = node_of nodes x in
    let at = at_node program x ground within in
    let right : (kid : Kid) → In kid node.kids → is_kid (length program.atoms) (length nodes) x kid ≡ true = λ kid found. In-list_all (is_kid (length program.atoms) (length nodes) x) kid node.kids at.right found in
    let there : (kid : Kid) → In kid node.kids → S (kid_var counts kid k) ≡ sat (kid_formula nodes kid) n T T k = λ kid found. full-kid program n T T kid x k (right kid found) ∙ within_n k n (sat (kid_formula nodes kid) n T T k) l in
    let persists : (kid : Kid) → In kid node.kids → sat (kid_formula nodes kid) n H T k ≡ true → sat (kid_formula nodes kid) n T T k ≡ true = λ kid found. sat-persists (kid_formula nodes kid) n (length program.atoms) H T (kid_below program kid x ground (right kid found)) below k l in
    let holds : sat (node_formula nodes x) n H T k ≡ true = ⊎_elim (λ (t : is_arrow_op node.op ≡ true). ap (λ (f : Formula). sat f n H T k) at.means ∙ arrow_node program node.op node.kids x n H T F S k at l t (λ kid found. full-kid program n H T kid x k (right kid found) ∙ within_n k n (sat (kid_formula nodes kid) n H T k) l) there persists h) (λ (t : is_arrow_op node.op ≡ false).
    let seen : NodeSeen program F S node.op node.kids x n H T k = record {
      here = λ other kid found j. full-kid program n H T kid x j (right kid found);
      there = there;
      persists = persists;
      back = λ u above. full-part program n H T x (k - 1) within ∙ within_n (k - 1) n (sat (node_formula nodes x) n H T (k - 1)) (omega (arith, l));
      on = λ u. full-part program n H T x (k + 1) within;
      ending = full-end program n H T k l;
      arrow = λ u. absurd (false≢true (sym t ∙ u));
    } in
    node_step program node.op node.kids x n H T F S k at l seen ∙ h) (cases_Bool (is_arrow_op node.op)) in
    full-part program n H T x k within ∙ within_n k n (sat (node_formula nodes x) n H T k) l ∙ holds
