-- The variables of the shape of a node are of atoms, nodes and ends, and of which states.
use Rattle.std.proofs.Common.{◌≡◌, ℕ, zero, suc, ◌+◌, ◌-◌, ◌*◌, ◌<◌, ◌≤◌, Bool, true, false, cond, ◌&&◌, ◌||◌, List, [], ◌∷◌, length, map, refl, sym, ap, subst, ◌∙◌, inl, inr, ◌⊎◌, ⊎_elim, arith}
use Rattle.std.specs.Prelude.{nat_lt, ◌==◌}
use Rattle.std.specs.List.{list_all}
use Rattle.std.proofs.lemmas.Bool.{and_parts, and_from, or_left, or_right, lt-ltb, ltb-true, eq-eqb, false≢true}
use Rattle.std.proofs.lemmas.Nat.{mod-mul-add}
use Rattle.tel_base.specs.declared.literals.Lit.{Lit}
use Rattle.tel_base.specs.Literals.{lit_of, negate}
use Rattle.tel_base.proofs.Members.{In, In-list_all, In-map, In-map_from}
use Rattle.tel_rule.specs.declared.formulas.ConstOp.{ConstOp}
use Rattle.tel_rule.specs.declared.formulas.ConstOp.TheVariants as constants
use Rattle.tel_rule.specs.declared.formulas.UnaryOp.{UnaryOp}
use Rattle.tel_rule.specs.declared.formulas.UnaryOp.TheVariants as unary
use Rattle.tel_rule.specs.declared.formulas.BinaryOp.{BinaryOp}
use Rattle.tel_rule.specs.declared.formulas.BinaryOp.TheVariants as binary
use Rattle.tel_rule.specs.declared.formulas.ManyOp.{ManyOp}
use Rattle.tel_rule.specs.declared.formulas.ManyOp.TheVariants as many
use Rattle.tel_rule.specs.declared.nodes.NodeOp.{NodeOp}
use Rattle.tel_rule.specs.declared.nodes.NodeOp.TheVariants as ops
use Rattle.tel_rule.specs.declared.nodes.Kid.{Kid}
use Rattle.tel_rule.specs.declared.nodes.Kid.TheVariants as kids
use Rattle.tel_rule.specs.Nodes.{is_kid}
use Rattle.tel_rule.specs.Ground.{Ground, IsGround}
use Rattle.tel_semantics.specs.Walking.{IsNodeAt}
use Rattle.tel_semantics.proofs.NodeLaws.{kid-right, unary_count, binary_count}
use Rattle.normal_program.specs.declared.shapes.Shape.{Shape}
use Rattle.normal_program.specs.declared.shapes.Shape.TheVariants as shapes
use Rattle.normal_program.specs.Shapes.{shape_bodies}
use Rattle.normal_program.specs.StableSets.{Set}
use Rattle.atom_space.specs.Numbers.{width, visible, part, end_at}
use Rattle.horizon_external.specs.Occurring.{lit_vars, shape_vars}
use Rattle.formula_unfold.specs.Unfold.{kid_var, kid_of, by_state, const_shape, unary_shape, binary_shape, many_shape, op_shape}
use Rattle.formula_unfold.specs.Nodes.{counts_of, node_of, shape_at}
use Rattle.stable_models.specs.Values.{is_plain}
use Rattle.stable_models.proofs.NodeSteps.{op_on}
use Rattle.stable_models.proofs.Parts.{at_node, on_at}

-- ---- plain variables

plain_at : (program : Ground) (t place : ℕ) → place < width (counts_of program) → (nat_lt place (length program.atoms + length program.nodes) || (place == length program.atoms + length program.nodes + length program.instances)) ≡ true → is_plain program (t * width (counts_of program) + place) ≡ true
plain_at program t place within h =
    let m = mod-mul-add t (width (counts_of program)) place within in
    (λ i. nat_lt (m i) (length program.atoms + length program.nodes) || (m i == length program.atoms + length program.nodes + length program.instances)) ∙ h

plain_low : (program : Ground) (t place : ℕ) → place < length program.atoms + length program.nodes → is_plain program (t * width (counts_of program) + place) ≡ true
plain_low program t place low =
    plain_at program t place (omega (arith, low)) (or_left _ _ (lt-ltb place (length program.atoms + length program.nodes) low))

pub plain_atom : (program : Ground) (t atom : ℕ) → atom < length program.atoms → is_plain program (visible (counts_of program) atom t) ≡ true
plain_atom program t atom l = plain_low program t atom (omega (arith, l))

pub plain_node : (program : Ground) (t x : ℕ) → x < length program.nodes → is_plain program (part (counts_of program) x t) ≡ true
plain_node program t x l = plain_low program t (length program.atoms + x) (omega (arith, l))

pub plain_end : (program : Ground) (t : ℕ) → is_plain program (end_at (counts_of program) t) ≡ true
plain_end program t =
    let place = length program.atoms + length program.nodes + length program.instances in
    plain_at program t place (omega arith) (or_right _ _ (eq-eqb place place refl))

-- the variable is of an atom, an end or a node of a state up to this one
abbrev pub IsUpTo : Ground → ℕ → ℕ → Type 0
IsUpTo program last v =
    ((k a : ℕ) × (k ≤ last) × (a < length program.atoms) × (visible (counts_of program) a k ≡ v))
    ⊎ (((k : ℕ) × (k ≤ last) × (end_at (counts_of program) k ≡ v))
    ⊎ ((k y : ℕ) × (k ≤ last) × (y < length program.nodes) × (part (counts_of program) y k ≡ v)))

pub plain_up_to : (program : Ground) (last v : ℕ) → IsUpTo program last v → is_plain program v ≡ true
plain_up_to program last v up =
    let of = λ (u : ℕ) (e : u ≡ v) (h : is_plain program u ≡ true). subst (λ (w : ℕ). is_plain program w ≡ true) e h in
    ⊎_elim
    (λ a. of (visible (counts_of program) a.1 a.0) a.4 (plain_atom program a.0 a.1 a.3))
    (λ r. ⊎_elim
    (λ e. of (end_at (counts_of program) e.0) e.2 (plain_end program e.0))
    (λ b. of (part (counts_of program) b.1 b.0) b.4 (plain_node program b.0 b.1 b.3))
    r)
    up

-- ---- shapes

in_body : (body lits : List Lit) (lit : Lit) → In lits (body ∷ []) → In lit lits → In lit body
in_body body lits lit i j = ⊎_elim (λ (e : body ≡ lits). subst (λ (ls : List Lit). In lit ls) (sym e) j) (λ m. absurd m) i

-- a literal of a body of a shape is over one of its variables
pub body_var : (shape : Shape) (lits : List Lit) (lit : Lit) → In lits (shape_bodies shape) → In lit lits → In lit.var (shape_vars shape)
body_var shapes.True lits lit i j = ⊎_elim (λ (e : [] ≡ lits). absurd (subst (λ (ls : List Lit). In lit ls) (sym e) j)) (λ m. absurd m) i
body_var shapes.False lits lit i j = absurd i
body_var (shapes.Is y) lits lit i j = In-map (λ (l : Lit). l.var) lit (y ∷ []) (in_body (y ∷ []) lits lit i j)
body_var (shapes.All ys) lits lit i j = In-map (λ (l : Lit). l.var) lit ys (in_body ys lits lit i j)
body_var (shapes.Any ys) lits lit i j =
    let w = In-map_from (λ (y : Lit). y ∷ []) lits ys i in
    ⊎_elim (λ (e : w.0 ≡ lit). subst (λ (l : Lit). In l.var (lit_vars ys)) e (In-map (λ (l : Lit). l.var) w.0 ys w.1)) (λ m. absurd m) (subst (λ (ls : List Lit). In lit ls) (sym w.2) j)
body_var (shapes.AllAny y zs) lits lit i j =
    let w = In-map_from (λ (z : Lit). y ∷ z ∷ []) lits zs i in
    ⊎_elim (λ (e : y ≡ lit). inl (ap (λ (l : Lit). l.var) e)) (λ r. ⊎_elim (λ (e : w.0 ≡ lit). inr (subst (λ (l : Lit). In l.var (lit_vars zs)) e (In-map (λ (l : Lit). l.var) w.0 zs w.1))) (λ m. absurd m) r) (subst (λ (ls : List Lit). In lit ls) (sym w.2) j)
body_var (shapes.AnyAll y z w) lits lit i j =
    ⊎_elim
    (λ (e : (y ∷ []) ≡ lits). ⊎_elim (λ (f : y ≡ lit). inl (ap (λ (l : Lit). l.var) f)) (λ m. absurd m) (subst (λ (ls : List Lit). In lit ls) (sym e) j))
    (λ r. inr (In-map (λ (l : Lit). l.var) lit (z ∷ w ∷ []) (in_body (z ∷ w ∷ []) lits lit r j)))
    i
body_var (shapes.Same y z) lits lit i j =
    ⊎_elim
    (λ (e : (y ∷ z ∷ []) ≡ lits). In-map (λ (l : Lit). l.var) lit (y ∷ z ∷ []) (subst (λ (ls : List Lit). In lit ls) (sym e) j))
    (λ r. In-map (λ (l : Lit). l.var) lit (negate y ∷ negate z ∷ []) (in_body (negate y ∷ negate z ∷ []) lits lit r j))
    i

-- ---- the states of the variables of a shape

-- the state that an operator looks at for its own value: the one after where it is of the future, else the one before
abbrev pub Turns : Bool → ℕ → ℕ → Type 0
Turns true t k = k ≡ t + 1
Turns false t k = k + 1 ≡ t

before_it : (t : ℕ) → (t == 0) ≡ false → t - 1 + 1 ≡ t
before_it zero e = absurd (false≢true (sym e ∙ eq-eqb 0 0 refl))
before_it (suc t) e = omega arith

module _ (P : ℕ → Type 0) where
  abbrev Each : List ℕ → Type 0
  Each vars = (v : ℕ) → In v vars → P v

  -- all variables of a shape
  abbrev pub all_vars : Shape → Type 0
  all_vars shape = Each (shape_vars shape)

  one : (v : ℕ) → P v → Each (v ∷ [])
  one v h u i = ⊎_elim (λ e. subst P e h) (λ m. absurd m) i

  two : (v w : ℕ) → P v → P w → Each (v ∷ w ∷ [])
  two v w h k u i = ⊎_elim (λ e. subst P e h) (λ m. one w k u m) i

  three : (v w x : ℕ) → P v → P w → P x → Each (v ∷ w ∷ x ∷ [])
  three v w x h k l u i = ⊎_elim (λ e. subst P e h) (λ m. two w x k l u m) i

  four : (v w x y : ℕ) → P v → P w → P x → P y → Each (v ∷ w ∷ x ∷ y ∷ [])
  four v w x y h k l o u i = ⊎_elim (λ e. subst P e h) (λ m. three w x y k l o u m) i

  none : (vars : List ℕ) → vars ≡ [] → Each vars
  none vars e u i = absurd (subst (λ (vs : List ℕ). In u vs) e i)

  of_state : (t : ℕ) (first later : Shape) → all_vars first → (t - 1 + 1 ≡ t → all_vars later) → all_vars (by_state t first later)
  of_state t first later h k = (elim (t == 0) as (λ (b : Bool). (t == 0) ≡ b → all_vars (cond b first later)) [ true ↦ λ e. h | false ↦ λ e. k (before_it t e) ]) refl

  const_near : (op : ConstOp) (last t : ℕ) → P last → all_vars (const_shape op last t)
  const_near constants.True last t h = none [] refl
  const_near constants.False last t h = none [] refl
  const_near constants.Initial last t h = of_state t shapes.True shapes.False (none [] refl) (λ e. none [] refl)
  const_near constants.Final last t h = one last h

  unary_near : (op : UnaryOp) (kid own : ℕ → ℕ) (last t : ℕ) → ((k : ℕ) → k ≤ t + 1 → P (kid k)) → ((k : ℕ) → Turns (op_on (ops.Unary op)) t k → P (own k)) → P last → all_vars (unary_shape op kid own last t)
  unary_near unary.Not kid own last t a b c = one (kid t) (a t (omega arith))
  unary_near unary.Previous kid own last t a b c = of_state t shapes.False (shapes.Is (lit_of (kid (t - 1)))) (none [] refl) (λ e. one (kid (t - 1)) (a (t - 1) (omega arith)))
  unary_near unary.WeakPrevious kid own last t a b c = of_state t shapes.True (shapes.Is (lit_of (kid (t - 1)))) (none [] refl) (λ e. one (kid (t - 1)) (a (t - 1) (omega arith)))
  unary_near unary.AlwaysBefore kid own last t a b c = of_state t (shapes.Is (lit_of (kid t))) (shapes.All (lit_of (kid t) ∷ lit_of (own (t - 1)) ∷ [])) (one (kid t) (a t (omega arith))) (λ e. two (kid t) (own (t - 1)) (a t (omega arith)) (b (t - 1) e))
  unary_near unary.OnceBefore kid own last t a b c = of_state t (shapes.Is (lit_of (kid t))) (shapes.Any (lit_of (kid t) ∷ lit_of (own (t - 1)) ∷ [])) (one (kid t) (a t (omega arith))) (λ e. two (kid t) (own (t - 1)) (a t (omega arith)) (b (t - 1) e))
  unary_near unary.Initially kid own last t a b c = of_state t (shapes.Is (lit_of (kid t))) (shapes.Is (lit_of (own (t - 1)))) (one (kid t) (a t (omega arith))) (λ e. one (own (t - 1)) (b (t - 1) e))
  unary_near unary.Next kid own last t a b c = one (kid (t + 1)) (a (t + 1) (omega arith))
  unary_near unary.WeakNext kid own last t a b c = two last (kid (t + 1)) c (a (t + 1) (omega arith))
  unary_near unary.AlwaysAfter kid own last t a b c = three (kid t) last (own (t + 1)) (a t (omega arith)) c (b (t + 1) refl)
  unary_near unary.OnceAfter kid own last t a b c = two (kid t) (own (t + 1)) (a t (omega arith)) (b (t + 1) refl)
  unary_near unary.Finally kid own last t a b c = three (own (t + 1)) (kid t) last (b (t + 1) refl) (a t (omega arith)) c

  binary_near : (op : BinaryOp) (f g own : ℕ → ℕ) (last t : ℕ) → ((k : ℕ) → k ≤ t + 1 → P (f k)) → ((k : ℕ) → k ≤ t + 1 → P (g k)) → ((k : ℕ) → Turns (op_on (ops.Binary op)) t k → P (own k)) → P last → all_vars (binary_shape op f g own last t)
  binary_near binary.Since f g own last t a b c d =
      of_state t (shapes.Is (lit_of (g t))) (shapes.AnyAll (lit_of (g t)) (lit_of (f t)) (lit_of (own (t - 1)))) (one (g t) (b t (omega arith))) (λ e. three (g t) (f t) (own (t - 1)) (b t (omega arith)) (a t (omega arith)) (c (t - 1) e))
  binary_near binary.Trigger f g own last t a b c d =
      of_state t (shapes.Is (lit_of (g t))) (shapes.AllAny (lit_of (g t)) (lit_of (f t) ∷ lit_of (own (t - 1)) ∷ [])) (one (g t) (b t (omega arith))) (λ e. three (g t) (f t) (own (t - 1)) (b t (omega arith)) (a t (omega arith)) (c (t - 1) e))
  binary_near binary.Until f g own last t a b c d = three (g t) (f t) (own (t + 1)) (b t (omega arith)) (a t (omega arith)) (c (t + 1) refl)
  binary_near binary.Release f g own last t a b c d = four (g t) (f t) last (own (t + 1)) (b t (omega arith)) (a t (omega arith)) d (c (t + 1) refl)
  binary_near binary.Implies f g own last t a b c d = two (f t) (g t) (a t (omega arith)) (b t (omega arith))
  binary_near binary.ImpliedBy f g own last t a b c d = two (f t) (g t) (a t (omega arith)) (b t (omega arith))
  binary_near binary.Same f g own last t a b c d = two (f t) (g t) (a t (omega arith)) (b t (omega arith))

-- ---- the nodes of a program

-- a node behind x, or x itself at the state that it looks at for its own value
abbrev pub IsBehind : Ground → ℕ → ℕ → ℕ → ℕ → Type 0
IsBehind program x t y k = (x < y) ⊎ ((y ≡ x) × Turns (on_at program x) t k)

-- what the shape of the node x at the state t may speak of: atoms and nodes behind it, up to the next state, its end, and its own value at one
-- other state
abbrev pub IsNear : Ground → ℕ → ℕ → ℕ → Type 0
IsNear program x t v =
    ((k a : ℕ) × (k ≤ t + 1) × (a < length program.atoms) × (visible (counts_of program) a k ≡ v))
    ⊎ ((end_at (counts_of program) t ≡ v)
    ⊎ ((k y : ℕ) × (k ≤ t + 1) × (y < length program.nodes) × IsBehind program x t y k × (part (counts_of program) y k ≡ v)))

near_kid : (program : Ground) (x t k : ℕ) (kid : Kid) → is_kid (length program.atoms) (length program.nodes) x kid ≡ true → k ≤ t + 1 → IsNear program x t (kid_var (counts_of program) kid k)
near_kid program x t k (kids.Atom atom) h l = inl (k, atom, l, ltb-true atom (length program.atoms) h, refl)
near_kid program x t k (kids.Node y) h l =
    let both = and_parts (nat_lt x y) (nat_lt y (length program.nodes)) h in
    inr (inr (k, y, l, ltb-true y (length program.nodes) both.1, inl (ltb-true x y both.0), refl))

near_end : (program : Ground) (x t : ℕ) → IsNear program x t (end_at (counts_of program) t)
near_end program x t = inr (inl refl)

turned : (b : Bool) (t k : ℕ) → Turns b t k → k ≤ t + 1
turned true t k e = omega (arith, e)
turned false t k e = omega (arith, e)

near_own : (program : Ground) (x t k : ℕ) → x < length program.nodes → Turns (on_at program x) t k → IsNear program x t (part (counts_of program) x k)
near_own program x t k l turns = inr (inr (k, x, turned (on_at program x) t k turns, l, inr (refl, turns), refl))

many_near : (program : Ground) (x t : ℕ) (list : List Kid) → ((kid : Kid) → In kid list → is_kid (length program.atoms) (length program.nodes) x kid ≡ true) → (v : ℕ) → In v (lit_vars (map (λ (kid : Kid). lit_of (kid_var (counts_of program) kid t)) list)) → IsNear program x t v
many_near program x t [] right v i = absurd i
many_near program x t (kid ∷ list) right v i =
    ⊎_elim (λ e. subst (IsNear program x t) e (near_kid program x t t kid (right kid (inl refl)) (omega arith))) (λ m. many_near program x t list (λ k j. right k (inr j)) v m) i

-- the shape of an operator, whose own value is looked at by a node that goes on where the operator does
op_near : (program : Ground) (op : NodeOp) (list : List Kid) (x t : ℕ) → x < length program.nodes → IsNodeAt program x op list → on_at program x ≡ op_on op → all_vars (IsNear program x t) (op_shape (counts_of program) op list x t)
op_near program (ops.Const op) list x t l node on = const_near (IsNear program x t) op (end_at (counts_of program) t) t (near_end program x t)
op_near program (ops.Unary op) list x t l node on =
    let count = unary_count node in
    let right = kid-right (length program.atoms) (length program.nodes) x list 0 (kids.Atom 0) node.right (omega (arith, count)) in
    unary_near (IsNear program x t) op (kid_var (counts_of program) (kid_of list 0)) (part (counts_of program) x) (end_at (counts_of program) t) t (λ k m. near_kid program x t k (kid_of list 0) right m) (λ k turns. near_own program x t k l (subst (λ (b : Bool). Turns b t k) (sym on) turns)) (near_end program x t)
op_near program (ops.Binary op) list x t l node on =
    let count = binary_count node in
    let first = kid-right (length program.atoms) (length program.nodes) x list 0 (kids.Atom 0) node.right (omega (arith, count)) in
    let second = kid-right (length program.atoms) (length program.nodes) x list 1 (kids.Atom 0) node.right (omega (arith, count)) in
    binary_near (IsNear program x t) op (kid_var (counts_of program) (kid_of list 0)) (kid_var (counts_of program) (kid_of list 1)) (part (counts_of program) x) (end_at (counts_of program) t) t (λ k m. near_kid program x t k (kid_of list 0) first m) (λ k m. near_kid program x t k (kid_of list 1) second m) (λ k turns. near_own program x t k l (subst (λ (b : Bool). Turns b t k) (sym on) turns)) (near_end program x t)
op_near program (ops.Many many.And) list x t l node on = many_near program x t list (λ kid i. In-list_all (is_kid (length program.atoms) (length program.nodes) x) kid list node.right i)
op_near program (ops.Many many.Or) list x t l node on = many_near program x t list (λ kid i. In-list_all (is_kid (length program.atoms) (length program.nodes) x) kid list node.right i)

pub shape_near : (program : Ground) (x t var : ℕ) → IsGround program → x < length program.nodes → In var (shape_vars (shape_at program x t)) → IsNear program x t var
shape_near program x t var ground l i =
    let node = node_of program.nodes x in
    op_near program node.op node.kids x t l (at_node program x ground l) refl var i

pub shape_up_to : (program : Ground) (x t var : ℕ) → IsGround program → x < length program.nodes → In var (shape_vars (shape_at program x t)) → IsUpTo program (t + 1) var
shape_up_to program x t var ground l i =
    ⊎_elim
    (λ a. inl (a.0, a.1, a.2, a.3, a.4))
    (λ r. ⊎_elim (λ e. inr (inl (t, omega arith, e))) (λ b. inr (inr (b.0, b.1, b.2, b.3, b.5))) r)
    (shape_near program x t var ground l i)

pub shape_plain : (program : Ground) (x t var : ℕ) → IsGround program → x < length program.nodes → In var (shape_vars (shape_at program x t)) → is_plain program var ≡ true
shape_plain program x t var ground l i = plain_up_to program (t + 1) var (shape_up_to program x t var ground l i)

pub plain_shape : (program : Ground) (x t : ℕ) (lits : List Lit) (lit : Lit) → IsGround program → x < length program.nodes → In lits (shape_bodies (shape_at program x t)) → In lit lits → is_plain program lit.var ≡ true
plain_shape program x t lits lit ground l i j = shape_plain program x t lit.var ground l (body_var (shape_at program x t) lits lit i j)
