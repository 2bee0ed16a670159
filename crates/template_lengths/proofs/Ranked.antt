-- The shape of a node speaks of nodes of lower ranks alone: of those behind it, and of itself at the state that its operator looks at.
use Rattle.std.proofs.Common.{◌≡◌, ℕ, ◌+◌, ◌-◌, ◌*◌, ◌/◌, ◌%◌, ◌<◌, ◌≤◌, Bool, true, false, List, [], ◌∷◌, ◌++◌, length, map, refl, sym, ap, subst, ◌∙◌, ◌⊎◌, inl, inr, ⊎_elim, arith}
use Rattle.std.specs.List.{flat_map, range_with_len}
use Rattle.std.proofs.lemmas.Bool.{cases_Bool}
use Rattle.std.proofs.lemmas.Nat.{div-mul-add, mod-mul-add, mul-le}
use Rattle.tel_base.specs.declared.literals.Lit.{Lit}
use Rattle.tel_base.specs.Literals.{lit_of, negate, negations}
use Rattle.tel_base.proofs.Members.{In, In-append_cases, In-map, In-map_from, In-flat_map}
use Rattle.tel_rule.specs.Ground.{Ground, IsGround}
use Rattle.normal_program.specs.declared.shapes.Shape.{Shape}
use Rattle.normal_program.specs.declared.shapes.Shape.TheVariants as shapes
use Rattle.normal_program.specs.declared.shapes.NodeRule.{NodeRule}
use Rattle.normal_program.specs.Shapes.{shape_bodies}
use Rattle.normal_program.specs.ModuleClauses.{no_lit, shape_clauses}
use Rattle.clause_store.specs.Closure.{Clause}
use Rattle.atom_space.specs.Numbers.{width, visible, part, end_at}
use Rattle.horizon_external.specs.Occurring.{lit_vars, shape_vars}
use Rattle.formula_unfold.specs.Nodes.{counts_of, node_at, shape_at}
use Rattle.step_module.specs.Modules.{module_of}
use Rattle.completion.proofs.Ranges.{range_from}
use Rattle.stable_models.proofs.Parts.{on_at}
use Rattle.stable_models.proofs.PlainShapes.{Turns, IsBehind, IsNear, shape_near, body_var}
use Rattle.stable_models.proofs.SettledModules.{at_atom, node_of_state, one_state, one_place}
use Rattle.search_laws.specs.Gaps.{IsBase, IsLower, AreRanked}
use Rattle.template_lengths.proofs.States.{IsAtState, node_in}
use Rattle.template_lengths.proofs.Known.{next_cases, in_shape}

-- ---- ranks

-- rising with the state, or falling towards the end n
abbrev turn : Bool → ℕ → ℕ → ℕ
turn true n k = n - k
turn false n k = k

abbrev rank_of : Ground → ℕ → ℕ → ℕ → ℕ
rank_of program n k x = (length program.nodes - x) * (n + 1) + turn (on_at program x) n k

abbrev node_rank : Ground → ℕ → ℕ → ℕ
node_rank program n v = rank_of program n (v / width (counts_of program)) (v % width (counts_of program) - length program.atoms)

rank_part : (program : Ground) (n k x : ℕ) → x < length program.nodes → node_rank program n (part (counts_of program) x k) ≡ rank_of program n k x
rank_part program n k x l =
    let w = width (counts_of program) in
    let place = length program.atoms + x in
    let within : place < w = omega (arith, l) in
    let number : place - length program.atoms ≡ x = omega arith in
    (λ i. rank_of program n (div-mul-add k w place within i) (mod-mul-add k w place within i - length program.atoms)) ∙ ap (rank_of program n k) number

turn_small : (b : Bool) (n k : ℕ) → k < n → turn b n k ≤ n
turn_small true n k l = omega arith
turn_small false n k l = omega (arith, l)

turn_falls : (b : Bool) (n t k : ℕ) → t < n → k < n → Turns b t k → turn b n k < turn b n t
turn_falls true n t k l m e = omega (arith, l, m, e)
turn_falls false n t k l m e = omega (arith, e)

rank_falls : (program : Ground) (n t k x y : ℕ) → y < length program.nodes → t < n → k < n → IsBehind program x t y k → rank_of program n k y < rank_of program n t x
rank_falls program n t k x y within l m =
    ⊎_elim
    (λ (behind : x < y).
    let low = length program.nodes - y in
    let high = length program.nodes - x in
    let rows : (low + 1) * (n + 1) ≤ high * (n + 1) = mul-le (low + 1) (n + 1) high (n + 1) (omega (arith, behind, within)) (omega arith) in
    let row = next_row low (n + 1) in
    let small = turn_small (on_at program y) n k m in
    less (low * (n + 1)) (high * (n + 1)) ((low + 1) * (n + 1)) n (turn (on_at program y) n k) (turn (on_at program x) n t) rows row small)
    (λ (own : (y ≡ x) × Turns (on_at program x) t k).
    subst (λ (z : ℕ). rank_of program n k z < rank_of program n t x) (sym own.0)
    (more ((length program.nodes - x) * (n + 1)) (turn (on_at program x) n k) (turn (on_at program x) n t) (turn_falls (on_at program x) n t k l m own.1)))
  where
    next_row : (low w : ℕ) → (low + 1) * w ≡ low * w + w
    next_row low w = omega arith

    less : (low high next n a b : ℕ) → next ≤ high → next ≡ low + (n + 1) → a ≤ n → low + a < high + b
    less low high next n a b h e s = omega (arith, h, e, s)

    more : (row a b : ℕ) → a < b → row + a < row + b
    more row a b l = omega (arith, l)

-- ---- the clauses of a shape

-- the variable of the shape, or one that the shape speaks of
abbrev Of : ℕ → Shape → Lit → Type 0
Of x shape lit = (lit.var ≡ x) ⊎ In lit.var (shape_vars shape)

-- a literal of a clause that has a literal of x in front
front : (x : ℕ) (shape : Shape) (first lit : Lit) (rest : List Lit) → first.var ≡ x → ((m : Lit) → In m rest → In m.var (shape_vars shape)) → In lit (first ∷ rest) → Of x shape lit
front x shape first lit rest e h i = ⊎_elim (λ (same : first ≡ lit). inl (sym (ap (λ (m : Lit). m.var) same) ∙ e)) (λ m. inr (h lit m)) i

-- a member of a list of one, of two
one_var : (vars : List ℕ) (y m : Lit) → In y.var vars → In m (y ∷ []) → In m.var vars
one_var vars y m h i = ⊎_elim (λ (e : y ≡ m). subst (λ (k : Lit). In k.var vars) e h) (λ n. absurd n) i

two_vars : (vars : List ℕ) (y z m : Lit) → In y.var vars → In z.var vars → In m (y ∷ z ∷ []) → In m.var vars
two_vars vars y z m h k i = ⊎_elim (λ (e : y ≡ m). subst (λ (l : Lit). In l.var vars) e h) (λ n. one_var vars z m k n) i

of_lits : (lits : List Lit) (m : Lit) → In m lits → In m.var (lit_vars lits)
of_lits lits m i = In-map (λ (l : Lit). l.var) m lits i

of_negations : (lits : List Lit) (m : Lit) → In m (negations lits) → In m.var (lit_vars lits)
of_negations lits m i =
    let w = In-map_from negate m lits i in
    subst (λ (l : Lit). In l.var (lit_vars lits)) w.2 (of_lits lits w.0 w.1)

-- one clause, and more
in_clause : (goal : List Lit → Type 0) (one clause : List Lit) (more : List (List Lit)) → goal one → (In clause more → goal clause) → In clause (one ∷ more) → goal clause
in_clause goal one clause more h k i = ⊎_elim (λ e. subst goal e h) k i

clause_var : (x : ℕ) (shape : Shape) (clause : List Lit) → In clause (shape_clauses x shape) → (lit : Lit) → In lit clause → Of x shape lit
clause_var x shapes.True clause i = in_clause (λ (c : List Lit). (lit : Lit) → In lit c → Of x shapes.True lit) (lit_of x ∷ []) clause [] (λ lit j. front x shapes.True (lit_of x) lit [] refl (λ m n. absurd n) j) (λ m. absurd m) i
clause_var x shapes.False clause i = in_clause (λ (c : List Lit). (lit : Lit) → In lit c → Of x shapes.False lit) (no_lit x ∷ []) clause [] (λ lit j. front x shapes.False (no_lit x) lit [] refl (λ m n. absurd n) j) (λ m. absurd m) i
clause_var x (shapes.Is y) clause i =
    let shape = shapes.Is y in
    let vars = shape_vars shape in
    let goal : List Lit → Type 0 = λ c. (lit : Lit) → In lit c → Of x shape lit in
    in_clause goal (no_lit x ∷ y ∷ []) clause ((lit_of x ∷ negate y ∷ []) ∷ []) (λ lit j. front x shape (no_lit x) lit (y ∷ []) refl (λ m n. one_var vars y m (inl refl) n) j)
    (λ r. in_clause goal (lit_of x ∷ negate y ∷ []) clause [] (λ lit j. front x shape (lit_of x) lit (negate y ∷ []) refl (λ m n. one_var vars (negate y) m (inl refl) n) j) (λ m. absurd m) r)
    i
clause_var x (shapes.All ys) clause i =
    let shape = shapes.All ys in
    let goal : List Lit → Type 0 = λ c. (lit : Lit) → In lit c → Of x shape lit in
    ⊎_elim
    (λ a. let w = In-map_from (λ (y : Lit). no_lit x ∷ y ∷ []) clause ys a in
    subst goal w.2 (λ lit j. front x shape (no_lit x) lit (w.0 ∷ []) refl (λ m n. one_var (lit_vars ys) w.0 m (of_lits ys w.0 w.1) n) j))
    (λ b. in_clause goal (lit_of x ∷ negations ys) clause [] (λ lit j. front x shape (lit_of x) lit (negations ys) refl (λ m n. of_negations ys m n) j) (λ m. absurd m) b)
    (In-append_cases clause (map (λ (y : Lit). no_lit x ∷ y ∷ []) ys) ((lit_of x ∷ negations ys) ∷ []) i)
clause_var x (shapes.Any ys) clause i =
    let shape = shapes.Any ys in
    let goal : List Lit → Type 0 = λ c. (lit : Lit) → In lit c → Of x shape lit in
    ⊎_elim
    (λ a. let w = In-map_from (λ (y : Lit). lit_of x ∷ negate y ∷ []) clause ys a in
    subst goal w.2 (λ lit j. front x shape (lit_of x) lit (negate w.0 ∷ []) refl (λ m n. one_var (lit_vars ys) (negate w.0) m (of_lits ys w.0 w.1) n) j))
    (λ b. in_clause goal (no_lit x ∷ ys) clause [] (λ lit j. front x shape (no_lit x) lit ys refl (λ m n. of_lits ys m n) j) (λ m. absurd m) b)
    (In-append_cases clause (map (λ (y : Lit). lit_of x ∷ negate y ∷ []) ys) ((no_lit x ∷ ys) ∷ []) i)
clause_var x (shapes.AllAny y zs) clause i =
    let shape = shapes.AllAny y zs in
    let vars = shape_vars shape in
    let goal : List Lit → Type 0 = λ c. (lit : Lit) → In lit c → Of x shape lit in
    let last = map (λ (z : Lit). lit_of x ∷ negate y ∷ negate z ∷ []) zs in
    in_clause goal (no_lit x ∷ y ∷ []) clause ((no_lit x ∷ zs) ∷ last) (λ lit j. front x shape (no_lit x) lit (y ∷ []) refl (λ m n. one_var vars y m (inl refl) n) j)
    (λ r. in_clause goal (no_lit x ∷ zs) clause last (λ lit j. front x shape (no_lit x) lit zs refl (λ m n. inr (of_lits zs m n)) j)
    (λ s. let w = In-map_from (λ (z : Lit). lit_of x ∷ negate y ∷ negate z ∷ []) clause zs s in
    subst goal w.2 (λ lit j. front x shape (lit_of x) lit (negate y ∷ negate w.0 ∷ []) refl (λ m n. two_vars vars (negate y) (negate w.0) m (inl refl) (inr (of_lits zs w.0 w.1)) n) j))
    r)
    i
clause_var x (shapes.AnyAll y z w) clause i =
    let shape = shapes.AnyAll y z w in
    let vars = shape_vars shape in
    let goal : List Lit → Type 0 = λ c. (lit : Lit) → In lit c → Of x shape lit in
    let fourth = no_lit x ∷ y ∷ w ∷ [] in
    let third = no_lit x ∷ y ∷ z ∷ [] in
    let second = lit_of x ∷ negate z ∷ negate w ∷ [] in
    in_clause goal (lit_of x ∷ negate y ∷ []) clause (second ∷ third ∷ fourth ∷ []) (λ lit j. front x shape (lit_of x) lit (negate y ∷ []) refl (λ m n. one_var vars (negate y) m (inl refl) n) j)
    (λ r. in_clause goal second clause (third ∷ fourth ∷ []) (λ lit j. front x shape (lit_of x) lit (negate z ∷ negate w ∷ []) refl (λ m n. two_vars vars (negate z) (negate w) m (inr (inl refl)) (inr (inr (inl refl))) n) j)
    (λ s. in_clause goal third clause (fourth ∷ []) (λ lit j. front x shape (no_lit x) lit (y ∷ z ∷ []) refl (λ m n. two_vars vars y z m (inl refl) (inr (inl refl)) n) j)
    (λ u. in_clause goal fourth clause [] (λ lit j. front x shape (no_lit x) lit (y ∷ w ∷ []) refl (λ m n. two_vars vars y w m (inl refl) (inr (inr (inl refl))) n) j) (λ m. absurd m) u)
    s)
    r)
    i
clause_var x (shapes.Same y z) clause i =
    let shape = shapes.Same y z in
    let vars = shape_vars shape in
    let goal : List Lit → Type 0 = λ c. (lit : Lit) → In lit c → Of x shape lit in
    -- the literal of x, and those of y and z
    let of : (a b c : Lit) → a.var ≡ x → b.var ≡ y.var → c.var ≡ z.var → goal (a ∷ b ∷ c ∷ []) = λ a b c e f g lit j. front x shape a lit (b ∷ c ∷ []) e (λ m n. two_vars vars b c m (inl (sym f)) (inr (inl (sym g))) n) j in
    let second = no_lit x ∷ y ∷ negate z ∷ [] in
    let third = lit_of x ∷ y ∷ z ∷ [] in
    let fourth = lit_of x ∷ negate y ∷ negate z ∷ [] in
    in_clause goal (no_lit x ∷ negate y ∷ z ∷ []) clause (second ∷ third ∷ fourth ∷ []) (of (no_lit x) (negate y) z refl refl refl)
    (λ r. in_clause goal second clause (third ∷ fourth ∷ []) (of (no_lit x) y (negate z) refl refl refl)
    (λ s. in_clause goal third clause (fourth ∷ []) (of (lit_of x) y z refl refl refl)
    (λ u. in_clause goal fourth clause [] (of (lit_of x) (negate y) (negate z) refl refl refl) (λ m. absurd m) u)
    s)
    r)
    i

-- ---- the shape of a node

abbrev visible_of : Ground → ℕ → List ℕ
visible_of program n = flat_map (λ (s : ℕ). (module_of program s).atoms) (range_with_len 0 n)

-- what it may speak of
ranked_here : (program : Ground) (n t x v : ℕ) → IsGround program → x < length program.nodes → t < n → In v (shape_vars (shape_at program x t)) → IsBase (module_of program) n v ⊎ IsLower (module_of program) n (node_rank program n) (node_at program t x) v
ranked_here program n t x v ground l m i =
    let said = in_shape program t v (node_at program t x) (node_in program t x l) i in
    let near = shape_near program x t v ground l i in
    let opened : In v (module_of program (n - 1)).open_vars → IsBase (module_of program) n v = λ o. inr (inr o) in
    ⊎_elim
    (λ a. ⊎_elim
    (λ k. inl (inl (seen a.0 a.1 k a.3 a.4)))
    (λ o. inl (opened o))
    (next_cases program n t a.0 v m a.2 (inl (a.1, a.3, a.4)) said))
    (λ r. ⊎_elim
    (λ e. inl (inr (inl (t, m, e))))
    (λ b. ⊎_elim
    (λ k. inr (lower b.0 b.1 k b.3 b.4 b.5))
    (λ o. inl (opened o))
    (next_cases program n t b.0 v m b.2 (inr (inr (b.1, b.3, b.5))) said))
    r)
    near
  where
    seen : (k a : ℕ) → k < n → a < length program.atoms → visible (counts_of program) a k ≡ v → In v (visible_of program n)
    seen k a below within e =
        subst (λ (u : ℕ). In u (visible_of program n)) e
        (In-flat_map (λ (s : ℕ). (module_of program s).atoms) k (visible (counts_of program) a k) (range_with_len 0 n) (range_from n 0 k (omega arith) (omega (arith, below))) (at_atom program k a within))

    lower : (k y : ℕ) → k < n → y < length program.nodes → IsBehind program x t y k → part (counts_of program) y k ≡ v → IsLower (module_of program) n (node_rank program n) (node_at program t x) v
    lower k y below within behind e = record {
      state = k;
      within = below;
      other = node_at program k y;
      inside = node_in program k y within;
      is = e;
      lower = subst (λ (a : ℕ). a < node_rank program n (part (counts_of program) x t)) (sym (rank_part program n k y within) ∙ ap (node_rank program n) e)
          (subst (λ (b : ℕ). rank_of program n k y < b) (sym (rank_part program n t x l)) (rank_falls program n t k x y within m below behind));
    }

not_turned : (b : Bool) (t : ℕ) → Turns b t t → ⊥
not_turned true t e = omega (arith, e)
not_turned false t e = omega (arith, e)

-- it doesn't speak of itself at its own state
not_itself : (program : Ground) (t x v : ℕ) → x < length program.nodes → IsNear program x t v → v ≡ part (counts_of program) x t → ⊥
not_itself program t x v l near e =
    let w = width (counts_of program) in
    let atoms = length program.atoms in
    ⊎_elim
    (λ a.
    let s = a.3 in
    let p = one_place w a.0 t a.1 (atoms + x) (omega (arith, s)) (omega (arith, l)) (a.4 ∙ e) in
    omega (arith, p, s))
    (λ r. ⊎_elim
    (λ f.
    let last = atoms + length program.nodes + length program.instances in
    let p = one_place w t t last (atoms + x) (omega arith) (omega (arith, l)) (f ∙ e) in
    omega (arith, p, l))
    (λ b.
    let s = b.3 in
    let p = one_place w b.0 t (atoms + b.1) (atoms + x) (omega (arith, s)) (omega (arith, l)) (b.5 ∙ e) in
    let q = one_state w b.0 t (atoms + b.1) (atoms + x) (omega (arith, s)) (omega (arith, l)) (b.5 ∙ e) in
    ⊎_elim
    (λ (behind : x < b.1). omega (arith, p, behind))
    (λ (own : (b.1 ≡ x) × Turns (on_at program x) t b.0). not_turned (on_at program x) t (subst (λ (k : ℕ). Turns (on_at program x) t k) q own.1))
    b.4)
    r)
    near

ranked_shape : (program : Ground) (n t : ℕ) (node : NodeRule) (clause : Clause) (lit : Lit) → IsGround program → t < n → In node (module_of program t).nodes → In clause (shape_clauses node.var node.shape) → In lit clause → (lit.var ≡ node.var) ⊎ (IsBase (module_of program) n lit.var ⊎ IsLower (module_of program) n (node_rank program n) node lit.var)
ranked_shape program n t node clause lit ground m inside i j =
    let x = node_of_state program t node inside in
    let steps = module_of program in
    ⊎_elim
    (λ e. inl e)
    (λ said. inr (subst (λ (k : NodeRule). IsBase steps n lit.var ⊎ IsLower steps n (node_rank program n) k lit.var) x.2 (ranked_here program n t x.0 lit.var ground x.1 m (subst (λ (k : NodeRule). In lit.var (shape_vars k.shape)) (sym x.2) said))))
    (clause_var node.var node.shape clause i lit j)

ranked_apart : (program : Ground) (t : ℕ) (node : NodeRule) (lits : List Lit) (lit : Lit) → IsGround program → In node (module_of program t).nodes → In lits (shape_bodies node.shape) → In lit lits → lit.var ≡ node.var → ⊥
ranked_apart program t node lits lit ground inside i j e =
    let x = node_of_state program t node inside in
    let said = subst (λ (k : NodeRule). In lit.var (shape_vars k.shape)) (sym x.2) (body_var node.shape lits lit i j) in
    not_itself program t x.0 lit.var x.1 (shape_near program x.0 t lit.var ground x.1 said) (e ∙ ap (λ (k : NodeRule). k.var) (sym x.2))

pub templates_ranked : (program : Ground) (n : ℕ) → IsGround program → (rank : ℕ → ℕ) × AreRanked (module_of program) n rank
templates_ranked program n ground = (
  node_rank program n,
  record {
    shapes = λ t l node clause lit m i j. ranked_shape program n t node clause lit ground l m i j;
    apart = λ t l node lits lit m i j e. ranked_apart program t node lits lit ground m i j e;
  },
)
