-- What satisfies the completion makes the clauses of settled modules true.
use Rattle.std.proofs.Common.{◌≡◌, ℕ, zero, suc, ◌-◌, ◌<◌, Bool, true, false, List, [], ◌∷◌, ◌++◌, map, refl, sym, ap, subst, ◌∙◌, inl, inr, ⊎_elim, arith}
use Rattle.std.specs.Prelude.{Option, Some, None, IsTrue, nat_lt}
use Rattle.std.specs.List.{list_all, flat_map}
use Rattle.std.proofs.lemmas.Bool.{and_from, cases_Bool, not_from_false, false≢true, ltb-true, ltb-false}
use Rattle.tel_base.specs.declared.literals.Lit.{Lit}
use Rattle.tel_base.specs.Literals.{lit_of, negate, negations}
use Rattle.tel_base.specs.Members.{In}
use Rattle.tel_base.proofs.Members.{In-list_all, In-append_left, In-append_right, In-append_cases, In-map, In-map_from, In-flat_map, In-flat_map_from, any_found, any_from, all_lost}
use Rattle.normal_program.specs.declared.rules.NRule.{NRule}
use Rattle.normal_program.specs.declared.shapes.NodeRule.{NodeRule}
use Rattle.normal_program.specs.declared.modules.BodyHead.{BodyHead}
use Rattle.normal_program.specs.declared.modules.BodyHead.TheVariants.{Normal, Choice, Nothing, NextNormal, NextChoice}
use Rattle.normal_program.specs.declared.modules.BodyDef.{BodyDef}
use Rattle.normal_program.specs.declared.modules.StepModule.{StepModule}
use Rattle.normal_program.specs.Rules.{rule_of}
use Rattle.normal_program.specs.Shapes.{shape_bodies, node_rule, rules_of_node}
use Rattle.normal_program.specs.Grounds.{all_rules}
use Rattle.normal_program.specs.StableSets.{Set, lits_hold, body_holds, shape_holds}
use Rattle.normal_program.specs.ModuleClauses.{no_lit, listed, use_clauses, body_clauses, close_clauses, head_clauses, later_clauses, later_rules, bodies_with, support_clause, pair_clause, open_clause, stated_clauses}
use Rattle.completion.specs.Completions.{lit_true, clause_true, rules_by, own_rules, close_at, AreSettled, Completes}
use Rattle.completion.specs.Laws.{SatisfiesClauses}
use Rattle.completion.proofs.Signs.{true_negate}
use Rattle.completion.proofs.ListedClauses.{means_listed}
use Rattle.completion.proofs.ShapesHold.{shape_true}
use Rattle.completion.proofs.ShapeValues.{same_bits}
use Rattle.completion.proofs.Sets.{lits-body}
use Rattle.completion.proofs.RuleLists.{more_lits, some_is, rule_kind, node_head, later_are, source}
use Rattle.completion.proofs.StatedClauses.{stated_all, in_bodies}

-- a clause with the negation of v, that is true where v is
with_not : (S : Set) (v : ℕ) (clause : List Lit) → In (no_lit v) clause → (S v ≡ true → clause_true S clause ≡ true) → clause_true S clause ≡ true
with_not S v clause i go =
    ⊎_elim go (λ (f : S v ≡ false). any_from (lit_true S) clause (no_lit v) i (not_from_false (S v) f)) (cases_Bool (S v))

-- the parts of the clause of a head
later_by : (choice : Bool) (head body : Option ℕ) (clause : List Lit) → In clause (head_clauses choice head body) → (a : ℕ) × (b : ℕ) × (choice ≡ false) × (head ≡ Some a) × (body ≡ Some b) × ((lit_of a ∷ no_lit b ∷ []) ≡ clause)
later_by true head body clause i = absurd i
later_by false None body clause i = absurd i
later_by false (Some a) None clause i = absurd i
later_by false (Some a) (Some b) clause i = ⊎_elim (λ e. (a, b, refl, refl, refl, e)) (λ m. absurd m) i

module _ (steps : ℕ → StepModule) (n : ℕ) (S : Set) (settled : AreSettled steps n) (some : 0 < n) (whole : Completes steps n S) where
  own_in : (t : ℕ) → t < n → (def : BodyDef) → In def (steps t).bodies → (rule : NRule) → In rule (own_rules (steps t).end def) → In rule (all_rules (steps t))
  own_in t l def m rule i =
      let s = settled.each t l in
      let own = flat_map (own_rules (steps t).end) (steps t).bodies in
      In-append_left rule (steps t).rules (flat_map rules_of_node (steps t).nodes) (subst (λ rs. In rule rs) (sym s.rules) (In-append_left rule own s.later (In-flat_map (own_rules (steps t).end) def rule (steps t).bodies m i)))

  own_by : (t : ℕ) → t < n → (def : BodyDef) → In def (steps t).bodies → (kind : BodyHead) → def.head ≡ kind → (rule : NRule) → In rule (rules_by (steps t).end def.var def.lits kind) → In rule (all_rules (steps t))
  own_by t l def m kind is rule i = own_in t l def m rule (subst (λ k. In rule (rules_by (steps t).end def.var def.lits k)) (sym is) i)

  use_true : (t : ℕ) → t < n → (def : BodyDef) → In def (steps t).bodies → (kind : BodyHead) → def.head ≡ kind → (clause : List Lit) → In clause (use_clauses (steps t).end def.var kind) → clause_true S clause ≡ true
  use_true t l def m (Normal a) is clause i =
      let rule = rule_of (Some a) false def.lits (Some def.var) in
      let c : List Lit = lit_of a ∷ no_lit def.var ∷ [] in
      ⊎_elim
      (λ (e : c ≡ clause). subst (λ (d : List Lit). clause_true S d ≡ true) e (with_not S def.var c (inr (inl refl)) (λ b.
      any_from (lit_true S) c (lit_of a) (inl refl) (whole.given t l rule a (own_by t l def m (Normal a) is rule (inl refl)) refl refl (lits-body S S def.lits ∙ (sym (whole.bodies t l def m) ∙ b))))))
      (λ k. absurd k) i
  use_true t l def m (Choice a) is clause i = absurd i
  use_true t l def m Nothing is clause i =
      let rule = rule_of None false def.lits (Some def.var) in
      let c : List Lit = no_lit def.var ∷ [] in
      ⊎_elim
      (λ (e : c ≡ clause). subst (λ (d : List Lit). clause_true S d ≡ true) e (with_not S def.var c (inl refl) (λ b.
      absurd (false≢true (sym (whole.met t l rule (own_by t l def m Nothing is rule (inl refl)) refl) ∙ (lits-body S S def.lits ∙ (sym (whole.bodies t l def m) ∙ b)))))))
      (λ k. absurd k) i
  use_true t l def m NextNormal is clause i =
      let e = (steps t).end in
      let lits = def.lits ++ lit_of e ∷ [] in
      let rule = rule_of None false lits (Some def.var) in
      let c : List Lit = no_lit def.var ∷ no_lit e ∷ [] in
      ⊎_elim
      (λ (same : c ≡ clause). subst (λ (d : List Lit). clause_true S d ≡ true) same (with_not S def.var c (inl refl) (λ b. with_not S e c (inr (inl refl)) (λ h.
      absurd (false≢true (sym (whole.met t l rule (own_by t l def m NextNormal is rule (inl refl)) refl) ∙ (lits-body S S lits ∙ (more_lits S def.lits e ∙ and_from (lits_hold S S def.lits) (S e) (sym (whole.bodies t l def m) ∙ b) h))))))))
      (λ k. absurd k) i
  use_true t l def m NextChoice is clause i = absurd i

  body_true : (t : ℕ) → t < n → (def : BodyDef) → In def (steps t).bodies → (clause : List Lit) → In clause (body_clauses (steps t).end def) → clause_true S clause ≡ true
  body_true t l def m clause i =
      let unit : Lit → List Lit = λ (k : Lit). no_lit def.var ∷ k ∷ [] in
      let value = whole.bodies t l def m in
      let all : List Lit = lit_of def.var ∷ negations def.lits in
      let uses = use_clauses (steps t).end def.var def.head in
      ⊎_elim
      (λ (a : In clause (map unit def.lits)).
      let w = In-map_from unit clause def.lits a in
      subst (λ (d : List Lit). clause_true S d ≡ true) w.2 (with_not S def.var (unit w.0) (inl refl) (λ b. any_from (lit_true S) (unit w.0) w.0 (inr (inl refl)) (In-list_all (lit_true S) w.0 def.lits (sym value ∙ b) w.1))))
      (λ (r : In clause (all ∷ uses)). ⊎_elim
      (λ (e : all ≡ clause). subst (λ (d : List Lit). clause_true S d ≡ true) e (⊎_elim
      (λ (h : list_all (lit_true S) def.lits ≡ true). any_from (lit_true S) all (lit_of def.var) (inl refl) (value ∙ h))
      (λ (h : list_all (lit_true S) def.lits ≡ false). let w = all_lost (lit_true S) def.lits h in any_from (lit_true S) all (negate w.0) (inr (In-map negate w.0 def.lits w.1)) (true_negate S w.0 ∙ not_from_false (lit_true S w.0) w.2))
      (cases_Bool (list_all (lit_true S) def.lits))))
      (λ k. use_true t l def m def.head refl clause k) r)
      (In-append_cases clause (map unit def.lits) (all ∷ uses) i)

  later_true : (t : ℕ) → t < n → (rule : NRule) → In rule (later_rules (steps t)) → (clause : List Lit) → In clause (later_clauses rule) → clause_true S clause ≡ true
  later_true t l rule m clause i =
      let s = settled.each t l in
      let m2 : In rule s.later = subst (λ rs. In rule rs) (later_are (steps t) s.later s.rules) m in
      let k = s.each_later rule m2 in
      let positive = k.positive in
      let before : t - 1 < n = omega (arith, l, positive) in
      let p = later_by rule.choice rule.head rule.body clause i in
      let a = p.0 in
      let b = p.1 in
      let own = flat_map (own_rules (steps t).end) (steps t).bodies in
      let inside : In rule (steps t).rules = subst (λ rs. In rule rs) (sym s.rules) (In-append_right rule own s.later m2) in
      let one : b ≡ k.def.var = some_is b k.def.var (sym p.4 ∙ ap (λ (r : NRule). r.body) k.is) in
      let c : List Lit = lit_of a ∷ no_lit b ∷ [] in
      subst (λ (d : List Lit). clause_true S d ≡ true) p.5 (with_not S b c (inr (inl refl)) (λ h.
      let holds : lits_hold S S k.def.lits ≡ true = sym (whole.bodies (t - 1) before k.def k.before) ∙ (sym (ap S one) ∙ h) in
      let body : body_holds S S rule ≡ true = ap (λ (r : NRule). body_holds S S r) k.is ∙ (lits-body S S k.def.lits ∙ holds) in
      any_from (lit_true S) c (lit_of a) (inl refl) (whole.given t l rule a (In-append_left rule (steps t).rules (flat_map rules_of_node (steps t).nodes) inside) p.2 p.3 body)))

  support_true : (t : ℕ) → t < n → (atom : ℕ) → In atom (steps t).atoms → clause_true S (support_clause (steps t).rules atom) ≡ true
  support_true t l atom m =
      let clause = support_clause (steps t).rules atom in
      let bodies = bodies_with (steps t).rules atom in
      with_not S atom clause (inl refl) (λ h.
      let w = whole.supported t l atom (inl m) h in
      ⊎_elim
      (λ (i : In w.rule (steps w.state).rules).
      let there = (settled.each w.state w.within).heads w.rule atom i w.head in
      let same : w.state ≡ t = settled.atoms w.state t w.within l atom there m in
      let here : In w.rule (steps t).rules = subst (λ u. In w.rule (steps u).rules) same i in
      let s = source steps n t w.rule atom l (settled.each t l) here w.head in
      let b : S s.def.var ≡ true = whole.bodies s.state s.within s.def s.inside ∙ (sym (s.holds S) ∙ w.body) in
      any_from (lit_true S) clause (lit_of s.def.var) (inr (In-map lit_of s.def.var bodies (in_bodies (steps t).rules w.rule atom s.def.var here w.head s.body))) b)
      (λ (k : (node : NodeRule) × In node (steps w.state).nodes × ((lits : List Lit) × In lits (shape_bodies node.shape) × (node_rule node.var lits ≡ w.rule))).
      absurd (settled.apart t w.state l w.within atom k.0 m k.1 (sym (node_head k.0.var atom k.2.0 w.rule k.2.2 w.head))))
      (rule_kind (steps w.state) w.rule w.inside))

  node_value : (t : ℕ) → t < n → (node : NodeRule) → In node (steps t).nodes → S node.var ≡ shape_holds S S node.shape
  node_value t l node m =
      same_bits (S node.var) (shape_holds S S node.shape)
      (λ h.
      let w = whole.supported t l node.var (inr (node, m, refl)) h in
      ⊎_elim
      (λ (i : In w.rule (steps w.state).rules).
      absurd (settled.apart w.state t w.within l node.var node ((settled.each w.state w.within).heads w.rule node.var i w.head) m refl))
      (λ (k : (other : NodeRule) × In other (steps w.state).nodes × ((lits : List Lit) × In lits (shape_bodies other.shape) × (node_rule other.var lits ≡ w.rule))).
      let same : k.0 ≡ node = settled.nodes w.state t w.within l k.0 node k.1 m (node_head k.0.var node.var k.2.0 w.rule k.2.2 w.head) in
      let holds : lits_hold S S k.2.0 ≡ true = sym (lits-body S S k.2.0) ∙ (ap (λ (r : NRule). body_holds S S r) k.2.2 ∙ w.body) in
      subst (λ (x : NodeRule). shape_holds S S x.shape ≡ true) same (any_from (lits_hold S S) (shape_bodies k.0.shape) k.2.0 k.2.1 holds))
      (rule_kind (steps w.state) w.rule w.inside))
      (λ h.
      let w = any_found (lits_hold S S) (shape_bodies node.shape) h in
      let rule = node_rule node.var w.0 in
      let inside : In rule (all_rules (steps t)) = In-append_right rule (steps t).rules (flat_map rules_of_node (steps t).nodes) (In-flat_map rules_of_node node rule (steps t).nodes m (In-map (node_rule node.var) w.0 (shape_bodies node.shape) w.1)) in
      whole.given t l rule node.var inside refl refl (lits-body S S w.0 ∙ w.2))

  pair_true : (t : ℕ) → t < n → (pair : ℕ × ℕ) → In pair (steps t).pairs → clause_true S (pair_clause pair) ≡ true
  pair_true t l pair m =
      with_not S pair.0 (pair_clause pair) (inl refl) (λ a. with_not S pair.1 (pair_clause pair) (inr (inl refl)) (λ b.
      absurd (false≢true (sym (whole.pairs t l pair m) ∙ and_from (S pair.0) (S pair.1) a b))))

  open_true : (t : ℕ) → t < n → (var : ℕ) → In var (steps t).open_vars → clause_true S (open_clause (steps t).end var) ≡ true
  open_true t l var m =
      let clause = open_clause (steps t).end var in
      ⊎_elim
      (λ (before : nat_lt t (n - 1) ≡ true). any_from (lit_true S) clause (no_lit (steps t).end) (inl refl) (not_from_false (S (steps t).end) (whole.ends t (ltb-true t (n - 1) before))))
      (λ (not_before : nat_lt t (n - 1) ≡ false).
      let up = ltb-false t (n - 1) not_before in
      let same : t ≡ n - 1 = omega (arith, l, up) in
      any_from (lit_true S) clause (no_lit var) (inr (inl refl)) (not_from_false (S var) (whole.opens var (subst (λ u. In var (steps u).open_vars) same m))))
      (cases_Bool (nat_lt t (n - 1)))

  close_by : (t : ℕ) → t < n → (clause : List Lit) → In clause (close_clauses (close_at steps t)) → clause_true S clause ≡ true
  close_by zero l clause i = absurd i
  close_by (suc t) l clause i =
      let c : List Lit = no_lit (steps t).end ∷ [] in
      let before : t < n - 1 = omega (arith, l) in
      ⊎_elim
      (λ (e : c ≡ clause). subst (λ (d : List Lit). clause_true S d ≡ true) e (any_from (lit_true S) c (no_lit (steps t).end) (inl refl) (not_from_false (S (steps t).end) (whole.ends t before))))
      (λ k. absurd k) i

  close_true : (t : ℕ) → t < n → (clause : List Lit) → In clause (close_clauses (steps t).close) → clause_true S clause ≡ true
  close_true t l clause i = close_by t l clause (subst (λ o. In clause (close_clauses o)) (settled.each t l).close i)

  stated : (t : ℕ) → t < n → (clause : List Lit) → In clause (stated_clauses (steps t)) → clause_true S clause ≡ true
  stated t l clause i =
      stated_all (steps t) (λ (c : List Lit). clause_true S c ≡ true) (close_true t l) (body_true t l) (later_true t l) (support_true t l)
      (λ node m c j. shape_true S node.var node.shape (node_value t l node m) c j) (pair_true t l) (open_true t l) clause i

  pub to_clauses : SatisfiesClauses steps n S × IsTrue (S (steps (n - 1)).end)
  to_clauses =
      ((λ t l clause i. let w = In-flat_map_from listed clause (stated_clauses (steps t)) i in means_listed S w.0 clause (stated t l w.0 w.1) w.2), whole.last)
