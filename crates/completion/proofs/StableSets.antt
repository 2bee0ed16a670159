-- A stable set with the values of the bodies satisfies the completion.
use Rattle.std.proofs.Common.{◌≡◌, ℕ, ◌-◌, ◌<◌, true, false, cond, not, ◌&&◌, List, [], ◌∷◌, refl, sym, ap, subst, ◌∙◌, ◌⊎◌, inl, inr, ⊎_elim, arith}
use Rattle.std.specs.Prelude.{Some, None}
use Rattle.std.specs.List.{range_with_len}
use Rattle.std.proofs.lemmas.Bool.{cases_Bool, not-true, false≢true}
use Rattle.std.proofs.lemmas.List.Folds.{flat_map-map}
use Rattle.tel_base.specs.declared.literals.Lit.{Lit}
use Rattle.tel_base.proofs.Members.{In, In-list_all, In-map, In-flat_map, In-flat_map_from}
use Rattle.normal_program.specs.declared.rules.NRule.{NRule}
use Rattle.normal_program.specs.declared.shapes.NodeRule.{NodeRule}
use Rattle.normal_program.specs.declared.modules.BodyHead.TheVariants.{Nothing, NextNormal}
use Rattle.normal_program.specs.declared.modules.BodyDef.{BodyDef}
use Rattle.normal_program.specs.declared.modules.StepModule.{StepModule}
use Rattle.normal_program.specs.Shapes.{shape_bodies, node_rule}
use Rattle.normal_program.specs.Grounds.{all_rules}
use Rattle.normal_program.specs.StableSets.{Set, lit_holds, lits_hold, body_holds, is_met}
use Rattle.completion.specs.Completions.{AreSettled, IsHead, HasSupport, Completes}
use Rattle.completion.specs.Lengths.{fact_of, modules_below, rules_of_modules, pairs_of_modules, IsStableOf, AreApart, ArePlain, IsValued}
use Rattle.completion.specs.Laws.{StableSetsComplete, StableSetsSatisfy}
use Rattle.completion.proofs.Ranges.{range_cases, range_from}
use Rattle.completion.proofs.Sets.{lits-body, kept, stable_supported}
use Rattle.completion.proofs.RuleLists.{some_is, not_none, own_none, rule_kind, node_head, source, constraint}
use Rattle.completion.proofs.ToClauses.{to_clauses}

-- ---- literals in two sets

same_lit : (S values : Set) (lit : Lit) → values lit.var ≡ S lit.var → lit_holds values values lit ≡ lit_holds S S lit
same_lit S values lit e = λ i. cond lit.positive (e i) (not (e i))

pub same_lits : (S values : Set) (lits : List Lit) → ((lit : Lit) → In lit lits → values lit.var ≡ S lit.var) → lits_hold values values lits ≡ lits_hold S S lits
same_lits S values [] same = refl
same_lits S values (lit ∷ lits) same =
    λ i. same_lit S values lit (same lit (inl refl)) i && same_lits S values lits (λ l m. same l (inr m)) i

module _ (steps : ℕ → StepModule) (n : ℕ) (plain S values : Set) (settled : AreSettled steps n) (separate : AreApart steps n) (speak : ArePlain steps n plain) (some : 0 < n) (stable : IsStableOf steps n S) (valued : IsValued steps n plain S values) where
  abbrev last : ℕ
  last = (steps (n - 1)).end

  abbrev rules : List NRule
  rules = rules_of_modules (fact_of last) (modules_below steps n)

  abbrev pairs : List (ℕ × ℕ)
  pairs = pairs_of_modules (modules_below steps n)

  in_range : (t : ℕ) → t < n → In (steps t) (modules_below steps n)
  in_range t l = In-map steps t (range_with_len 0 n) (range_from n 0 t (omega arith) (omega (arith, l)))

  in_rules : (t : ℕ) → t < n → (rule : NRule) → In rule (all_rules (steps t)) → In rule rules
  in_rules t l rule i = inr (In-flat_map all_rules (steps t) rule (modules_below steps n) (in_range t l) i)

  -- a rule of the length is its end, or one of a module
  of_rules : (rule : NRule) → In rule rules → (fact_of last ≡ rule) ⊎ ((t : ℕ) × (t < n) × In rule (all_rules (steps t)))
  of_rules rule i =
      ⊎_elim (λ e. inl e) (λ m.
      let w = In-flat_map_from (λ (t : ℕ). all_rules (steps t)) rule (range_with_len 0 n) (subst (λ (rs : List NRule). In rule rs) (flat_map-map all_rules steps (range_with_len 0 n)) m) in
      inr (w.0, omega (arith, (range_cases n 0 w.0 w.1).1), w.2)) i

  head_of : (t : ℕ) → t < n → (rule : NRule) (var : ℕ) → In rule (all_rules (steps t)) → rule.head ≡ Some var → IsHead (steps t) var
  head_of t l rule var i is =
      ⊎_elim
      (λ m. inl ((settled.each t l).heads rule var m is))
      (λ (k : (node : NodeRule) × In node (steps t).nodes × ((lits : List Lit) × In lits (shape_bodies node.shape) × (node_rule node.var lits ≡ rule))).
      inr (k.0, k.1, node_head k.0.var var k.2.0 rule k.2.2 is))
      (rule_kind (steps t) rule i)

  -- a true variable is the end or has a rule of its own
  of_true : (var : ℕ) → S var ≡ true → (last ≡ var) ⊎ ((t : ℕ) × (t < n) × ((rule : NRule) × In rule (all_rules (steps t)) × (rule.head ≡ Some var) × (body_holds S S rule ≡ true)))
  of_true var h =
      let w = stable_supported rules pairs S stable var h in
      ⊎_elim
      (λ (e : fact_of last ≡ w.0). inl (some_is last var (ap (λ (r : NRule). r.head) e ∙ w.2)))
      (λ (m : (t : ℕ) × (t < n) × In w.0 (all_rules (steps t))). inr (m.0, m.1, (w.0, m.2, w.2, w.3)))
      (of_rules w.0 w.1)

  is_false : (var : ℕ) → ((last ≡ var) → ⊥) → ((t : ℕ) → t < n → IsHead (steps t) var → ⊥) → S var ≡ false
  is_false var no_end no_head =
      ⊎_elim
      (λ (h : S var ≡ true).
      ⊎_elim
      (λ e. absurd (no_end e))
      (λ (w : (t : ℕ) × (t < n) × ((rule : NRule) × In rule (all_rules (steps t)) × (rule.head ≡ Some var) × (body_holds S S rule ≡ true))).
      absurd (no_head w.0 w.1 (head_of w.0 w.1 w.2.0 var w.2.1 w.2.2)))
      (of_true var h))
      (λ f. f)
      (cases_Bool (S var))

  -- ---- bodies

  same_body : (t : ℕ) → t < n → (def : BodyDef) → In def (steps t).bodies → lits_hold values values def.lits ≡ lits_hold S S def.lits
  same_body t l def m = same_lits S values def.lits (λ lit i. valued.same lit.var (speak.bodies t l def lit m i))

  same_end : (t : ℕ) → t < n → values (steps t).end ≡ S (steps t).end
  same_end t l = valued.same (steps t).end (speak.ends t l)

  same_node : (t : ℕ) → t < n → (node : NodeRule) (lits : List Lit) (rule : NRule) → In node (steps t).nodes → In lits (shape_bodies node.shape) → node_rule node.var lits ≡ rule → body_holds values values rule ≡ body_holds S S rule
  same_node t l node lits rule m i e =
      let same = same_lits S values lits (λ lit j. valued.same lit.var (speak.shapes t l node lits lit m i j)) in
      subst (λ (r : NRule). body_holds values values r ≡ body_holds S S r) e (lits-body values values lits ∙ (same ∙ sym (lits-body S S lits)))

  same_headed : (t : ℕ) → t < n → (rule : NRule) (head : ℕ) → In rule (all_rules (steps t)) → rule.head ≡ Some head → body_holds values values rule ≡ body_holds S S rule
  same_headed t l rule head i is =
      ⊎_elim
      (λ (m : In rule (steps t).rules).
      let s = source steps n t rule head l (settled.each t l) m is in
      s.holds values ∙ (same_body s.state s.within s.def s.inside ∙ sym (s.holds S)))
      (λ (k : (node : NodeRule) × In node (steps t).nodes × ((lits : List Lit) × In lits (shape_bodies node.shape) × (node_rule node.var lits ≡ rule))).
      same_node t l k.0 k.2.0 rule k.1 k.2.1 k.2.2)
      (rule_kind (steps t) rule i)

  same_constraint : (t : ℕ) → t < n → (rule : NRule) → In rule (all_rules (steps t)) → rule.head ≡ None → body_holds values values rule ≡ body_holds S S rule
  same_constraint t l rule i is =
      ⊎_elim
      (λ (m : In rule (steps t).rules).
      let c = constraint steps t rule (settled.each t l) m is in
      let def = c.0 in
      ⊎_elim
      (λ (w : (def.head ≡ Nothing) × ((X : Set) → body_holds X X rule ≡ lits_hold X X def.lits)).
      w.1 values ∙ (same_body t l def c.1 ∙ sym (w.1 S)))
      (λ (w : (def.head ≡ NextNormal) × ((X : Set) → body_holds X X rule ≡ (lits_hold X X def.lits && X (steps t).end))).
      w.1 values ∙ ((λ j. same_body t l def c.1 j && same_end t l j) ∙ sym (w.1 S)))
      (own_none (steps t).end def.var def.lits def.head rule c.2 is))
      (λ (k : (node : NodeRule) × In node (steps t).nodes × ((lits : List Lit) × In lits (shape_bodies node.shape) × (node_rule node.var lits ≡ rule))).
      absurd (not_none k.0.var (ap (λ (r : NRule). r.head) k.2.2 ∙ is)))
      (rule_kind (steps t) rule i)

  -- ---- the completion

  same_head : (t : ℕ) → t < n → (var : ℕ) → IsHead (steps t) var → values var ≡ S var
  same_head t l var h = valued.same var (speak.heads t l var h)

  within : n - 1 < n
  within = omega (arith, some)

  at_last : values last ≡ true
  at_last =
      same_end (n - 1) within ∙ kept rules S S (fact_of last) last stable.closed (inl refl) refl (λ c. absurd (false≢true c)) refl

  ends : (t : ℕ) → t < n - 1 → values (steps t).end ≡ false
  ends t l =
      let before : t < n = omega (arith, l) in
      same_end t before
      ∙ is_false (steps t).end (λ e. let same = separate.ends (n - 1) t within before e in absurd (omega (arith, same, l))) (λ u m h. separate.end_heads t u before m h)

  opens : (var : ℕ) → In var (steps (n - 1)).open_vars → values var ≡ false
  opens var i =
      valued.same var (speak.opens (n - 1) within var i)
      ∙ is_false var (λ e. separate.open_ends (n - 1) (n - 1) within (omega arith) var i e) (λ u m h. separate.open_heads (n - 1) u within (omega (arith, m)) var i h)

  met : (t : ℕ) → t < n → (rule : NRule) → In rule (all_rules (steps t)) → rule.head ≡ None → body_holds values values rule ≡ false
  met t l rule i is =
      let all = In-list_all (λ (r : NRule). is_met S (body_holds S S r) r.head) rule rules stable.met (in_rules t l rule i) in
      same_constraint t l rule i is ∙ not-true (body_holds S S rule) (sym (ap (is_met S (body_holds S S rule)) is) ∙ all)

  given : (t : ℕ) → t < n → (rule : NRule) (head : ℕ) → In rule (all_rules (steps t)) → rule.choice ≡ false → rule.head ≡ Some head → body_holds values values rule ≡ true → values head ≡ true
  given t l rule head i normal is body =
      same_head t l head (head_of t l rule head i is)
      ∙ kept rules S S rule head stable.closed (in_rules t l rule i) is (λ c. absurd (false≢true (sym normal ∙ c))) (sym (same_headed t l rule head i is) ∙ body)

  supported : (t : ℕ) → t < n → (var : ℕ) → IsHead (steps t) var → values var ≡ true → HasSupport steps n values var
  supported t l var h is_true =
      ⊎_elim
      (λ (e : last ≡ var). absurd (separate.end_heads (n - 1) t within l (subst (λ (v : ℕ). IsHead (steps t) v) (sym e) h)))
      (λ (w : (u : ℕ) × (u < n) × ((rule : NRule) × In rule (all_rules (steps u)) × (rule.head ≡ Some var) × (body_holds S S rule ≡ true))).
      record { state = w.0; within = w.1; rule = w.2.0; inside = w.2.1; head = w.2.2; body = same_headed w.0 w.1 w.2.0 var w.2.1 w.2.2 ∙ w.2.3 })
      (of_true var (sym (same_head t l var h) ∙ is_true))

  apart : (t : ℕ) → t < n → (pair : ℕ × ℕ) → In pair (steps t).pairs → (values pair.0 && values pair.1) ≡ false
  apart t l pair i =
      let p = speak.pairs t l pair i in
      let here = In-flat_map (λ (step : StepModule). step.pairs) (steps t) pair (modules_below steps n) (in_range t l) i in
      let all = In-list_all (λ (q : ℕ × ℕ). not (S q.0 && S q.1)) pair pairs stable.apart here in
      (λ j. valued.same pair.0 p.0 j && valued.same pair.1 p.1 j) ∙ not-true (S pair.0 && S pair.1) all

  pub completes : Completes steps n values
  completes = record {
    last = at_last;
    ends = ends;
    opens = opens;
    bodies = λ t l def m. valued.bodies t l def m ∙ sym (same_body t l def m);
    met = met;
    given = given;
    supported = supported;
    pairs = apart;
  }

pub stable_complete : StableSetsComplete
stable_complete = completes

pub stable_satisfy : StableSetsSatisfy
stable_satisfy steps n plain S values settled separate speak some stable valued =
    to_clauses steps n values settled some (completes steps n plain S values settled separate speak some stable valued)
