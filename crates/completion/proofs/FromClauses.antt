-- What makes the clauses of settled modules true satisfies the completion.
use Rattle.std.proofs.Common.{◌≡◌, ℕ, suc, ◌-◌, ◌<◌, Bool, true, false, not, ◌&&◌, ◌||◌, List, [], ◌∷◌, map, refl, sym, ap, subst, ◌∙◌, inl, inr, ⊎_elim, arith}
use Rattle.std.specs.Prelude.{Option, Some, None}
use Rattle.std.specs.List.{list_all, flat_map}
use Rattle.std.proofs.lemmas.Bool.{cases_Bool, or_cases, not-true, false≢true}
use Rattle.tel_base.specs.declared.literals.Lit.{Lit}
use Rattle.tel_base.specs.Literals.{lit_of, negate, negations}
use Rattle.tel_base.specs.Members.{In}
use Rattle.tel_base.proofs.Members.{In-list_all, list_all-from_In, In-append_left, In-append_right, In-map, In-map_from, In-flat_map, any_found, any_from}
use Rattle.normal_program.specs.declared.rules.NRule.{NRule}
use Rattle.normal_program.specs.declared.shapes.NodeRule.{NodeRule}
use Rattle.normal_program.specs.declared.modules.BodyHead.{BodyHead}
use Rattle.normal_program.specs.declared.modules.BodyHead.TheVariants.{Normal, Nothing, NextNormal}
use Rattle.normal_program.specs.declared.modules.BodyDef.{BodyDef}
use Rattle.normal_program.specs.declared.modules.StepModule.{StepModule}
use Rattle.normal_program.specs.Shapes.{shape_bodies, node_rule, rules_of_node}
use Rattle.normal_program.specs.Grounds.{all_rules}
use Rattle.normal_program.specs.StableSets.{Set, lits_hold, body_holds, shape_holds}
use Rattle.normal_program.specs.ModuleClauses.{no_lit, listed, use_clauses, body_clauses, close_clauses, head_clauses, later_clauses, later_rules, bodies_with, support_clause, pair_clause, open_clause, stated_clauses}
use Rattle.completion.specs.Completions.{lit_true, clause_true, AreSettled, IsHead, HasSupport, Completes}
use Rattle.completion.specs.Laws.{SatisfiesClauses}
use Rattle.completion.proofs.ListedClauses.{listed_means}
use Rattle.completion.proofs.ShapeValues.{shape_value, then_one, then_some, then_x, not_both, same_bits}
use Rattle.completion.proofs.Sets.{lits-body}
use Rattle.completion.proofs.RuleLists.{some_is, own_none, rule_kind, node_head, not_none, source, constraint}
use Rattle.completion.proofs.StatedClauses.{of_close, of_body, of_later, of_support, of_node, of_pair, of_open, from_bodies_with}

-- a clause of one negation
pub alone_false : (S : Set) (v : ℕ) → clause_true S (no_lit v ∷ []) ≡ true → S v ≡ false
alone_false S v h = ⊎_elim (λ (n : not (S v) ≡ true). not-true (S v) n) (λ f. absurd (false≢true f)) (or_cases (not (S v)) false h)

-- a clause of a variable and the negation of a true one
then_head : (S : Set) (head body : ℕ) → S body ≡ true → clause_true S (lit_of head ∷ no_lit body ∷ []) ≡ true → S head ≡ true
then_head S head body t h =
    ⊎_elim (λ (a : S head ≡ true). a) (λ r. ⊎_elim (λ (n : not (S body) ≡ true). absurd (false≢true (sym (not-true (S body) n) ∙ t))) (λ f. absurd (false≢true f)) (or_cases (not (S body)) false r)) (or_cases (S head) (not (S body) || false) h)

pub then_false : (S : Set) (v w : ℕ) → S v ≡ true → clause_true S (no_lit v ∷ no_lit w ∷ []) ≡ true → S w ≡ false
then_false S v w t h = not-true (S w) (then_one S v (no_lit w) t h)

module _ (steps : ℕ → StepModule) (n : ℕ) (S : Set) (settled : AreSettled steps n) (some : 0 < n) (clauses : SatisfiesClauses steps n S) (last : S (steps (n - 1)).end ≡ true) where
  stated : (t : ℕ) → t < n → (clause : List Lit) → In clause (stated_clauses (steps t)) → clause_true S clause ≡ true
  stated t l clause i = listed_means S clause (λ c m. clauses t l c (In-flat_map listed clause c (stated_clauses (steps t)) i m))

  in_close : (e : ℕ) (close : Option Lit) → close ≡ Some (no_lit e) → In (no_lit e ∷ []) (close_clauses close)
  in_close e close is = subst (λ o. In (no_lit e ∷ []) (close_clauses o)) (sym is) (inl refl)

  ends : (t : ℕ) → t < n - 1 → S (steps t).end ≡ false
  ends t l =
      let next : suc t < n = omega (arith, l, some) in
      let is = (settled.each (suc t) next).close in
      alone_false S (steps t).end (stated (suc t) next (no_lit (steps t).end ∷ []) (of_close (steps (suc t)) (no_lit (steps t).end ∷ []) (in_close (steps t).end (steps (suc t)).close is)))

  opens : (var : ℕ) → In var (steps (n - 1)).open_vars → S var ≡ false
  opens var m =
      let within : n - 1 < n = omega (arith, some) in
      then_false S (steps (n - 1)).end var last (stated (n - 1) within (open_clause (steps (n - 1)).end var) (of_open (steps (n - 1)) var m))

  body_value : (t : ℕ) → t < n → (def : BodyDef) → In def (steps t).bodies → S def.var ≡ lits_hold S S def.lits
  body_value t l def m =
      let units = map (λ (k : Lit). no_lit def.var ∷ k ∷ []) def.lits in
      let more = use_clauses (steps t).end def.var def.head in
      let whole : List Lit = lit_of def.var ∷ negations def.lits in
      let given : (clause : List Lit) → In clause (body_clauses (steps t).end def) → clause_true S clause ≡ true = λ clause i. stated t l clause (of_body (steps t) def clause m i) in
      same_bits (S def.var) (list_all (lit_true S) def.lits)
      (λ b. list_all-from_In (lit_true S) def.lits (λ lit i. then_one S def.var lit b (given (no_lit def.var ∷ lit ∷ []) (In-append_left (no_lit def.var ∷ lit ∷ []) units (whole ∷ more) (In-map (λ (k : Lit). no_lit def.var ∷ k ∷ []) lit def.lits i)))))
      (λ all. then_x S def.var (negations def.lits) (λ lit i t2. let w = In-map_from negate lit def.lits i in not_both S w.0 (In-list_all (lit_true S) w.0 def.lits all w.1) lit w.2 t2) (given whole (In-append_right whole units (whole ∷ more) (inl refl))))

  of_use : (t : ℕ) → t < n → (def : BodyDef) → In def (steps t).bodies → (kind : BodyHead) → def.head ≡ kind → (clause : List Lit) → In clause (use_clauses (steps t).end def.var kind) → clause_true S clause ≡ true
  of_use t l def m kind is clause i =
      let units = map (λ (k : Lit). no_lit def.var ∷ k ∷ []) def.lits in
      let whole : List Lit = lit_of def.var ∷ negations def.lits in
      stated t l clause (of_body (steps t) def clause m (In-append_right clause units (whole ∷ use_clauses (steps t).end def.var def.head) (inr (subst (λ (k : BodyHead). In clause (use_clauses (steps t).end def.var k)) (sym is) i))))

  met : (t : ℕ) → t < n → (rule : NRule) → In rule (all_rules (steps t)) → rule.head ≡ None → body_holds S S rule ≡ false
  met t l rule i is =
      ⊎_elim
      (λ (m : In rule (steps t).rules).
      let c = constraint steps t rule (settled.each t l) m is in
      let def = c.0 in
      let value = body_value t l def c.1 in
      ⊎_elim
      (λ (w : (def.head ≡ Nothing) × ((X : Set) → body_holds X X rule ≡ lits_hold X X def.lits)).
      w.1 S ∙ (sym value ∙ alone_false S def.var (of_use t l def c.1 Nothing w.0 (no_lit def.var ∷ []) (inl refl))))
      (λ (w : (def.head ≡ NextNormal) × ((X : Set) → body_holds X X rule ≡ (lits_hold X X def.lits && X (steps t).end))).
      w.1 S ∙ ⊎_elim
      (λ (b : S def.var ≡ true). (λ j. lits_hold S S def.lits && then_false S def.var (steps t).end b (of_use t l def c.1 NextNormal w.0 (no_lit def.var ∷ no_lit (steps t).end ∷ []) (inl refl)) j) ∙ and_false (lits_hold S S def.lits))
      (λ (b : S def.var ≡ false). λ j. (sym value ∙ b) j && S (steps t).end)
      (cases_Bool (S def.var)))
      (own_none (steps t).end def.var def.lits def.head rule c.2 is))
      (λ (k : (node : NodeRule) × In node (steps t).nodes × ((lits : List Lit) × In lits (shape_bodies node.shape) × (node_rule node.var lits ≡ rule))).
      absurd (not_none k.0.var (ap (λ (r : NRule). r.head) k.2.2 ∙ is)))
      (rule_kind (steps t) rule i)
    where
      and_false : (b : Bool) → (b && false) ≡ false
      and_false true = refl
      and_false false = refl

  node_value : (t : ℕ) → t < n → (node : NodeRule) → In node (steps t).nodes → S node.var ≡ shape_holds S S node.shape
  node_value t l node m = shape_value S node.var node.shape (λ clause i. stated t l clause (of_node (steps t) node clause m i))

  in_later : (rule : NRule) (head body : ℕ) → rule.choice ≡ false → rule.head ≡ Some head → rule.body ≡ Some body → In (lit_of head ∷ no_lit body ∷ []) (later_clauses rule)
  in_later rule head body c h b = subst (λ cs. In (lit_of head ∷ no_lit body ∷ []) cs) (λ i. head_clauses (sym c i) (sym h i) (sym b i)) (inl refl)

  given : (t : ℕ) → t < n → (rule : NRule) (head : ℕ) → In rule (all_rules (steps t)) → rule.choice ≡ false → rule.head ≡ Some head → body_holds S S rule ≡ true → S head ≡ true
  given t l rule head i normal is body =
      ⊎_elim
      (λ (m : In rule (steps t).rules).
      let s = source steps n t rule head l (settled.each t l) m is in
      let b : S s.def.var ≡ true = body_value s.state s.within s.def s.inside ∙ (sym (s.holds S) ∙ body) in
      ⊎_elim
      (λ (own : (s.state ≡ t) × (s.def.head ≡ Normal head)).
      then_head S head s.def.var b (of_use s.state s.within s.def s.inside (Normal head) own.1 (lit_of head ∷ no_lit s.def.var ∷ []) (inl refl)))
      (λ (later : In rule (later_rules (steps t))).
      then_head S head s.def.var b (stated t l (lit_of head ∷ no_lit s.def.var ∷ []) (of_later (steps t) rule (lit_of head ∷ no_lit s.def.var ∷ []) later (in_later rule head s.def.var normal is s.body))))
      (s.normal normal))
      (λ (k : (node : NodeRule) × In node (steps t).nodes × ((lits : List Lit) × In lits (shape_bodies node.shape) × (node_rule node.var lits ≡ rule))).
      let node = k.0 in
      let holds : lits_hold S S k.2.0 ≡ true = sym (lits-body S S k.2.0) ∙ (ap (λ (r : NRule). body_holds S S r) k.2.2 ∙ body) in
      subst (λ (v : ℕ). S v ≡ true) (node_head node.var head k.2.0 rule k.2.2 is) (node_value t l node k.1 ∙ any_from (lits_hold S S) (shape_bodies node.shape) k.2.0 k.2.1 holds))
      (rule_kind (steps t) rule i)

  supported : (t : ℕ) → t < n → (var : ℕ) → IsHead (steps t) var → S var ≡ true → HasSupport steps n S var
  supported t l var h is_true =
      ⊎_elim
      (λ (a : In var (steps t).atoms).
      let bodies = bodies_with (steps t).rules var in
      let w = any_found (lit_true S) (map lit_of bodies) (then_some S var (map lit_of bodies) is_true (stated t l (support_clause (steps t).rules var) (of_support (steps t) var a))) in
      let v = In-map_from lit_of w.0 bodies w.1 in
      let r = from_bodies_with (steps t).rules var v.0 v.1 in
      let s = source steps n t r.0 var l (settled.each t l) r.1 r.2 in
      let b : S v.0 ≡ true = ap (lit_true S) v.2 ∙ w.2 in
      let one : s.def.var ≡ v.0 = some_is s.def.var v.0 (sym s.body ∙ r.3) in
      record {
        state = t;
        within = l;
        rule = r.0;
        inside = In-append_left r.0 (steps t).rules (flat_map rules_of_node (steps t).nodes) r.1;
        head = r.2;
        body = s.holds S ∙ (sym (body_value s.state s.within s.def s.inside) ∙ (ap S one ∙ b));
      })
      (λ (k : (node : NodeRule) × In node (steps t).nodes × (node.var ≡ var)).
      let node = k.0 in
      let w = any_found (lits_hold S S) (shape_bodies node.shape) (sym (node_value t l node k.1) ∙ (ap S k.2 ∙ is_true)) in
      let rule = node_rule node.var w.0 in
      record {
        state = t;
        within = l;
        rule = rule;
        inside = In-append_right rule (steps t).rules (flat_map rules_of_node (steps t).nodes) (In-flat_map rules_of_node node rule (steps t).nodes k.1 (In-map (node_rule node.var) w.0 (shape_bodies node.shape) w.1));
        head = ap Some k.2;
        body = lits-body S S w.0 ∙ w.2;
      })
      h

  apart : (t : ℕ) → t < n → (pair : ℕ × ℕ) → In pair (steps t).pairs → (S pair.0 && S pair.1) ≡ false
  apart t l pair m =
      ⊎_elim
      (λ (a : S pair.0 ≡ true). (λ i. a i && S pair.1) ∙ then_false S pair.0 pair.1 a (stated t l (pair_clause pair) (of_pair (steps t) pair m)))
      (λ (f : S pair.0 ≡ false). λ i. f i && S pair.1)
      (cases_Bool (S pair.0))

  pub from_clauses : Completes steps n S
  from_clauses = record {
    last = last;
    ends = ends;
    opens = opens;
    bodies = body_value;
    met = met;
    given = given;
    supported = supported;
    pairs = apart;
  }
