-- Lengths made of settled modules are composed.
use Rattle.std.proofs.Common.{◌≡◌, ℕ, ◌-◌, ◌≤◌, ◌<◌, Bool, true, not, List, map, refl, sym, ap, subst, ◌∙◌, inl, inr, ⊎_elim, arith}
use Rattle.std.specs.Prelude.{Some, None, ◌==◌}
use Rattle.std.specs.List.{list_any, flat_map, filter, range_with_len}
use Rattle.std.proofs.lemmas.Bool.{cases_Bool, or_left, or_right, or_cases, not_from_false, eqb-true, eq-eqb, false≢true}
use Rattle.std.proofs.lemmas.Option.{none-some}
use Rattle.std.proofs.lemmas.List.Folds.{flat_map-map}
use Rattle.tel_base.specs.declared.literals.Lit.{Lit}
use Rattle.tel_base.proofs.Members.{In, In-append_right, In-map, In-map_from, In-flat_map, In-flat_map_from, In-filter_from, any_found, any_from}
use Rattle.normal_program.specs.declared.rules.NRule.{NRule}
use Rattle.normal_program.specs.declared.shapes.NodeRule.{NodeRule}
use Rattle.normal_program.specs.declared.modules.BodyDef.{BodyDef}
use Rattle.normal_program.specs.declared.modules.ModuleParts.{ModuleParts}
use Rattle.normal_program.specs.declared.modules.StepModule.{StepModule}
use Rattle.normal_program.specs.Rules.{positives, negatives}
use Rattle.normal_program.specs.Shapes.{shape_bodies, node_rule, rules_of_node}
use Rattle.normal_program.specs.Grounds.{all_rules, parts_of, heads_of, is_head}
use Rattle.normal_program.specs.StableSets.{Set, IsStable}
use Rattle.completion.specs.Completions.{AreSettled, IsHead}
use Rattle.completion.specs.Lengths.{modules_below, pairs_of_modules, IsStableOf, AreApart, ArePlain}
use Rattle.completion.proofs.Ranges.{range_cases, range_from}
use Rattle.completion.proofs.RuleLists.{some_is, rule_kind, node_head, source}
use Rattle.completion.proofs.StableSets.{stable_satisfy}
use Rattle.search_laws.specs.Lengths.{length_of, rules_of, pairs_of, bodies_of, is_plain, IsStableAt}
use Rattle.search_laws.specs.Laws.{AreComposed, ModulesAreComposed, StableSetsAgree}

-- ---- what is in a length

below_from : {A : Type 0} (f : StepModule → List A) (steps : ℕ → StepModule) (n : ℕ) (a : A) → In a (flat_map f (modules_below steps n)) → (t : ℕ) × (t < n) × In a (f (steps t))
below_from f steps n a i =
    let w = In-flat_map_from f a (modules_below steps n) i in
    let t = In-map_from steps w.0 (range_with_len 0 n) w.1 in
    (t.0, omega (arith, (range_cases n 0 t.0 t.1).1), subst (λ (step : StepModule). In a (f step)) (sym t.2) w.2)

below_to : {A : Type 0} (f : StepModule → List A) (steps : ℕ → StepModule) (n t : ℕ) (a : A) → t < n → In a (f (steps t)) → In a (flat_map f (modules_below steps n))
below_to f steps n t a l i =
    In-flat_map f (steps t) a (modules_below steps n) (In-map steps t (range_with_len 0 n) (range_from n 0 t (omega arith) (omega (arith, l)))) i

bodies_same : (steps : ℕ → StepModule) (n : ℕ) → bodies_of (length_of steps n) ≡ flat_map (λ (step : StepModule). step.bodies) (modules_below steps n)
bodies_same steps n = flat_map-map (λ (parts : ModuleParts). parts.bodies) parts_of (modules_below steps n)

pairs_same : (steps : ℕ → StepModule) (n : ℕ) → pairs_of (length_of steps n) ≡ pairs_of_modules (modules_below steps n)
pairs_same steps n = flat_map-map (λ (parts : ModuleParts). parts.pairs) parts_of (modules_below steps n)

pub body_from : (steps : ℕ → StepModule) (n : ℕ) (def : BodyDef) → In def (bodies_of (length_of steps n)) → (t : ℕ) × (t < n) × In def (steps t).bodies
body_from steps n def i = below_from (λ (step : StepModule). step.bodies) steps n def (subst (λ (ds : List BodyDef). In def ds) (bodies_same steps n) i)

pub body_to : (steps : ℕ → StepModule) (n t : ℕ) (def : BodyDef) → t < n → In def (steps t).bodies → In def (bodies_of (length_of steps n))
body_to steps n t def l i = subst (λ (ds : List BodyDef). In def ds) (sym (bodies_same steps n)) (below_to (λ (step : StepModule). step.bodies) steps n t def l i)

pub pair_from : (steps : ℕ → StepModule) (n : ℕ) (pair : ℕ × ℕ) → In pair (pairs_of (length_of steps n)) → (t : ℕ) × (t < n) × In pair (steps t).pairs
pair_from steps n pair i = below_from (λ (step : StepModule). step.pairs) steps n pair (subst (λ (ps : List (ℕ × ℕ)). In pair ps) (pairs_same steps n) i)

pub rule_from : (steps : ℕ → StepModule) (n : ℕ) (rule : NRule) → In rule (length_of steps n).ground.rules → (t : ℕ) × (t < n) × In rule (all_rules (steps t))
rule_from steps n rule i = below_from all_rules steps n rule i

pub rule_to : (steps : ℕ → StepModule) (n t : ℕ) (rule : NRule) → t < n → In rule (all_rules (steps t)) → In rule (length_of steps n).ground.rules
rule_to steps n t rule l i = below_to all_rules steps n t rule l i

pub head_to : (steps : ℕ → StepModule) (n t var : ℕ) → t < n → IsHead (steps t) var → is_head (length_of steps n).ground.modules var ≡ true
head_to steps n t var l h =
    let parts = parts_of (steps t) in
    let there : In parts (map parts_of (modules_below steps n)) = In-map parts_of (steps t) (modules_below steps n) (In-map steps t (range_with_len 0 n) (range_from n 0 t (omega arith) (omega (arith, l)))) in
    let of_atom = list_any (λ (atom : ℕ). atom == var) parts.atoms in
    let of_node = list_any (λ (node : NodeRule). node.var == var) parts.nodes in
    any_from (heads_of var) (map parts_of (modules_below steps n)) parts there (⊎_elim (λ (m : In var (steps t).atoms). or_left of_atom of_node (any_from (λ (atom : ℕ). atom == var) parts.atoms var m (eq-eqb var var refl))) (λ (k : (node : NodeRule) × In node (steps t).nodes × (node.var ≡ var)). or_right of_atom of_node (any_from (λ (node : NodeRule). node.var == var) parts.nodes k.0 k.1 (eq-eqb k.0.var var k.2))) h)

pub head_from : (steps : ℕ → StepModule) (n var : ℕ) → is_head (length_of steps n).ground.modules var ≡ true → (t : ℕ) × (t < n) × IsHead (steps t) var
head_from steps n var h =
    let w = any_found (heads_of var) (map parts_of (modules_below steps n)) h in
    let s = In-map_from parts_of w.0 (modules_below steps n) w.1 in
    let t = In-map_from steps s.0 (range_with_len 0 n) s.1 in
    let at : parts_of (steps t.0) ≡ w.0 = ap parts_of t.2 ∙ s.2 in
    let there : heads_of var (parts_of (steps t.0)) ≡ true = ap (heads_of var) at ∙ w.2 in
    let parts = parts_of (steps t.0) in (
      t.0,
      omega (arith, (range_cases n 0 t.0 t.1).1),
      ⊎_elim (λ (a : list_any (λ (atom : ℕ). atom == var) parts.atoms ≡ true).
          let x = any_found (λ (atom : ℕ). atom == var) parts.atoms a in inl (subst (λ (v : ℕ). In v (steps t.0).atoms) (eqb-true x.0 var x.2) x.1)) (λ (b : list_any (λ (node : NodeRule). node.var == var) parts.nodes ≡ true).
          let x = any_found (λ (node : NodeRule). node.var == var) parts.nodes b in inr (x.0, x.1, eqb-true x.0.var var x.2)) (or_cases (list_any (λ (atom : ℕ). atom == var) parts.atoms) (list_any (λ (node : NodeRule). node.var == var) parts.nodes) there),
    )

pub plain_of : (steps : ℕ → StepModule) (n : ℕ) (plain : Set) → ArePlain steps n plain → (var : ℕ) → plain var ≡ true → is_plain (length_of steps n) var ≡ true
plain_of steps n plain speak var p =
    let test = list_any (λ (def : BodyDef). def.var == var) (bodies_of (length_of steps n)) in
    not_from_false test (⊎_elim (λ (t : test ≡ true).
    let w = any_found (λ (def : BodyDef). def.var == var) (bodies_of (length_of steps n)) t in
    let at = body_from steps n w.0 w.1 in
    absurd (false≢true (sym (speak.no_body at.0 at.1 w.0 at.2) ∙ (ap plain (eqb-true w.0.var var w.2) ∙ p)))) (λ f. f) (cases_Bool test))

pub to_stable : (steps : ℕ → StepModule) (n : ℕ) (S : Set) → IsStableAt (length_of steps n) S → IsStableOf steps n S
to_stable steps n S stable = subst (λ (pairs : List (ℕ × ℕ)). IsStable (rules_of (length_of steps n)) pairs S) (pairs_same steps n) stable

pub from_stable : (steps : ℕ → StepModule) (n : ℕ) (S : Set) → IsStableOf steps n S → IsStableAt (length_of steps n) S
from_stable steps n S stable = subst (λ (pairs : List (ℕ × ℕ)). IsStable (rules_of (length_of steps n)) pairs S) (sym (pairs_same steps n)) stable

pub stable_agree : StableSetsAgree
stable_agree steps n S = (from_stable steps n S, to_stable steps n S)

-- ---- composed

module _ (steps : ℕ → StepModule) (n : ℕ) (plain : Set) (some : 0 < n) (settled : AreSettled steps n) (separate : AreApart steps n) (speak : ArePlain steps n plain) where
  pub head_of : (t : ℕ) → t < n → (rule : NRule) (var : ℕ) → In rule (all_rules (steps t)) → rule.head ≡ Some var → IsHead (steps t) var
  head_of t l rule var i is =
      ⊎_elim (λ m. inl ((settled.each t l).heads rule var m is)) (λ (k : (node : NodeRule) × In node (steps t).nodes × ((lits : List Lit) × In lits (shape_bodies node.shape) × (node_rule node.var lits ≡ rule))).
      inr (k.0, k.1, node_head k.0.var var k.2.0 rule k.2.2 is)) (rule_kind (steps t) rule i)

  -- a rule with a head of a state is of that state
  of_state : (t u : ℕ) → t < n → u < n → (rule : NRule) (head : ℕ) → In rule (all_rules (steps t)) → rule.head ≡ Some head → IsHead (steps u) head → In rule (all_rules (steps u))
  of_state t u l below rule head i is inside =
      ⊎_elim (λ (m : In rule (steps t).rules).
      let atom = (settled.each t l).heads rule head m is in
      ⊎_elim (λ (a : In head (steps u).atoms). subst (λ (s : ℕ). In rule (all_rules (steps s))) (settled.atoms t u l below head atom a) i) (λ (k : (node : NodeRule) × In node (steps u).nodes × (node.var ≡ head)). absurd (settled.apart t u l below head k.0 atom k.1 (sym k.2))) inside) (λ (k : (node : NodeRule) × In node (steps t).nodes × ((lits : List Lit) × In lits (shape_bodies node.shape) × (node_rule node.var lits ≡ rule))).
      let var = node_head k.0.var head k.2.0 rule k.2.2 is in
      ⊎_elim (λ (a : In head (steps u).atoms). absurd (settled.apart u t below l head k.0 a k.1 (sym var))) (λ (o : (node : NodeRule) × In node (steps u).nodes × (node.var ≡ head)).
      let same = settled.nodes t u l below k.0 o.0 k.1 o.1 (var ∙ sym o.2) in
      let of_node : In rule (rules_of_node k.0) = subst (λ (r : NRule). In r (rules_of_node k.0)) k.2.2 (In-map (node_rule k.0.var) k.2.0 (shape_bodies k.0.shape) k.2.1) in
      In-append_right rule (steps u).rules (flat_map rules_of_node (steps u).nodes) (In-flat_map rules_of_node o.0 rule (steps u).nodes o.1 (subst (λ (node : NodeRule). In rule (rules_of_node node)) same of_node))) inside) (rule_kind (steps t) rule i)

  -- a rule without a Body variable is of a node
  of_node : (t : ℕ) → t < n → (rule : NRule) (head : ℕ) → In rule (all_rules (steps t)) → rule.head ≡ Some head → rule.body ≡ None → (node : NodeRule) × In node (steps t).nodes × ((lits : List Lit) × In lits (shape_bodies node.shape) × (node_rule node.var lits ≡ rule))
  of_node t l rule head i is at =
      ⊎_elim (λ (m : In rule (steps t).rules). let s = source steps n t rule head l (settled.each t l) m is in absurd (none-some s.def.var (sym at ∙ s.body))) (λ k. k) (rule_kind (steps t) rule i)

  plain_lits : (rule : NRule) (head : ℕ) → In rule (length_of steps n).ground.rules → rule.head ≡ Some head → rule.body ≡ None → (lits : List Lit) × (positives lits ≡ rule.pos) × (negatives lits ≡ rule.neg) × ((lit : Lit) → In lit lits → plain lit.var ≡ true)
  plain_lits rule head i is at =
      let r = rule_from steps n rule i in
      let k = of_node r.0 r.1 rule head r.2 is at in
      (k.2.0, ap (λ (x : NRule). x.pos) k.2.2, ap (λ (x : NRule). x.neg) k.2.2, λ lit j. speak.shapes r.0 r.1 k.0 k.2.0 lit k.1 k.2.1 j)

  lit_plain : (test : Lit → Bool) (lits : List Lit) (var : ℕ) → ((lit : Lit) → In lit lits → plain lit.var ≡ true) → In var (map (λ (lit : Lit). lit.var) (filter test lits)) → is_plain (length_of steps n) var ≡ true
  lit_plain test lits var all i =
      let w = In-map_from (λ (lit : Lit). lit.var) var (filter test lits) i in
      plain_of steps n plain speak var (sym (ap plain w.2) ∙ all w.0 (In-filter_from test w.0 lits w.1).0)

  at : (k : ℕ) → 0 < k → k ≤ n → k - 1 < n
  at k a b = omega (arith, a, b)

  pub composes : AreComposed (length_of steps) n
  composes = record {
    some = some;
    composed = λ k a b rule head i is inside.
        let r = rule_from steps n rule i in
        let h = head_from steps k head inside in
        rule_to steps k h.0 rule h.1 (of_state r.0 h.0 r.1 (omega (arith, h.1, b)) rule head r.2 is h.2);
    heads = λ rule head i is. let r = rule_from steps n rule i in head_to steps n r.0 head r.1 (head_of r.0 r.1 rule head r.2 is);
    named = λ rule head var i is body.
        let r = rule_from steps n rule i in
        ⊎_elim (λ (m : In rule (steps r.0).rules).
        let s = source steps n r.0 rule head r.1 (settled.each r.0 r.1) m is in
        (s.def, body_to steps n s.state s.def s.within s.inside, some_is s.def.var var (sym s.body ∙ body), s.holds)) (λ (k : (node : NodeRule) × In node (steps r.0).nodes × ((lits : List Lit) × In lits (shape_bodies node.shape) × (node_rule node.var lits ≡ rule))).
        absurd (none-some var (ap (λ (x : NRule). x.body) k.2.2 ∙ body))) (rule_kind (steps r.0) rule r.2);
    one_body = λ def other i j e.
        let a = body_from steps n def i in
        let b = body_from steps n other j in
        ap (λ (d : BodyDef). d.lits) (separate.bodies a.0 b.0 a.1 b.1 def other a.2 b.2 e);
    plain_heads = λ k var a b inside. let h = head_from steps k var inside in plain_of steps n plain speak var (speak.heads h.0 (omega (arith, h.1, b)) var h.2);
    plain_pos = λ rule head var i is none m. let p = plain_lits rule head i is none in lit_plain (λ (lit : Lit). lit.positive) p.0 var p.3 (subst (λ (vs : List ℕ). In var vs) (sym p.1) m);
    plain_neg = λ rule head var i is none m. let p = plain_lits rule head i is none in lit_plain (λ (lit : Lit). not lit.positive) p.0 var p.3 (subst (λ (vs : List ℕ). In var vs) (sym p.2) m);
    visible_heads = λ var i.
        let w = In-flat_map_from (λ (t : ℕ). (steps t).atoms) var (range_with_len 0 n) i in
        head_to steps n w.0 var (omega (arith, (range_cases n 0 w.0 w.1).1)) (inl w.2);
    plain_end = λ k a b. plain_of steps n plain speak (steps (k - 1)).end (speak.ends (k - 1) (at k a b));
    ends_no_heads = λ j k a b c d.
        let test = is_head (length_of steps j).ground.modules (steps (k - 1)).end in
        ⊎_elim (λ (t : test ≡ true). let h = head_from steps j (steps (k - 1)).end t in absurd (separate.end_heads (k - 1) h.0 (at k c d) (omega (arith, h.1, b)) h.2)) (λ f. f) (cases_Bool test);
    ends_differ = λ k a b e. let same = separate.ends (k - 1) (n - 1) (omega (arith, a, b)) (omega (arith, some)) e in omega (arith, same, a, b);
    completed = λ S values stands k a b clause i.
        (stable_satisfy steps n plain S values settled separate speak some (to_stable steps n S stands.stable) (record {
          same = λ var p. stands.valued.same var (plain_of steps n plain speak var p);
          bodies = λ t l def m. stands.valued.bodies def (body_to steps n t def l m);
        })).0 (k - 1) (at k a b) clause i;
  }

pub modules_composed : ModulesAreComposed
modules_composed = composes
