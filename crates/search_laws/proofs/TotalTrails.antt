-- The true variables of a total trail that makes all clauses true.
use Rattle.std.proofs.Common.{◌≡◌, ℕ, ◌-◌, ◌≤◌, ◌<◌, Bool, true, false, not, ◌&&◌, ◌||◌, List, [], ◌∷◌, ◌++◌, map, refl, sym, ap, subst, ◌∙◌, inl, inr, ⊎_elim, arith}
use Rattle.std.specs.Prelude.{Option, Some, None, is_some, ◌==◌}
use Rattle.std.specs.List.{list_all, list_any}
use Rattle.std.proofs.lemmas.Bool.{and_parts, and_from, and_right, cases_Bool, cases_lt, or_left, or_right, or_cases, not_from_true, not_from_false, not-true, eq-eqb, eqb-true, false≢true}
use Rattle.tel_base.specs.declared.literals.Lit.{Lit}
use Rattle.tel_base.specs.Literals.{lit_of}
use Rattle.tel_base.proofs.Members.{In, In-list_all, list_all-from_In, In-append_left, In-append_right, In-append_cases, In-map, In-map_from, any_found, any_from, none_found}
use Rattle.normal_program.specs.declared.rules.NRule.{NRule}
use Rattle.normal_program.specs.declared.shapes.NodeRule.{NodeRule}
use Rattle.normal_program.specs.declared.modules.BodyDef.{BodyDef}
use Rattle.normal_program.specs.declared.modules.BodyHead.TheVariants.{Nothing, NextNormal}
use Rattle.normal_program.specs.declared.modules.StepModule.{StepModule}
use Rattle.normal_program.specs.Shapes.{shape_bodies, node_rule}
use Rattle.normal_program.specs.Grounds.{all_rules, is_head}
use Rattle.normal_program.specs.StableSets.{Set, lits_hold, body_holds, keeps, is_met}
use Rattle.lit_trail.specs.declared.assignment.Entry.{Entry}
use Rattle.lit_trail.specs.declared.assignment.Spot.{Spot}
use Rattle.lit_trail.specs.Entries.{spot_in, spot_value, same_sign}
use Rattle.unfounded_sets.specs.Unfounded.{is_no, is_false, is_true, no_lit, lits_by, body_lits, is_off, head_in, IsUnfounded}
use Rattle.unfounded_sets.specs.LoopClauses.{NoneHolds}
use Rattle.completion.specs.Completions.{IsHead, Completes}
use Rattle.completion.specs.Lengths.{fact_of}
use Rattle.completion.proofs.Sets.{lits-body, keeps-from}
use Rattle.completion.proofs.RuleLists.{some_is, not_none, own_none, rule_kind, source, constraint}
use Rattle.completion.proofs.StableSets.{same_lits}
use Rattle.completion.proofs.FromClauses.{from_clauses}
use Rattle.search_laws.specs.Lengths.{length_of, rules_of, pairs_of, in_program, IsStableAt}
use Rattle.search_laws.specs.Founded.{IsUnfoundedIn, IsKnown, AreModules, true_set, IsTotalTrail, NoneIsStable, SomeIsUnstable}
use Rattle.search_laws.proofs.Programs.{lost_part}
use Rattle.search_laws.proofs.Composing.{rule_from, head_to, head_from, pair_from, head_of}
use Rattle.search_laws.proofs.Foundations.{head_found, founded_is_stable}

-- ---- values of literals

true_by : (spot : Option Spot) → is_some (spot_value true spot) ≡ true → is_no (spot_value true spot) ≡ false → is_no (spot_value false spot) ≡ true
true_by None some f = absurd (false≢true some)
true_by (Some spot) some f =
    (elim (spot.positive) as (λ (b : Bool). not (same_sign b true) ≡ false → not (same_sign b false) ≡ true) [ true ↦ λ _. refl | false ↦ λ g. absurd (false≢true (sym g)) ]) f

false_by : (spot : Option Spot) → is_no (spot_value false spot) ≡ true → is_no (spot_value true spot) ≡ false
false_by None t = absurd (false≢true t)
false_by (Some spot) t =
    (elim (spot.positive) as (λ (b : Bool). not (same_sign b false) ≡ true → not (same_sign b true) ≡ false) [ true ↦ λ _. refl | false ↦ λ g. absurd (false≢true g) ]) t

off_by : (spot : Option Spot) → is_no (spot_value true spot) ≡ true → is_no (spot_value false spot) ≡ false
off_by None t = absurd (false≢true t)
off_by (Some spot) t =
    (elim (spot.positive) as (λ (b : Bool). not (same_sign b true) ≡ true → not (same_sign b false) ≡ false) [ true ↦ λ g. absurd (false≢true g) | false ↦ λ _. refl ]) t

both_lost : (x y a b : Bool) → (a && b) ≡ false → ((x && a) && (y && b)) ≡ false
both_lost x y a b h =
    ⊎_elim (λ (t : ((x && a) && (y && b)) ≡ true).
    let p = and_parts (x && a) (y && b) t in
    absurd (false≢true (sym h ∙ and_from a b (and_parts x a p.0).1 (and_parts y b p.1).1))) (λ f. f) (cases_Bool ((x && a) && (y && b)))

met_from : (S : Set) (rule : NRule) → (rule.head ≡ None → body_holds S S rule ≡ false) → is_met S (body_holds S S rule) rule.head ≡ true
met_from S rule h =
    (elim (rule.head) as (λ (o : Option ℕ). rule.head ≡ o → is_met S (body_holds S S rule) o ≡ true) [
      | None ↦ λ is. not_from_false (body_holds S S rule) (h is)
      | Some head ↦ λ is. refl
    ]) refl

before_last : (t n : ℕ) → t < n → (t == (n - 1)) ≡ false → t < n - 1
before_last t n l f = ⊎_elim (λ (below : t < n - 1). below) (λ (over : n - 1 ≤ t). absurd (false≢true (sym f ∙ eq-eqb t (n - 1) (omega (arith, l, over))))) (cases_lt t (n - 1))

module _ (steps : ℕ → StepModule) (n : ℕ) (plain : Set) (entries : List Entry) (modules : AreModules steps n plain) (trail : IsTotalTrail steps n entries) where
  abbrev values : Set
  values = is_true entries

  abbrev S : Set
  S = true_set (length_of steps n) entries

  complete : Completes steps n values
  complete = from_clauses steps n values modules.settled modules.some trail.satisfies trail.ended

  last : n - 1 < n
  last = omega (arith, modules.some)

  of_program : (var : ℕ) → in_program (length_of steps n) var ≡ true → values var ≡ S var
  of_program var p = sym (ap (λ (b : Bool). b && values var) p)

  of_false : (var : ℕ) → values var ≡ false → values var ≡ S var
  of_false var f = f ∙ sym (ap (λ (b : Bool). in_program (length_of steps n) var && b) f ∙ and_right (in_program (length_of steps n) var) false refl)

  head_in_program : (t var : ℕ) → t < n → IsHead (steps t) var → in_program (length_of steps n) var ≡ true
  head_in_program t var l h = or_left (is_head (length_of steps n).ground.modules var) (var == (length_of steps n).ending) (head_to steps n t var l h)

  end_in_program : (var : ℕ) → (steps (n - 1)).end ≡ var → in_program (length_of steps n) var ≡ true
  end_in_program var e = or_right (is_head (length_of steps n).ground.modules var) (var == (length_of steps n).ending) (eq-eqb var (steps (n - 1)).end (sym e))

  -- a variable of which the modules speak is as true as under the trail
  known : (var : ℕ) → IsKnown steps n var → values var ≡ S var
  known var k =
      ⊎_elim (λ (h : (t : ℕ) × (t < n) × IsHead (steps t) var). of_program var (head_in_program h.0 var h.1 h.2)) (λ r. ⊎_elim (λ (e : (t : ℕ) × (t < n) × ((steps t).end ≡ var)).
      ⊎_elim (λ (same : (e.0 == (n - 1)) ≡ true). of_program var (end_in_program var (ap (λ (t : ℕ). (steps t).end) (sym (eqb-true e.0 (n - 1) same)) ∙ e.2))) (λ (f : (e.0 == (n - 1)) ≡ false).
      let before : e.0 < n - 1 = before_last e.0 n e.1 f in
      of_false var (sym (ap values e.2) ∙ complete.ends e.0 before)) (cases_Bool (e.0 == (n - 1)))) (λ (o : In var (steps (n - 1)).open_vars). of_false var (complete.opens var o)) r) k

  same_body : (t : ℕ) → t < n → (def : BodyDef) → In def (steps t).bodies → lits_hold values values def.lits ≡ lits_hold S S def.lits
  same_body t l def m = same_lits S values def.lits (λ lit i. known lit.var (modules.known.bodies t l def lit m i))

  same_end : (t : ℕ) → t < n → values (steps t).end ≡ S (steps t).end
  same_end t l = known (steps t).end (inr (inl (t, l, refl)))

  same_node : (t : ℕ) → t < n → (node : NodeRule) (lits : List Lit) (rule : NRule) → In node (steps t).nodes → In lits (shape_bodies node.shape) → node_rule node.var lits ≡ rule → body_holds values values rule ≡ body_holds S S rule
  same_node t l node lits rule m i e =
      let same = same_lits S values lits (λ lit j. known lit.var (modules.known.shapes t l node lits lit m i j)) in
      subst (λ (r : NRule). body_holds values values r ≡ body_holds S S r) e (lits-body values values lits ∙ (same ∙ sym (lits-body S S lits)))

  same_headed : (t : ℕ) → t < n → (rule : NRule) (head : ℕ) → In rule (all_rules (steps t)) → rule.head ≡ Some head → body_holds values values rule ≡ body_holds S S rule
  same_headed t l rule head i is =
      ⊎_elim (λ (m : In rule (steps t).rules).
      let s = source steps n t rule head l (modules.settled.each t l) m is in
      s.holds values ∙ (same_body s.state s.within s.def s.inside ∙ sym (s.holds S))) (λ (k : (node : NodeRule) × In node (steps t).nodes × ((lits : List Lit) × In lits (shape_bodies node.shape) × (node_rule node.var lits ≡ rule))).
      same_node t l k.0 k.2.0 rule k.1 k.2.1 k.2.2) (rule_kind (steps t) rule i)

  same_constraint : (t : ℕ) → t < n → (rule : NRule) → In rule (all_rules (steps t)) → rule.head ≡ None → body_holds values values rule ≡ body_holds S S rule
  same_constraint t l rule i is =
      ⊎_elim (λ (m : In rule (steps t).rules).
      let c = constraint steps t rule (modules.settled.each t l) m is in
      let def = c.0 in
      ⊎_elim (λ (w : (def.head ≡ Nothing) × ((X : Set) → body_holds X X rule ≡ lits_hold X X def.lits)). w.1 values ∙ (same_body t l def c.1 ∙ sym (w.1 S))) (λ (w : (def.head ≡ NextNormal) × ((X : Set) → body_holds X X rule ≡ (lits_hold X X def.lits && X (steps t).end))).
      w.1 values ∙ ((λ j. same_body t l def c.1 j && same_end t l j) ∙ sym (w.1 S))) (own_none (steps t).end def.var def.lits def.head rule c.2 is)) (λ (k : (node : NodeRule) × In node (steps t).nodes × ((lits : List Lit) × In lits (shape_bodies node.shape) × (node_rule node.var lits ≡ rule))).
      absurd (not_none k.0.var (ap (λ (r : NRule). r.head) k.2.2 ∙ is))) (rule_kind (steps t) rule i)

  -- ---- a model

  rule_kept : (rule : NRule) → In rule (rules_of (length_of steps n)) → keeps S S rule ≡ true
  rule_kept rule i =
      keeps-from S S rule (λ head is choice body.
      ⊎_elim (λ (e : fact_of (steps (n - 1)).end ≡ rule).
      let at : (steps (n - 1)).end ≡ head = some_is (steps (n - 1)).end head (ap (λ (r : NRule). r.head) e ∙ is) in
      sym (of_program head (end_in_program head at)) ∙ (sym (ap values at) ∙ trail.ended)) (λ m.
      let r = rule_from steps n rule m in
      ⊎_elim (λ (c : rule.choice ≡ true). choice c) (λ (c : rule.choice ≡ false).
      sym (of_program head (head_in_program r.0 head r.1 (head_of steps n plain modules.some modules.settled modules.separate modules.speak r.0 r.1 rule head r.2 is))) ∙ complete.given r.0 r.1 rule head r.2 c is (same_headed r.0 r.1 rule head r.2 is ∙ body)) (cases_Bool rule.choice)) i)

  rule_met : (rule : NRule) → In rule (rules_of (length_of steps n)) → is_met S (body_holds S S rule) rule.head ≡ true
  rule_met rule i =
      met_from S rule (λ is. ⊎_elim (λ (e : fact_of (steps (n - 1)).end ≡ rule). absurd (not_none (steps (n - 1)).end (ap (λ (r : NRule). r.head) e ∙ is))) (λ m.
      let r = rule_from steps n rule m in
      sym (same_constraint r.0 r.1 rule r.2 is) ∙ complete.met r.0 r.1 rule r.2 is) i)

  pair_apart : (pair : ℕ × ℕ) → In pair (pairs_of (length_of steps n)) → not (S pair.0 && S pair.1) ≡ true
  pair_apart pair i =
      let p = pair_from steps n pair i in
      not_from_false (S pair.0 && S pair.1) (both_lost (in_program (length_of steps n) pair.0) (in_program (length_of steps n) pair.1) (values pair.0) (values pair.1) (complete.pairs p.0 p.1 pair p.2))

  -- ---- bodies under the trail

  -- where no literal of a body is false, it holds
  on_body : (rule : NRule) (head : ℕ) → In rule (length_of steps n).ground.rules → rule.head ≡ Some head → is_off entries rule ≡ false → body_holds S S rule ≡ true
  on_body rule head i is on =
      let r = rule_from steps n rule i in
      ⊎_elim (λ (m : In rule (steps r.0).rules).
      let s = source steps n r.0 rule head r.1 (modules.settled.each r.0 r.1) m is in
      let lits : body_lits rule ≡ lit_of s.def.var ∷ [] = ap (λ (o : Option ℕ). lits_by o rule.pos rule.neg) s.body in
      let there : In (lit_of s.def.var) (body_lits rule) = subst (λ (ls : List Lit). In (lit_of s.def.var) ls) (sym lits) (inl refl) in
      let holds : values s.def.var ≡ true = true_by (spot_in entries s.def.var) (trail.total rule head (lit_of s.def.var) i is there) (none_found (is_false entries) (body_lits rule) (lit_of s.def.var) on there) in
      s.holds S ∙ (sym (same_body s.state s.within s.def s.inside) ∙ (sym (complete.bodies s.state s.within s.def s.inside) ∙ holds))) (λ (k : (node : NodeRule) × In node (steps r.0).nodes × ((lits : List Lit) × In lits (shape_bodies node.shape) × (node_rule node.var lits ≡ rule))).
      let lits : body_lits rule ≡ (map lit_of rule.pos ++ map no_lit rule.neg) = ap (λ (o : Option ℕ). lits_by o rule.pos rule.neg) (sym (ap (λ (x : NRule). x.body) k.2.2)) in
      let there : (lit : Lit) → In lit (map lit_of rule.pos ++ map no_lit rule.neg) → In lit (body_lits rule) = λ lit j. subst (λ (ls : List Lit). In lit ls) (sym lits) j in
      let pos : list_all values rule.pos ≡ true = list_all-from_In values rule.pos (λ v j.
      let in_body = there (lit_of v) (In-append_left (lit_of v) (map lit_of rule.pos) (map no_lit rule.neg) (In-map lit_of v rule.pos j)) in
      true_by (spot_in entries v) (trail.total rule head (lit_of v) i is in_body) (none_found (is_false entries) (body_lits rule) (lit_of v) on in_body)) in
      let neg : list_all (λ v. not (values v)) rule.neg ≡ true = list_all-from_In (λ v. not (values v)) rule.neg (λ v j.
      let in_body = there (no_lit v) (In-append_right (no_lit v) (map lit_of rule.pos) (map no_lit rule.neg) (In-map no_lit v rule.neg j)) in
      not_from_false (values v) (none_found (is_false entries) (body_lits rule) (no_lit v) on in_body)) in
      sym (same_node r.0 r.1 k.0 k.2.0 rule k.1 k.2.1 k.2.2) ∙ and_from (list_all values rule.pos) (list_all (λ v. not (values v)) rule.neg) pos neg) (rule_kind (steps r.0) rule r.2)

  -- and where one is, it doesn't
  off_body : (rule : NRule) (head : ℕ) → In rule (length_of steps n).ground.rules → rule.head ≡ Some head → is_off entries rule ≡ true → body_holds S S rule ≡ true → ⊥
  off_body rule head i is off body =
      let r = rule_from steps n rule i in
      ⊎_elim (λ (m : In rule (steps r.0).rules).
      let s = source steps n r.0 rule head r.1 (modules.settled.each r.0 r.1) m is in
      let none : (is_false entries (lit_of s.def.var) || false) ≡ true = sym (ap (λ (o : Option ℕ). list_any (is_false entries) (lits_by o rule.pos rule.neg)) s.body) ∙ off in
      ⊎_elim (λ (f : is_false entries (lit_of s.def.var) ≡ true).
      let lost : values s.def.var ≡ false = off_by (spot_in entries s.def.var) f in
      false≢true (sym lost ∙ (complete.bodies s.state s.within s.def s.inside ∙ (same_body s.state s.within s.def s.inside ∙ (sym (s.holds S) ∙ body))))) (λ f. false≢true f) (or_cases (is_false entries (lit_of s.def.var)) false none)) (λ (k : (node : NodeRule) × In node (steps r.0).nodes × ((lits : List Lit) × In lits (shape_bodies node.shape) × (node_rule node.var lits ≡ rule))).
      let lits : body_lits rule ≡ (map lit_of rule.pos ++ map no_lit rule.neg) = ap (λ (o : Option ℕ). lits_by o rule.pos rule.neg) (sym (ap (λ (x : NRule). x.body) k.2.2)) in
      let w = any_found (is_false entries) (body_lits rule) off in
      let b = and_parts (list_all values rule.pos) (list_all (λ v. not (values v)) rule.neg) (same_node r.0 r.1 k.0 k.2.0 rule k.1 k.2.1 k.2.2 ∙ body) in
      ⊎_elim (λ l.
      let p = In-map_from lit_of w.0 rule.pos l in
      let f : is_false entries (lit_of p.0) ≡ true = ap (is_false entries) p.2 ∙ w.2 in
      false≢true (sym (off_by (spot_in entries p.0) f) ∙ In-list_all values p.0 rule.pos b.0 p.1)) (λ l.
      let p = In-map_from no_lit w.0 rule.neg l in
      let t : values p.0 ≡ true = ap (is_false entries) p.2 ∙ w.2 in
      false≢true (sym (not_from_true (values p.0) t) ∙ In-list_all (λ v. not (values v)) p.0 rule.neg b.1 p.1)) (In-append_cases w.0 (map lit_of rule.pos) (map no_lit rule.neg) (subst (λ (ls : List Lit). In w.0 ls) lits w.1))) (rule_kind (steps r.0) rule r.2)

  -- ---- unfounded sets

  -- the end is in none
  no_end : (U : Set) → IsUnfoundedIn (rules_of (length_of steps n)) S U → U (steps (n - 1)).end ≡ true → ⊥
  no_end U none inside =
      ⊎_elim (λ (f : body_holds S S (fact_of (steps (n - 1)).end) ≡ false). false≢true (sym f)) (λ (w : (v : ℕ) × In v (fact_of (steps (n - 1)).end).pos × (U v ≡ true)). w.1) (none (fact_of (steps (n - 1)).end) (inl refl) inside)

  trail_unfounded : (U : Set) → ((v : ℕ) → U v ≡ true → S v ≡ true) → IsUnfoundedIn (rules_of (length_of steps n)) S U → IsUnfounded (length_of steps n).ground entries U
  trail_unfounded U within none = record {
    heads = λ v m. ⊎_elim (λ h. h) (λ (e : (v == (steps (n - 1)).end) ≡ true). absurd (no_end U none (sym (ap U (eqb-true v (steps (n - 1)).end e)) ∙ m))) (or_cases (is_head (length_of steps n).ground.modules v) (v == (steps (n - 1)).end) (and_parts (in_program (length_of steps n) v) (values v) (within v m)).0);
    not_false = λ v m. not_from_false (is_false entries (lit_of v)) (false_by (spot_in entries v) (and_parts (in_program (length_of steps n) v) (values v) (within v m)).1);
    fed = λ rule i inside.
        let h = head_found U rule.head inside in
        ⊎_elim (λ (f : body_holds S S rule ≡ false).
        ⊎_elim (λ (off : is_off entries rule ≡ true). or_left (is_off entries rule) (list_any U rule.pos) off) (λ (on : is_off entries rule ≡ false). absurd (false≢true (sym f ∙ on_body rule h.0 i h.1 on))) (cases_Bool (is_off entries rule))) (λ (w : (v : ℕ) × In v rule.pos × (U v ≡ true)).
        or_right (is_off entries rule) (list_any U rule.pos) (any_from U rule.pos w.0 w.1 w.2)) (none rule (inr i) inside);
  }

  pub none_stable : NoneHolds (length_of steps n).ground entries → IsStableAt (length_of steps n) S
  none_stable none =
      founded_is_stable (rules_of (length_of steps n)) (pairs_of (length_of steps n)) S (list_all-from_In (keeps S S) (rules_of (length_of steps n)) rule_kept) (list_all-from_In (λ (rule : NRule). is_met S (body_holds S S rule) rule.head) (rules_of (length_of steps n)) rule_met) (list_all-from_In (λ (pair : ℕ × ℕ). not (S pair.0 && S pair.1)) (pairs_of (length_of steps n)) pair_apart) (λ U within unfounded v inside.
      let lost = none U (trail_unfounded U within unfounded) v inside in
      false≢true (sym (not-true (values v) lost) ∙ (and_parts (in_program (length_of steps n) v) (values v) (within v inside)).1))

  pub some_unstable : (U : Set) (v : ℕ) → IsUnfounded (length_of steps n).ground entries U → U v ≡ true → values v ≡ true → IsStableAt (length_of steps n) S → ⊥
  some_unstable U v unfounded inside t stable =
      let has : S v ≡ true = and_from (in_program (length_of steps n) v) (values v) (or_left (is_head (length_of steps n).ground.modules v) (v == (steps (n - 1)).end) (unfounded.heads v inside)) t in
      let l = lost_part (rules_of (length_of steps n)) (pairs_of (length_of steps n)) S U stable v has inside in
      ⊎_elim (λ (e : fact_of (steps (n - 1)).end ≡ l.rule).
      let at : (steps (n - 1)).end ≡ l.head = some_is (steps (n - 1)).end l.head (ap (λ (r : NRule). r.head) e ∙ l.is_head) in
      let h = head_from steps n l.head (unfounded.heads l.head l.within) in
      modules.separate.end_heads (n - 1) h.0 last h.1 (subst (λ (x : ℕ). IsHead (steps h.0) x) (sym at) h.2)) (λ (m : In l.rule (length_of steps n).ground.rules).
      ⊎_elim (λ off. off_body l.rule l.head m l.is_head off l.body) (λ some.
      let w = any_found U l.rule.pos some in
      false≢true (sym (l.outside w.0 w.1) ∙ w.2)) (or_cases (is_off entries l.rule) (list_any U l.rule.pos) (unfounded.fed l.rule m (ap (head_in U) l.is_head ∙ l.within)))) l.inside

pub none_is_stable : NoneIsStable
none_is_stable steps n plain entries modules trail none = none_stable steps n plain entries modules trail none

pub some_is_unstable : SomeIsUnstable
some_is_unstable steps n plain entries U v modules trail unfounded inside t stable = some_unstable steps n plain entries modules trail U v unfounded inside t stable
