-- The set of a temporal equilibrium model is stable.
use Rattle.std.proofs.Common.{◌≡◌, ℕ, ◌+◌, ◌-◌, ◌*◌, ◌/◌, ◌%◌, ◌<◌, Bool, true, false, cond, not, ◌&&◌, ◌||◌, List, length, refl, sym, ap, subst, inl, ◌∙◌, ⊎_elim, arith}
use Rattle.std.specs.Prelude.{Option, Some, None, nat_lt, ◌==◌}
use Rattle.std.specs.List.{range_with_len}
use Rattle.std.proofs.lemmas.Bool.{and_parts, and_from, cond-true, cond-false, lt-ltb, ltb-true, ltb-false, eqb-true, false≢true, cases_Bool, false_from_ne_true}
use Rattle.std.proofs.lemmas.Nat.{div-add-mod'}
use Rattle.tel_rule.specs.declared.ground.Instance.{Instance}
use Rattle.tel_rule.specs.declared.ground.GroundHead.{GroundHead}
use Rattle.tel_rule.specs.declared.ground.GroundHead.TheVariants as heads
use Rattle.tel_rule.specs.Ground.{Ground, IsGround, head_in_range, is_guarded}
use Rattle.tel_semantics.specs.Traces.{Test, IsBelow}
use Rattle.tel_semantics.specs.NodeFormula.{node_formula}
use Rattle.tel_semantics.specs.Satisfaction.{sat}
use Rattle.tel_semantics.specs.Theory.{body_formula, head_formula}
use Rattle.tel_semantics.specs.Laws.{MeetsAll}
use Rattle.tel_base.proofs.Members.{In, In-list_all, list_all-from_In, Contains-from_In, In-from_Contains, In-map_from, In-flat_map_from}
use Rattle.tel_semantics.proofs.SatLaws.{sat-persists}
use Rattle.tel_semantics.proofs.InRange.{body_below, pair_below}
use Rattle.normal_program.specs.declared.rules.NRule.{NRule}
use Rattle.atom_space.specs.Numbers.{visible, part, end_at, width}
use Rattle.normal_program.specs.StableSets.{Set, lits_hold, body_holds, is_closed, is_met, IsStable}
use Rattle.formula_unfold.specs.Nodes.{counts_of}
use Rattle.stable_models.specs.Values.{place_value, full}
use Rattle.step_module.specs.Bodies.{stands, body_lits}
use Rattle.step_module.specs.Rules.{instance_rule, head_rules, next_rules}
use Rattle.stable_models.proofs.ProgramRules.{program_rules, program_pairs}
use Rattle.step_module.specs.Modules.{pairs_at}
use Rattle.stable_models.proofs.Numbering.{full-visible}
use Rattle.stable_models.proofs.Parts.{Has, closed_has}
use Rattle.stable_models.proofs.RuleCases.{Fact, Now, OfPart, now_is, next_is, rule_cases, Next as Later}
use Rattle.completion.proofs.Ranges.{range_cases}
use Rattle.stable_models.proofs.Bodies.{HasParts, not_true, negated, negates, instance_from}
use Rattle.stable_models.proofs.Guarded.{is_guarded_node, guarded_free, all_free, is_none, head_free}
use Rattle.stable_models.proofs.ModelSets.{right_instance, head_holds, model_closed, nodes_closed, has_end, atom_there, rule_now, rule_next, now_none, next_head, none_some}

-- a set that has the Visible, End and Part variables of (T, T) has all of them
pub has_full : (program : Ground) (n : ℕ) (T : Test) (X : Set) → Has program n T X → HasParts program n T T X (λ x. true) → (v : ℕ) → full program n T T v ≡ true → X v ≡ true
has_full program n T X has nodes v h =
    let counts = counts_of program in
    let w = width counts in
    let t = v / w in
    let i = v % w in
    let A = length program.atoms in
    let N = length program.nodes in
    let B = length program.instances in
    let e = div-add-mod' v w in
    let p = and_parts (nat_lt t n) (place_value program n T T t i) h in
    let l = ltb-true t n p.0 in
    let last = (i == A + N + B) && (t + 1 == n) in
    let of_node = sat (node_formula program.nodes (i - A)) n T T t in
    ⊎_elim (λ (a : nat_lt i A ≡ true).
    let value = sym (cond-true (nat_lt i A) (T t i) (cond (nat_lt i (A + N)) of_node last) a) ∙ p.1 in
    subst (λ (u : ℕ). X u ≡ true) e (has.atoms i t (ltb-true i A a) l value)) (λ (a : nat_lt i A ≡ false).
    let rest = sym (cond-false (nat_lt i A) (T t i) (cond (nat_lt i (A + N)) of_node last) a) ∙ p.1 in
    let above = ltb-false i A a in
    ⊎_elim (λ (b : nat_lt i (A + N) ≡ true).
    let value = sym (cond-true (nat_lt i (A + N)) of_node last b) ∙ rest in
    let below = ltb-true i (A + N) b in
    let place : A + (i - A) ≡ i = omega (arith, above) in
    subst (λ (u : ℕ). X u ≡ true) (ap (λ (k : ℕ). t * w + k) place ∙ e) (nodes (i - A) t (omega (arith, above, below)) l refl value)) (λ (b : nat_lt i (A + N) ≡ false).
    let value = and_parts (i == A + N + B) (t + 1 == n) (sym (cond-false (nat_lt i (A + N)) of_node last b) ∙ rest) in
    let place = eqb-true i (A + N + B) value.0 in
    let ending : not (nat_lt (t + 1) n) ≡ true = ap not (false_from_ne_true (nat_lt (t + 1) n) (λ u. absurd (omega (arith, ltb-true (t + 1) n u, eqb-true (t + 1) n value.1)))) in
    subst (λ (u : ℕ). X u ≡ true) (ap (λ (k : ℕ). t * w + k) (sym place) ∙ e) (has.ending t l ending)) (cases_Bool (nat_lt i (A + N)))) (cases_Bool (nat_lt i A))

pub last_is : (k n : ℕ) → k < n → not (nat_lt (k + 1) n) ≡ true → n - 1 ≡ k
last_is k n l t = omega (arith, l, ltb-false (k + 1) n (not_true (nat_lt (k + 1) n) t))

pub arrow_holds : (a b a2 b2 : Bool) → (a ≡ true → b ≡ true) → (not a2 || b2) ≡ true → ((not a || b) && (not a2 || b2)) ≡ true
arrow_holds true b a2 b2 p h = and_from b (not a2 || b2) (p refl) h
arrow_holds false b a2 b2 p h = h

arrow_there : (a b a2 b2 : Bool) → ((not a || b) && (not a2 || b2)) ≡ true → (not a2 || b2) ≡ true
arrow_there a b a2 b2 h = (and_parts (not a || b) (not a2 || b2) h).1

arrow_then : (a b : Bool) → (not a || b) ≡ true → a ≡ true → b ≡ true
arrow_then true b h t = h
arrow_then false b h t = absurd (false≢true t)

-- the Visible variables of a set, below T
abbrev pub seen_in : Ground → Test → Set → Test
seen_in program T X k a = T k a && X (visible (counts_of program) a k)

-- p or not p, where p is derived wherever it holds in T
pub choice_holds : (d d2 : Bool) → (d ≡ true → d2 ≡ true) → (d2 ≡ true → d ≡ true) → (d || ((not d || false) && (not d2 || false))) ≡ true
choice_holds true d2 p q = refl
choice_holds false true p q = absurd (false≢true (q refl))
choice_holds false false p q = refl

closed_head : (program : Ground) (n : ℕ) (T : Test) (X : Set) (k : ℕ) (instance : Instance) (head : GroundHead) → IsGround program → is_closed (program_rules program n) (full program n T T) X ≡ true → In instance program.instances → k < n → instance.head ≡ head → head_in_range (length program.atoms) head ≡ true → (is_none head ≡ false → (stands k instance ≡ true) × (lits_hold X (full program n T T) (body_lits (counts_of program) k instance) ≡ true)) → sat (head_formula head) n T T k ≡ true → sat (head_formula head) n (seen_in program T X) T k ≡ true
closed_head program n T X k instance (heads.Normal a false) ground closed member l e right body there =
    let counts = counts_of program in
    let lits = body_lits counts k instance in
    let w = body refl in
    and_from (T k a) (X (visible counts a k)) there
    (rule_now program n (full program n T T) X k a false instance closed member l w.0 w.1 (λ c. absurd (false≢true c)) (λ b. subst (λ (h : GroundHead). In (instance_rule (Some (visible counts a k)) false lits b) (head_rules counts k h lits b)) (sym e) (inl refl)))
closed_head program n T X k instance (heads.Normal a true) ground closed member l e right body there =
    let counts = counts_of program in
    let lits = body_lits counts k instance in
    let w = body refl in
    let p = and_parts (nat_lt (k + 1) n) (T (k + 1) a) there in
    and_from (nat_lt (k + 1) n) (T (k + 1) a && X (visible counts a (k + 1))) p.0 (and_from (T (k + 1) a) (X (visible counts a (k + 1))) p.1
    (rule_next program n (full program n T T) X k a false instance closed member (ltb-true (k + 1) n p.0) w.0 w.1 (λ c. absurd (false≢true c)) (λ b. subst (λ (h : GroundHead). In (instance_rule (Some (visible counts a (k + 1))) false lits b) (next_rules counts k h lits b)) (sym e) (inl refl))))
closed_head program n T X k instance (heads.Choice a false) ground closed member l e right body there =
    let counts = counts_of program in
    let lits = body_lits counts k instance in
    let w = body refl in
    choice_holds (T k a && X (visible counts a k)) (T k a) (λ t. (and_parts (T k a) (X (visible counts a k)) t).0) (λ t. and_from (T k a) (X (visible counts a k)) t
    (rule_now program n (full program n T T) X k a true instance closed member l w.0 w.1 (λ c. atom_there program n T T a k (visible counts a k) (ltb-true a (length program.atoms) right) l refl t) (λ b. subst (λ (h : GroundHead). In (instance_rule (Some (visible counts a k)) true lits b) (head_rules counts k h lits b)) (sym e) (inl refl))))
closed_head program n T X k instance (heads.Choice a true) ground closed member l e right body there =
    let counts = counts_of program in
    let lits = body_lits counts k instance in
    let w = body refl in
    let v = visible counts a (k + 1) in
    choice_holds (nat_lt (k + 1) n && (T (k + 1) a && X v)) (nat_lt (k + 1) n && T (k + 1) a) (λ t. let p = and_parts (nat_lt (k + 1) n) (T (k + 1) a && X v) t in and_from (nat_lt (k + 1) n) (T (k + 1) a) p.0 (and_parts (T (k + 1) a) (X v) p.1).0) (λ t. let p = and_parts (nat_lt (k + 1) n) (T (k + 1) a) t in and_from (nat_lt (k + 1) n) (T (k + 1) a && X v) p.0 (and_from (T (k + 1) a) (X v) p.1
    (rule_next program n (full program n T T) X k a true instance closed member (ltb-true (k + 1) n p.0) w.0 w.1 (λ c. atom_there program n T T a (k + 1) v (ltb-true a (length program.atoms) right) (ltb-true (k + 1) n p.0) refl p.1) (λ b. subst (λ (h : GroundHead). In (instance_rule (Some v) true lits b) (next_rules counts k h lits b)) (sym e) (inl refl)))))
closed_head program n T X k instance heads.None ground closed member l e right body there = absurd (false≢true there)

-- the Visible variables of a closed set make a model with T
pub closed_model : (program : Ground) (n : ℕ) (T : Test) (X : Set) → IsGround program → 0 < n → MeetsAll program n T T → is_closed (program_rules program n) (full program n T T) X ≡ true → MeetsAll program n (seen_in program T X) T
closed_model program n T X ground some total closed =
    let counts = counts_of program in
    let S : Set = full program n T T in
    let H : Test = seen_in program T X in
    let count = length program.atoms in
    let below : IsBelow n count H T = λ k a l m t. (and_parts (T k a) (X (visible counts a k)) t).0 in
    let has : Has program n H X = record {
      atoms = λ a k m l t. (and_parts (T k a) (X (visible counts a k)) t).1;
      ending = λ k l t. subst (λ (j : ℕ). X (end_at counts j) ≡ true) (last_is k n l t) (has_end program n S X closed);
    } in
    let nodes : HasParts program n H T X (is_guarded_node program.nodes) = λ x k within l q t. closed_has program n H T X (is_guarded_node program.nodes) ground below (nodes_closed program n S X closed) has (guarded_free program n H T ground) x k within l q t in
    record {
      instances = λ instance contained k l demanded.
          let member = In-from_Contains program.instances instance contained in
          let right = right_instance program instance ground member in
          let body = body_formula program.nodes instance.body in
          let head = head_formula instance.head in
          let there = arrow_there (sat body n T T k) (sat head n T T k) (sat body n T T k) (sat head n T T k) (total.instances instance contained k l demanded) in
          let guarded : is_guarded program.nodes instance ≡ true = In-list_all (is_guarded program.nodes) instance program.instances ground.guarded member in
          arrow_holds (sat body n H T k) (sat head n H T k) (sat body n T T k) (sat head n T T k) (λ t.
          let above = sat-persists body n count H T (body_below count (length program.nodes) program.nodes instance.body ground.nodes right.1) below k l t in
          closed_head program n T X k instance instance.head ground closed member l refl right.0 (λ other. instance_from program n H T X (is_guarded_node program.nodes) k instance has nodes l right.1 (head_free program.nodes instance.head instance.body other guarded) demanded t) (arrow_then (sat body n T T k) (sat head n T T k) there above)) there;
      pairs = λ pair contained k l.
          let met = total.pairs pair contained k l in
          negates (H k pair.0 && H k pair.1) (T k pair.0 && T k pair.1) (λ t. let p = and_parts (H k pair.0) (H k pair.1) t in and_from (T k pair.0) (T k pair.1) (and_parts (T k pair.0) (X (visible counts pair.0 k)) p.0).0 (and_parts (T k pair.1) (X (visible counts pair.1 k)) p.1).0) (negated (T k pair.0 && T k pair.1) (T k pair.0 && T k pair.1) met);
    }

-- where (T, T) is a model, no constraint has a body that holds
no_constraint : (program : Ground) (n : ℕ) (T : Test) (rule : NRule) → IsGround program → MeetsAll program n T T → In rule (program_rules program n) → rule.head ≡ None → body_holds (full program n T T) (full program n T T) rule ≡ true → ⊥
no_constraint program n T rule ground total found is body =
    let counts = counts_of program in
    let S : Set = full program n T T in
    elim (rule_cases program n rule found) as (λ _. ⊥) [
      | Fact e ↦ none_some (end_at counts (n - 1)) rule.head is (sym (ap (λ (r : NRule). r.head) e))
      | Now t l from ↦
          let w = now_is counts t from.number S S rule from.instance from.made in
          let p = now_none program n T t rule (body_lits counts t from.instance) from.instance.head l w.1 is body in
          false≢true (sym p.1 ∙ head_holds program n T T t from.instance ground (λ k a m b u. u) total from.member l w.0 p.0)
      | Later t l from ↦
          let w = next_is counts t from.number S S rule from.instance from.made in
          next_head counts t S S rule (body_lits counts t from.instance) from.instance.head w.1 is
      | OfPart t l from ↦ none_some (part counts from.node t) rule.head is (sym (ap (λ (r : NRule). r.head) from.is))
    ]

pub met_where : (S : Set) (body : Bool) (head : Option ℕ) → (head ≡ None → body ≡ true → ⊥) → is_met S body head ≡ true
met_where S true None h = absurd (h refl refl)
met_where S false None h = refl
met_where S body (Some v) h = refl

-- the set of a temporal equilibrium model is stable
pub stable_from_model : (program : Ground) (n : ℕ) (T : Test) → IsGround program → 0 < n → MeetsAll program n T T → ((H : Test) → IsBelow n (length program.atoms) H T → MeetsAll program n H T → (k a : ℕ) → k < n → a < length program.atoms → T k a ≡ true → H k a ≡ true) → IsStable (program_rules program n) (program_pairs program n) (full program n T T)
stable_from_model program n T ground some total minimal =
    let counts = counts_of program in
    let S : Set = full program n T T in
    let itself : IsBelow n (length program.atoms) T T = λ k a l m t. t in
    record {
      closed = model_closed program n T T ground some itself total;
      least = λ X closed.
          let H : Test = seen_in program T X in
          let below : IsBelow n (length program.atoms) H T = λ k a l m t. (and_parts (T k a) (X (visible counts a k)) t).0 in
          let above = minimal H below (closed_model program n T X ground some total closed) in
          let has : Has program n T X = record {
            atoms = λ a k m l t. (and_parts (T k a) (X (visible counts a k)) (above k a l m t)).1;
            ending = λ k l t. subst (λ (j : ℕ). X (end_at counts j) ≡ true) (last_is k n l t) (has_end program n S X closed);
          } in
          has_full program n T X has (λ x k within l q t. closed_has program n T T X (λ y. true) ground itself (nodes_closed program n S X closed) has (all_free program n T) x k within l q t);
      met = list_all-from_In (λ (rule : NRule). is_met S (body_holds S S rule) rule.head) (program_rules program n) (λ rule found. met_where S (body_holds S S rule) rule.head (λ is body. no_constraint program n T rule ground total found is body));
      apart = list_all-from_In (λ (pair : ℕ × ℕ). not (S pair.0 && S pair.1)) (program_pairs program n) (λ pair found.
          let w = In-flat_map_from (pairs_at program) pair (range_with_len 0 n) found in
          let t = w.0 in
          let l : t < n = omega (arith, (range_cases n 0 t w.1).1) in
          let v = In-map_from (λ (p : ℕ × ℕ). (visible counts p.0 t, visible counts p.1 t)) pair program.pairs w.2 in
          let range = pair_below program.atoms v.0 (subst (λ (all : List (ℕ × ℕ)). In v.0 all) ground.paired v.1) in
          let met = negated (T t v.0.0 && T t v.0.1) (T t v.0.0 && T t v.0.1) (total.pairs v.0 (Contains-from_In program.pairs v.0 v.1) t l) in
          let value : (p : ℕ) → p < length program.atoms → S (visible counts p t) ≡ T t p = λ p m. full-visible program n T T p t m ∙ (λ i. lt-ltb t n l i && T t p) in
          let e0 = value v.0.0 range.0 in
          let e1 = value v.0.1 range.1 in
          let P : ℕ × ℕ → Type 0 = λ (p : ℕ × ℕ). not (S p.0 && S p.1) ≡ true in
          subst P v.2 ((λ i. not (e0 i && e1 i)) ∙ met));
    }
