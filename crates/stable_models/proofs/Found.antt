-- A stable set is that of a temporal equilibrium model.
use Rattle.std.proofs.Common.{◌≡◌, ℕ, ◌+◌, ◌-◌, ◌*◌, ◌/◌, ◌%◌, ◌<◌, Bool, true, false, not, ◌&&◌, ◌||◌, List, [], ◌∷◌, ◌++◌, length, refl, sym, ap, subst, inl, ◌∙◌, ⊎_elim, arith}
use Rattle.std.specs.Prelude.{Some, None, nat_lt}
use Rattle.std.specs.List.{range_with_len}
use Rattle.std.proofs.lemmas.Bool.{and_from, lt-ltb, ltb-true, ltb-false, false≢true, cases_Bool, false_from_ne_true}
use Rattle.std.proofs.lemmas.Nat.{div-mul-add, mod-mul-add}
use Rattle.std.proofs.lemmas.List.Folds.{list_all-append}
use Rattle.tel_rule.specs.declared.ground.Instance.{Instance}
use Rattle.tel_rule.specs.declared.ground.GroundHead.{GroundHead}
use Rattle.tel_rule.specs.declared.ground.GroundHead.TheVariants as heads
use Rattle.tel_rule.specs.Ground.{Ground, IsGround, head_in_range}
use Rattle.tel_semantics.specs.Traces.{Test, IsBelow}
use Rattle.tel_semantics.specs.NodeFormula.{node_formula}
use Rattle.tel_semantics.specs.Satisfaction.{sat}
use Rattle.tel_semantics.specs.Theory.{body_formula, head_formula}
use Rattle.tel_semantics.specs.Laws.{MeetsAll}
use Rattle.tel_base.proofs.Members.{In, In-list_all, In-from_Contains, In-map, In-flat_map, any_from}
use Rattle.tel_semantics.proofs.InRange.{pair_below}
use Rattle.tel_semantics.proofs.Expansions.{same_truth}
use Rattle.tel_base.specs.declared.literals.Lit.{Lit}
use Rattle.normal_program.specs.declared.rules.NRule.{NRule}
use Rattle.atom_space.specs.Numbers.{visible, part, body_at, end_at, width}
use Rattle.normal_program.specs.StableSets.{Set, lit_holds, lits_hold, body_holds, is_closed, is_met, shape_holds, IsStable}
use Rattle.normal_program.specs.Shapes.{shape_bodies}
use Rattle.tel_base.specs.Literals.{lit_of}
use Rattle.formula_unfold.specs.Nodes.{counts_of, shape_at}
use Rattle.stable_models.specs.Values.{full}
use Rattle.step_module.specs.Bodies.{stands, body_lits}
use Rattle.step_module.specs.Rules.{instance_rule, head_rules, next_rules}
use Rattle.stable_models.proofs.ProgramRules.{program_rules, program_pairs}
use Rattle.step_module.specs.Modules.{pairs_at}
use Rattle.stable_models.proofs.Numbering.{full-visible, full-part, full-end}
use Rattle.stable_models.proofs.Parts.{Has, supported_parts, within_n}
use Rattle.completion.proofs.Sets.{lits-body, stable_supported}
use Rattle.stable_models.proofs.RuleCases.{OfNode, Fact, Now, OfPart, NowIs, NextIs, now_is, next_is, rule_cases, some_same, in_now, in_if, Next as Later}
use Rattle.completion.proofs.Ranges.{range_from}
use Rattle.stable_models.proofs.Bodies.{HasParts, instance_from}
use Rattle.stable_models.proofs.Guarded.{every_free}
use Rattle.stable_models.proofs.ModelSets.{right_instance, model_closed, nodes_closed, has_end, atom_there, there_atom, rule_now, rule_next, none_some}
use Rattle.stable_models.proofs.Stables.{has_full, last_is, arrow_holds}

-- ---- the variables that rules derive

-- two variables are one where their states and places are
same_place : (w t u i j : ℕ) → i < w → j < w → t * w + i ≡ u * w + j → (t ≡ u) × (i ≡ j)
same_place w t u i j l m e =
    (sym (div-mul-add t w i l) ∙ ap (λ (v : ℕ). v / w) e ∙ div-mul-add u w j m, sym (mod-mul-add t w i l) ∙ ap (λ (v : ℕ). v % w) e ∙ mod-mul-add u w j m)

pub data Kind (program : Ground) (n : ℕ) (rule : NRule) (v : ℕ) : Type 0 where
  AnEnd : end_at (counts_of program) (n - 1) ≡ v → Kind program n rule v
  AVisible : (a t : ℕ) → a < length program.atoms → t < n → visible (counts_of program) a t ≡ v → Kind program n rule v
  APart : (t : ℕ) (from : OfNode program t rule) → t < n → part (counts_of program) from.node t ≡ v → Kind program n rule v

now_kind : (program : Ground) (n t v : ℕ) (X S : Set) (rule : NRule) (lits : List Lit) (head : GroundHead) → t < n → head_in_range (length program.atoms) head ≡ true → NowIs (counts_of program) t X S rule lits head → rule.head ≡ Some v → Kind program n rule v
now_kind program n t v X S rule lits (heads.Normal a true) l right now is = absurd (none_some v rule.head now.head_is is)
now_kind program n t v X S rule lits (heads.Normal a false) l right now is =
    AVisible a t (ltb-true a (length program.atoms) right) l (some_same (visible (counts_of program) a t) v (sym now.head_is ∙ is))
now_kind program n t v X S rule lits (heads.Choice a true) l right now is = absurd now
now_kind program n t v X S rule lits (heads.Choice a false) l right now is =
    AVisible a t (ltb-true a (length program.atoms) right) l (some_same (visible (counts_of program) a t) v (sym now.head_is ∙ is))
now_kind program n t v X S rule lits heads.None l right now is = absurd (none_some v rule.head now.head_is is)

next_kind : (program : Ground) (n t v : ℕ) (X S : Set) (rule : NRule) (lits : List Lit) (head : GroundHead) → (t + 1) < n → head_in_range (length program.atoms) head ≡ true → NextIs (counts_of program) t X S rule lits head → rule.head ≡ Some v → Kind program n rule v
next_kind program n t v X S rule lits (heads.Normal a false) l right now is = absurd now
next_kind program n t v X S rule lits (heads.Normal a true) l right now is =
    AVisible a (t + 1) (ltb-true a (length program.atoms) right) l (some_same (visible (counts_of program) a (t + 1)) v (sym now.head_is ∙ is))
next_kind program n t v X S rule lits (heads.Choice a false) l right now is = absurd now
next_kind program n t v X S rule lits (heads.Choice a true) l right now is =
    AVisible a (t + 1) (ltb-true a (length program.atoms) right) l (some_same (visible (counts_of program) a (t + 1)) v (sym now.head_is ∙ is))
next_kind program n t v X S rule lits heads.None l right now is = absurd now

kind_of : (program : Ground) (n v : ℕ) (rule : NRule) → IsGround program → In rule (program_rules program n) → rule.head ≡ Some v → Kind program n rule v
kind_of program n v rule ground found is =
    let counts = counts_of program in
    let none : Set = λ u. false in
    elim (rule_cases program n rule found) as (λ _. Kind program n rule v) [
      | Fact e ↦ AnEnd (some_same (end_at counts (n - 1)) v (ap (λ (r : NRule). r.head) e ∙ is))
      | Now t l from ↦
          let w = now_is counts t from.number none none rule from.instance from.made in
          now_kind program n t v none none rule (body_lits counts t from.instance) from.instance.head l (right_instance program from.instance ground from.member).0 w.1 is
      | Later t l from ↦
          let w = next_is counts t from.number none none rule from.instance from.made in
          next_kind program n t v none none rule (body_lits counts t from.instance) from.instance.head l (right_instance program from.instance ground from.member).0 w.1 is
      | OfPart t l from ↦ APart t from l (some_same (part counts from.node t) v (ap (λ (r : NRule). r.head) from.is ∙ is))
    ]

-- a derived variable is of a state below the length
kind_below : (program : Ground) (n j i : ℕ) (rule : NRule) → 0 < n → i < width (counts_of program) → Kind program n rule (j * width (counts_of program) + i) → j < n
kind_below program n j i rule some within (AnEnd e) =
    let p = same_place (width (counts_of program)) (n - 1) j (length program.atoms + length program.nodes + length program.instances) i (omega arith) within e in
    omega (arith, some, p.0)
kind_below program n j i rule some within (AVisible a t m l e) =
    let p = same_place (width (counts_of program)) t j a i (omega (arith, m)) within e in
    omega (arith, l, p.0)
kind_below program n j i rule some within (APart t from l e) =
    let p = same_place (width (counts_of program)) t j (length program.atoms + from.node) i (omega (arith, from.within)) within e in
    omega (arith, l, p.0)

-- an end that is derived is the last one
kind_end : (program : Ground) (n j : ℕ) (rule : NRule) → 0 < n → Kind program n rule (end_at (counts_of program) j) → (j + 1) < n → ⊥
kind_end program n j rule some (AnEnd e) u =
    let here = length program.atoms + length program.nodes + length program.instances in
    let p = same_place (width (counts_of program)) (n - 1) j here here (omega arith) (omega arith) e in
    absurd (omega (arith, some, p.0, u))
kind_end program n j rule some (AVisible a t m l e) u =
    let p = same_place (width (counts_of program)) t j a (length program.atoms + length program.nodes + length program.instances) (omega (arith, m)) (omega arith) e in
    absurd (omega (arith, m, p.1))
kind_end program n j rule some (APart t from l e) u =
    let p = same_place (width (counts_of program)) t j (length program.atoms + from.node) (length program.atoms + length program.nodes + length program.instances) (omega (arith, from.within)) (omega arith) e in
    absurd (omega (arith, from.within, p.1))

-- a part that is derived is the head of a rule of its shape
kind_part : (program : Ground) (n x k : ℕ) (S : Set) (rule : NRule) → x < length program.nodes → Kind program n rule (part (counts_of program) x k) → body_holds S S rule ≡ true → shape_holds S S (shape_at program x k) ≡ true
kind_part program n x k S rule within (AnEnd e) h =
    let p = same_place (width (counts_of program)) (n - 1) k (length program.atoms + length program.nodes + length program.instances) (length program.atoms + x) (omega arith) (omega (arith, within)) e in
    absurd (omega (arith, within, p.1))
kind_part program n x k S rule within (AVisible a t m l e) h =
    let p = same_place (width (counts_of program)) t k a (length program.atoms + x) (omega (arith, m)) (omega (arith, within)) e in
    absurd (omega (arith, m, p.1))
kind_part program n x k S rule within (APart t from l e) h =
    let p = same_place (width (counts_of program)) t k (length program.atoms + from.node) (length program.atoms + x) (omega (arith, from.within)) (omega (arith, within)) e in
    let same : from.node ≡ x = omega (arith, p.1) in
    let holds : lits_hold S S from.lits ≡ true = sym (lits-body S S from.lits) ∙ ap (body_holds S S) from.is ∙ h in
    let here : shape_holds S S (shape_at program from.node t) ≡ true = any_from (lits_hold S S) (shape_bodies (shape_at program from.node t)) from.lits from.body holds in
    subst (λ (y : ℕ). shape_holds S S (shape_at program y k) ≡ true) same (subst (λ (j : ℕ). shape_holds S S (shape_at program from.node j) ≡ true) p.0 here)

-- ---- a supported set is that of the trace of its atoms, and so is a stable one

pub supported_is_full : (program : Ground) (n : ℕ) (T : Test) (S : Set) → IsGround program → 0 < n → is_closed (program_rules program n) S S ≡ true → ((v : ℕ) → S v ≡ true → (rule : NRule) × In rule (program_rules program n) × (rule.head ≡ Some v) × (body_holds S S rule ≡ true)) → ((k a : ℕ) → k < n → a < length program.atoms → T k a ≡ S (visible (counts_of program) a k)) → (v : ℕ) → S v ≡ full program n T T v
supported_is_full program n T S ground some all_closed supported agree =
    let counts = counts_of program in
    let kind : (v : ℕ) → S v ≡ true → (rule : NRule) × Kind program n rule v × (body_holds S S rule ≡ true) = λ v h.
    let w = supported v h in
    (w.0, kind_of program n v w.0 ground w.1 w.2, w.3) in
    let open_false : (j i : ℕ) → i < width counts → nat_lt j n ≡ false → S (j * width counts + i) ≡ false = λ j i within u.
    false_from_ne_true (S (j * width counts + i)) (λ h. let w = kind (j * width counts + i) h in absurd (omega (arith, ltb-false j n u, kind_below program n j i w.0 some within w.1))) in
    let of_atom : (a j : ℕ) → a < length program.atoms → S (visible counts a j) ≡ (nat_lt j n && T j a) = λ a j m.
    ⊎_elim (λ (u : nat_lt j n ≡ true). sym (agree j a (ltb-true j n u) m) ∙ sym (λ i. u i && T j a)) (λ (u : nat_lt j n ≡ false). open_false j a (omega (arith, m)) u ∙ sym (λ i. u i && T j a)) (cases_Bool (nat_lt j n)) in
    let ending : (k : ℕ) → k < n → S (end_at counts k) ≡ not (nat_lt (k + 1) n) = λ k l.
    ⊎_elim (λ (u : nat_lt (k + 1) n ≡ true). false_from_ne_true (S (end_at counts k)) (λ h. let w = kind (end_at counts k) h in kind_end program n k w.0 some w.1 (ltb-true (k + 1) n u)) ∙ sym (ap not u)) (λ (u : nat_lt (k + 1) n ≡ false). subst (λ (j : ℕ). S (end_at counts j) ≡ true) (last_is k n l (ap not u)) (has_end program n S S all_closed) ∙ sym (ap not u)) (cases_Bool (nat_lt (k + 1) n)) in
    let parts = supported_parts program n T S ground (nodes_closed program n S S all_closed) (λ x k within l h. let w = kind (part counts x k) h in kind_part program n x k S w.0 within w.1 w.2) of_atom (λ x j within u. open_false j (length program.atoms + x) (omega (arith, within)) u) ending in
    let has : Has program n T S = record { atoms = λ a k m l t. sym (agree k a l m) ∙ t; ending = λ k l t. ending k l ∙ t } in
    λ v. same_truth (S v) (full program n T T v) (λ h.
    let w = kind v h in
    elim (w.1) as (λ _. full program n T T v ≡ true) [
      | AnEnd e ↦ ap (full program n T T) (sym e) ∙ full-end program n T T (n - 1) (omega (arith, some)) ∙ sym (ending (n - 1) (omega (arith, some))) ∙ has_end program n S S all_closed
      | AVisible a t m l e ↦ ap (full program n T T) (sym e) ∙ full-visible program n T T a t m ∙ sym (of_atom a t m) ∙ ap S e ∙ h
      | APart t from l e ↦ ap (full program n T T) (sym e) ∙ full-part program n T T from.node t from.within ∙ within_n t n (sat (node_formula program.nodes from.node) n T T t) l ∙ sym (parts from.node t from.within l) ∙ ap S e ∙ h
    ]) (has_full program n T S has (λ x k within l q t. parts x k within l ∙ t) v)

pub stable_is_full : (program : Ground) (n : ℕ) (T : Test) (S : Set) → IsGround program → 0 < n → IsStable (program_rules program n) (program_pairs program n) S → ((k a : ℕ) → k < n → a < length program.atoms → T k a ≡ S (visible (counts_of program) a k)) → (v : ℕ) → S v ≡ full program n T T v
stable_is_full program n T S ground some stable agree =
    supported_is_full program n T S ground some stable.closed (stable_supported (program_rules program n) (program_pairs program n) S stable) agree

-- ---- and T is an equilibrium model

excluded : (a : Bool) → (a || ((not a || false) && (not a || false))) ≡ true
excluded true = refl
excluded false = refl

-- no constraint of a stable set's program has a body that holds
met_at : (program : Ground) (n : ℕ) (S : Set) (t : ℕ) (instance : Instance) (lits : List Lit) → IsStable (program_rules program n) (program_pairs program n) S → In instance program.instances → t < n → stands t instance ≡ true → lits_hold S S lits ≡ true → ((body : ℕ) → In (instance_rule None false lits body) (head_rules (counts_of program) t instance.head (body_lits (counts_of program) t instance) body)) → ⊥
met_at program n S t instance lits stable member l stand h there =
    let counts = counts_of program in
    let w = in_now program n t instance l member in
    let body = body_at counts w.0 t in
    let rule = instance_rule None false lits body in
    let found = w.1 rule (in_if (stands t instance) (head_rules counts t instance.head (body_lits counts t instance) body) rule stand (there body)) in
    let met : not (body_holds S S rule) ≡ true = In-list_all (λ (r : NRule). is_met S (body_holds S S r) r.head) rule (program_rules program n) stable.met found in
    false≢true (sym (ap not (lits-body S S lits ∙ h)) ∙ met)

found_head : (program : Ground) (n : ℕ) (T : Test) (k : ℕ) (instance : Instance) (head : GroundHead) → IsGround program → IsStable (program_rules program n) (program_pairs program n) (full program n T T) → In instance program.instances → k < n → instance.head ≡ head → head_in_range (length program.atoms) head ≡ true → stands k instance ≡ true → lits_hold (full program n T T) (full program n T T) (body_lits (counts_of program) k instance) ≡ true → sat (head_formula head) n T T k ≡ true
found_head program n T k instance heads.None ground stable member l e right stand h =
    let lits = body_lits (counts_of program) k instance in
    absurd (met_at program n (full program n T T) k instance lits stable member l stand h (λ b. subst (λ (x : GroundHead). In (instance_rule None false lits b) (head_rules (counts_of program) k x lits b)) (sym e) (inl refl)))
found_head program n T k instance (heads.Choice a false) ground stable member l e right stand h = excluded (T k a)
found_head program n T k instance (heads.Choice a true) ground stable member l e right stand h = excluded (nat_lt (k + 1) n && T (k + 1) a)
found_head program n T k instance (heads.Normal a false) ground stable member l e right stand h =
    let counts = counts_of program in
    let S : Set = full program n T T in
    let lits = body_lits counts k instance in
    there_atom program n T T a k (visible counts a k) (ltb-true a (length program.atoms) right) l refl
    (rule_now program n S S k a false instance stable.closed member l stand h (λ c. absurd (false≢true c)) (λ b. subst (λ (x : GroundHead). In (instance_rule (Some (visible counts a k)) false lits b) (head_rules counts k x lits b)) (sym e) (inl refl)))
found_head program n T k instance (heads.Normal a true) ground stable member l e right stand h =
    let counts = counts_of program in
    let S : Set = full program n T T in
    let lits = body_lits counts k instance in
    ⊎_elim (λ (u : nat_lt (k + 1) n ≡ true).
    let m = ltb-true (k + 1) n u in
    and_from (nat_lt (k + 1) n) (T (k + 1) a) u (there_atom program n T T a (k + 1) (visible counts a (k + 1)) (ltb-true a (length program.atoms) right) m refl
    (rule_next program n S S k a false instance stable.closed member m stand h (λ c. absurd (false≢true c)) (λ b. subst (λ (x : GroundHead). In (instance_rule (Some (visible counts a (k + 1))) false lits b) (next_rules counts k x lits b)) (sym e) (inl refl))))) (λ (u : nat_lt (k + 1) n ≡ false).
    let last = end_at counts k in
    let more = lits ++ lit_of last ∷ [] in
    let holds : lits_hold S S more ≡ true = list_all-append (lit_holds S S) lits (lit_of last ∷ []) ∙ and_from (lits_hold S S lits) (S last && true) h (and_from (S last) true (full-end program n T T k l ∙ ap not u) refl) in
    absurd (met_at program n S k instance more stable member l stand holds (λ b. subst (λ (x : GroundHead). In (instance_rule None false more b) (head_rules counts k x lits b)) (sym e) (inl refl)))) (cases_Bool (nat_lt (k + 1) n))

implied : (a b : Bool) → (a ≡ true → b ≡ true) → (not a || b) ≡ true
implied true b h = h refl
implied false b h = refl

not_both : (a : Bool) → not a ≡ true → ((not a || false) && (not a || false)) ≡ true
not_both true h = h
not_both false h = refl

pub total_from_stable : (program : Ground) (n : ℕ) (T : Test) → IsGround program → IsStable (program_rules program n) (program_pairs program n) (full program n T T) → MeetsAll program n T T
total_from_stable program n T ground stable =
    let counts = counts_of program in
    let S : Set = full program n T T in
    let has : Has program n T S = record {
      atoms = λ a k m l t. atom_there program n T T a k (visible counts a k) m l refl t;
      ending = λ k l t. full-end program n T T k l ∙ t;
    } in
    let nodes : HasParts program n T T S (λ x. true) = λ x k within l q t. full-part program n T T x k within ∙ within_n k n (sat (node_formula program.nodes x) n T T k) l ∙ t in
    record {
      instances = λ instance contained k l demanded.
          let member = In-from_Contains program.instances instance contained in
          let right = right_instance program instance ground member in
          let body = sat (body_formula program.nodes instance.body) n T T k in
          let head = sat (head_formula instance.head) n T T k in
          let then : body ≡ true → head ≡ true = λ t.
          let w = instance_from program n T T S (λ x. true) k instance has nodes l right.1 (every_free instance.body) demanded t in
          found_head program n T k instance instance.head ground stable member l refl right.0 w.0 w.1 in
          arrow_holds body head body head then (implied body head then);
      pairs = λ pair contained k l.
          let member = In-from_Contains program.pairs pair contained in
          let range = pair_below program.atoms pair (subst (λ (all : List (ℕ × ℕ)). In pair all) ground.paired member) in
          let there : ℕ × ℕ = (visible counts pair.0 k, visible counts pair.1 k) in
          let found : In there (program_pairs program n) = In-flat_map (pairs_at program) k there (range_with_len 0 n) (range_from n 0 k (omega arith) (omega (arith, l))) (In-map (λ (p : ℕ × ℕ). (visible counts p.0 k, visible counts p.1 k)) pair program.pairs member) in
          let apart : not (S (visible counts pair.0 k) && S (visible counts pair.1 k)) ≡ true = In-list_all (λ (p : ℕ × ℕ). not (S p.0 && S p.1)) there (program_pairs program n) stable.apart found in
          let value : (p : ℕ) → p < length program.atoms → S (visible counts p k) ≡ T k p = λ p m. full-visible program n T T p k m ∙ (λ i. lt-ltb k n l i && T k p) in
          let e0 = value pair.0 range.0 in
          let e1 = value pair.1 range.1 in
          not_both (T k pair.0 && T k pair.1) (sym (λ i. not (e0 i && e1 i)) ∙ apart);
    }

pub minimal_from_stable : (program : Ground) (n : ℕ) (T : Test) → IsGround program → 0 < n → IsStable (program_rules program n) (program_pairs program n) (full program n T T) → (H : Test) → IsBelow n (length program.atoms) H T → MeetsAll program n H T → (k a : ℕ) → k < n → a < length program.atoms → T k a ≡ true → H k a ≡ true
minimal_from_stable program n T ground some stable H below meets k a l m t =
    let v = visible (counts_of program) a k in
    there_atom program n H T a k v m l refl (stable.least (full program n H T) (model_closed program n H T ground some below meets) v (atom_there program n T T a k v m l refl t))
