-- What holds of the heads, the ends, the bodies and the last open variables of modules holds of each variable of their clauses.
use Rattle.std.proofs.Common.{◌≡◌, ℕ, zero, suc, ◌-◌, ◌<◌, Bool, true, false, List, [], ◌∷◌, map, refl, sym, ap, subst, ◌∙◌, inl, inr, ⊎_elim, arith}
use Rattle.std.specs.Prelude.{Option, Some}
use Rattle.std.specs.List.{flat_map, range_with_len}
use Rattle.std.proofs.lemmas.Option.{same_Some}
use Rattle.tel_base.specs.declared.literals.Lit.{Lit}
use Rattle.tel_base.specs.Literals.{lit_of, negate, negations}
use Rattle.tel_base.proofs.Members.{In, In-append_left, In-append_right, In-append_cases, In-map_from, In-flat_map, In-flat_map_from}
use Rattle.normal_program.specs.declared.rules.NRule.{NRule}
use Rattle.normal_program.specs.declared.shapes.NodeRule.{NodeRule}
use Rattle.normal_program.specs.declared.modules.BodyHead.{BodyHead}
use Rattle.normal_program.specs.declared.modules.BodyHead.TheVariants as uses
use Rattle.normal_program.specs.declared.modules.BodyDef.{BodyDef}
use Rattle.normal_program.specs.declared.modules.StepModule.{StepModule}
use Rattle.normal_program.specs.Rules.{rule_of}
use Rattle.normal_program.specs.ModuleClauses.{no_lit, listed, shape_clauses, use_clauses, body_clauses, later_rules, head_clauses, later_clauses, bodies_with, support_clause, close_clauses, stated_clauses, clauses_of}
use Rattle.normal_program.specs.StableSets.{Set}
use Rattle.clause_store.specs.Closure.{Clause}
use Rattle.completion.specs.Completions.{own_rules, close_at, IsHead}
use Rattle.completion.proofs.RuleLists.{source, later_are}
use Rattle.completion.proofs.StatedClauses.{stated_all, from_bodies_with}
use Rattle.completion.proofs.Ranges.{range_cases}
use Rattle.search_laws.specs.Founded.{IsKnown, AreModules}
use Rattle.search_laws.specs.Gaps.{IsBase, IsLower, AreRanked}
use Rattle.search_laws.proofs.Gaps.{from_listed}

module _ (steps : ℕ → StepModule) (n : ℕ) (plain : Set) (rank : ℕ → ℕ) (P : ℕ → Type 0) (modules : AreModules steps n plain) (ranked : AreRanked steps n rank) (heads : (t var : ℕ) → t < n → IsHead (steps t) var → P var) (ends : (t : ℕ) → t < n → P (steps t).end) (bodies : (t : ℕ) (def : BodyDef) → t < n → In def (steps t).bodies → P def.var) (opens : (var : ℕ) → In var (steps (n - 1)).open_vars → P var) where
  of_known : (var : ℕ) → IsKnown steps n var → P var
  of_known var k =
      ⊎_elim (λ (h : (t : ℕ) × (t < n) × IsHead (steps t) var). heads h.0 var h.1 h.2) (λ r. ⊎_elim (λ (e : (t : ℕ) × (t < n) × ((steps t).end ≡ var)). subst P e.2 (ends e.0 e.1)) (λ o. opens var o) r) k

  of_base : (var : ℕ) → IsBase steps n var → P var
  of_base var b =
      ⊎_elim (λ i.
      let w = In-flat_map_from (λ (t : ℕ). (steps t).atoms) var (range_with_len 0 n) i in
      let below = (range_cases n 0 w.0 w.1).1 in
      heads w.0 var (omega (arith, below)) (inl w.2)) (λ r. of_known var (inr r)) b

  -- ---- the clauses of modules

  abbrev AllSaid : Clause → Type 0
  AllSaid clause = (lit : Lit) → In lit clause → P lit.var

  none_more : AllSaid []
  none_more lit i = absurd i

  one_more : (first : Lit) (rest : Clause) → P first.var → AllSaid rest → AllSaid (first ∷ rest)
  one_more first rest h more lit i = ⊎_elim (λ (e : first ≡ lit). subst (λ (k : Lit). P k.var) e h) (λ m. more lit m) i

  of_one : (part clause : Clause) → AllSaid part → In clause (part ∷ []) → AllSaid clause
  of_one part clause h i = ⊎_elim (λ (e : part ≡ clause). subst AllSaid e h) (λ none. absurd none) i

  of_node : (t : ℕ) (node : NodeRule) → t < n → In node (steps t).nodes → P node.var
  of_node t node l m = heads t node.var l (inr (node, m, refl))

  close_said : (t : ℕ) → t < n → (clause : Clause) → In clause (close_clauses (close_at steps t)) → AllSaid clause
  close_said zero l clause i = absurd i
  close_said (suc t) l clause i = of_one (no_lit (steps t).end ∷ []) clause (one_more (no_lit (steps t).end) [] (ends t (omega (arith, l))) none_more) i

  use_said : (t : ℕ) → t < n → (def : BodyDef) → In def (steps t).bodies → (kind : BodyHead) → def.head ≡ kind → (clause : Clause) → In clause (use_clauses (steps t).end def.var kind) → AllSaid clause
  use_said t l def m (uses.Normal head) is clause i =
      let rule = rule_of (Some head) false def.lits (Some def.var) in
      let settled = modules.settled.each t l in
      let own : In rule (own_rules (steps t).end def) = subst (λ (k : BodyHead). In rule (own_rules (steps t).end (record { var = def.var; lits = def.lits; head = k }))) (sym is) (inl refl) in
      let there : In rule (steps t).rules = subst (λ (rs : List NRule). In rule rs) (sym settled.rules) (In-append_left rule (flat_map (own_rules (steps t).end) (steps t).bodies) settled.later (In-flat_map (own_rules (steps t).end) def rule (steps t).bodies m own)) in
      of_one (lit_of head ∷ no_lit def.var ∷ []) clause (one_more (lit_of head) (no_lit def.var ∷ []) (heads t head l (inl (settled.heads rule head there refl))) (one_more (no_lit def.var) [] (bodies t def l m) none_more)) i
  use_said t l def m (uses.Choice head) is clause i = absurd i
  use_said t l def m uses.Nothing is clause i = of_one (no_lit def.var ∷ []) clause (one_more (no_lit def.var) [] (bodies t def l m) none_more) i
  use_said t l def m uses.NextNormal is clause i = of_one (no_lit def.var ∷ no_lit (steps t).end ∷ []) clause (one_more (no_lit def.var) (no_lit (steps t).end ∷ []) (bodies t def l m) (one_more (no_lit (steps t).end) [] (ends t l) none_more)) i
  use_said t l def m uses.NextChoice is clause i = absurd i

  body_said : (t : ℕ) → t < n → (def : BodyDef) → In def (steps t).bodies → (clause : Clause) → In clause (body_clauses (steps t).end def) → AllSaid clause
  body_said t l def m clause i =
      let units = map (λ (lit : Lit). no_lit def.var ∷ lit ∷ []) def.lits in
      let whole : Clause = lit_of def.var ∷ negations def.lits in
      let var = bodies t def l m in
      let of_lit : (lit : Lit) → In lit def.lits → P lit.var = λ lit j. of_known lit.var (modules.known.bodies t l def lit m j) in
      ⊎_elim (λ a.
      let w = In-map_from (λ (k : Lit). no_lit def.var ∷ k ∷ []) clause def.lits a in
      subst AllSaid w.2 (one_more (no_lit def.var) (w.0 ∷ []) var (one_more w.0 [] (of_lit w.0 w.1) none_more))) (λ b. ⊎_elim (λ (e : whole ≡ clause).
      subst AllSaid e (one_more (lit_of def.var) (negations def.lits) var (λ lit j. let w = In-map_from negate lit def.lits j in subst (λ (k : Lit). P k.var) w.2 (of_lit w.0 w.1)))) (λ c. use_said t l def m def.head refl clause c) b) (In-append_cases clause units (whole ∷ use_clauses (steps t).end def.var def.head) i)

  later_said : (t : ℕ) → t < n → (rule : NRule) → In rule (later_rules (steps t)) → (clause : Clause) → In clause (later_clauses rule) → AllSaid clause
  later_said t l rule m clause i =
      let settled = modules.settled.each t l in
      let later : In rule settled.later = subst (λ (rs : List NRule). In rule rs) (later_are (steps t) settled.later settled.rules) m in
      let k = settled.each_later rule later in
      let first = k.positive in
      let there : In rule (steps t).rules = subst (λ (rs : List NRule). In rule rs) (sym settled.rules) (In-append_right rule (flat_map (own_rules (steps t).end) (steps t).bodies) settled.later later) in
      let atom = heads t k.head l (inl (settled.heads rule k.head there (ap (λ (r : NRule). r.head) k.is))) in
      let body = bodies (t - 1) k.def (omega (arith, l, first)) k.before in
      let at : In clause (head_clauses rule.choice (Some k.head) (Some k.def.var)) = subst (λ (r : NRule). In clause (head_clauses rule.choice r.head r.body)) k.is i in
      (elim (rule.choice) as (λ (c : Bool). In clause (head_clauses c (Some k.head) (Some k.def.var)) → AllSaid clause) [
        | true ↦ λ none. absurd none
        | false ↦ λ j. of_one (lit_of k.head ∷ no_lit k.def.var ∷ []) clause (one_more (lit_of k.head) (no_lit k.def.var ∷ []) atom (one_more (no_lit k.def.var) [] body none_more)) j
      ]) at

  support_said : (t : ℕ) → t < n → (atom : ℕ) → In atom (steps t).atoms → AllSaid (support_clause (steps t).rules atom)
  support_said t l atom m =
      one_more (no_lit atom) (map lit_of (bodies_with (steps t).rules atom)) (heads t atom l (inl m)) (λ lit j.
      let w = In-map_from lit_of lit (bodies_with (steps t).rules atom) j in
      let r = from_bodies_with (steps t).rules atom w.0 w.1 in
      let s = source steps n t r.0 atom l (modules.settled.each t l) r.1 r.2 in
      let same : s.def.var ≡ w.0 = same_Some s.def.var w.0 (sym s.body ∙ r.3) in
      subst (λ (k : Lit). P k.var) w.2 (subst P same (bodies s.state s.def s.within s.inside)))

  shape_said : (t : ℕ) → t < n → (node : NodeRule) → In node (steps t).nodes → (clause : Clause) → In clause (shape_clauses node.var node.shape) → AllSaid clause
  shape_said t l node m clause i lit j =
      ⊎_elim (λ (e : lit.var ≡ node.var). subst P (sym e) (of_node t node l m)) (λ rest. ⊎_elim (λ base. of_base lit.var base) (λ (lower : IsLower steps n rank node lit.var). subst P lower.is (of_node lower.state lower.other lower.within lower.inside)) rest) (ranked.shapes t l node clause lit m i j)

  stated_said : (t : ℕ) → t < n → (clause : Clause) → In clause (stated_clauses (steps t)) → AllSaid clause
  stated_said t l clause i =
      stated_all (steps t) AllSaid (λ c j. close_said t l c (subst (λ (o : Option Lit). In c (close_clauses o)) (modules.settled.each t l).close j)) (body_said t l) (later_said t l) (support_said t l) (shape_said t l) (λ pair m.
      let p = modules.known.pairs t l pair m in
      one_more (no_lit pair.0) (no_lit pair.1 ∷ []) (of_known pair.0 p.0) (one_more (no_lit pair.1) [] (of_known pair.1 p.1) none_more)) (λ var m. one_more (no_lit (steps t).end) (no_lit var ∷ []) (ends t l) (one_more (no_lit var) [] (of_known var (modules.known.opens t l var m)) none_more)) clause i

  pub module_says : (t : ℕ) → t < n → (clause : Clause) (lit : Lit) → In clause (clauses_of (steps t)) → In lit clause → P lit.var
  module_says t l clause lit i j =
      let w = In-flat_map_from listed clause (stated_clauses (steps t)) i in
      stated_said t l w.0 w.1 lit (from_listed w.0 clause lit w.2 j)
