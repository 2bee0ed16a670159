-- A trail without gaps is total.
use Rattle.std.proofs.Common.{◌≡◌, ℕ, ◌-◌, ◌<◌, Bool, true, false, not, ◌||◌, List, [], ◌∷◌, ◌++◌, map, refl, sym, ap, subst, ◌∙◌, inl, inr, ⊎_elim}
use Rattle.std.specs.Prelude.{Option, Some, None, is_some}
use Rattle.std.specs.List.{filter}
use Rattle.std.proofs.lemmas.Bool.{false≢true}
use Rattle.tel_base.specs.declared.literals.Lit.{Lit}
use Rattle.tel_base.specs.Literals.{lit_of}
use Rattle.tel_base.proofs.Members.{In, In-append_cases, In-map_from, In-filter_from}
use Rattle.normal_program.specs.declared.rules.NRule.{NRule}
use Rattle.normal_program.specs.declared.shapes.NodeRule.{NodeRule}
use Rattle.normal_program.specs.declared.modules.BodyDef.{BodyDef}
use Rattle.normal_program.specs.declared.modules.StepModule.{StepModule}
use Rattle.normal_program.specs.Shapes.{shape_bodies, node_rule}
use Rattle.normal_program.specs.StableSets.{Set}
use Rattle.clause_store.specs.Closure.{Clause}
use Rattle.lit_trail.specs.declared.assignment.Entry.{Entry}
use Rattle.lit_trail.specs.declared.assignment.Spot.{Spot}
use Rattle.lit_trail.specs.Entries.{value_in, spot_in, spot_value}
use Rattle.lit_trail.specs.Sound.{holds}
use Rattle.lit_trail.specs.Sound as sounds
use Rattle.unfounded_sets.specs.Unfounded.{is_true, lits_by, body_lits}
use Rattle.unfounded_sets.specs.Unfounded as unfounded
use Rattle.completion.specs.Laws.{SatisfiesClauses}
use Rattle.completion.proofs.RuleLists.{rule_kind, source}
use Rattle.search_laws.specs.Lengths.{length_of}
use Rattle.search_laws.specs.Founded.{AreModules, IsTotalTrail}
use Rattle.search_laws.specs.Gaps.{has_value, AreRanked, IsBaseTotal, GapsAreTotal}
use Rattle.search_laws.proofs.Composing.{rule_from}
use Rattle.search_laws.proofs.FoundTrails.{true_holds, closed_makes_true}
use Rattle.search_laws.proofs.NoGaps.{head_value, known_value, body_value}
use Rattle.search_laws.proofs.Spoken.{module_says}

value_some : (positive : Bool) (spot : Option Spot) → (sounds.is_true (spot_value true spot) || sounds.is_true (spot_value false spot)) ≡ true → is_some (spot_value positive spot) ≡ true
value_some positive None h = absurd (false≢true h)
value_some positive (Some spot) h = refl

module _ (steps : ℕ → StepModule) (n : ℕ) (plain : Set) (rank : ℕ → ℕ) (clauses : List Clause) (entries : List Entry) (modules : AreModules steps n plain) (ranked : AreRanked steps n rank) (total : IsBaseTotal steps n clauses (holds entries)) where
  abbrev Valued : ℕ → Type 0
  Valued v = has_value (holds entries) v ≡ true

  some_value : (lit : Lit) → Valued lit.var → is_some (value_in entries lit) ≡ true
  some_value lit h = value_some lit.positive (spot_in entries lit.var) h

  of_body : (t : ℕ) (def : BodyDef) → t < n → In def (steps t).bodies → Valued def.var
  of_body t def l m = body_value steps n plain rank clauses (holds entries) modules ranked total t def l m

  of_end : (t : ℕ) → t < n → Valued (steps t).end
  of_end t l = total.base (steps t).end (inr (inl (t, l, refl)))

  -- ---- the bodies of rules

  node_lit : (t : ℕ) (node : NodeRule) (lits : List Lit) (test : Lit → Bool) (v : ℕ) → t < n → In node (steps t).nodes → In lits (shape_bodies node.shape) → In v (map (λ (lit : Lit). lit.var) (filter test lits)) → Valued v
  node_lit t node lits test v l m i j =
      let w = In-map_from (λ (lit : Lit). lit.var) v (filter test lits) j in
      subst Valued w.2 (known_value steps n plain rank clauses (holds entries) modules ranked total w.0.var (modules.known.shapes t l node lits w.0 m i (In-filter_from test w.0 lits w.1).0))

  rule_lit : (rule : NRule) (head : ℕ) (lit : Lit) → In rule (length_of steps n).ground.rules → rule.head ≡ Some head → In lit (body_lits rule) → Valued lit.var
  rule_lit rule head lit i is j =
      let r = rule_from steps n rule i in
      ⊎_elim (λ (m : In rule (steps r.0).rules).
      let s = source steps n r.0 rule head r.1 (modules.settled.each r.0 r.1) m is in
      let lits : body_lits rule ≡ lit_of s.def.var ∷ [] = ap (λ (o : Option ℕ). lits_by o rule.pos rule.neg) s.body in
      ⊎_elim (λ (e : lit_of s.def.var ≡ lit). subst (λ (k : Lit). Valued k.var) e (of_body s.state s.def s.within s.inside)) (λ none. absurd none) (subst (λ (ls : List Lit). In lit ls) lits j)) (λ (k : (node : NodeRule) × In node (steps r.0).nodes × ((lits : List Lit) × In lits (shape_bodies node.shape) × (node_rule node.var lits ≡ rule))).
      let lits : body_lits rule ≡ (map lit_of rule.pos ++ map unfounded.no_lit rule.neg) = ap (λ (o : Option ℕ). lits_by o rule.pos rule.neg) (sym (ap (λ (x : NRule). x.body) k.2.2)) in
      ⊎_elim (λ a.
      let w = In-map_from lit_of lit rule.pos a in
      subst (λ (x : Lit). Valued x.var) w.2 (node_lit r.0 k.0 k.2.0 (λ (x : Lit). x.positive) w.0 r.1 k.1 k.2.1 (subst (λ (vs : List ℕ). In w.0 vs) (sym (ap (λ (x : NRule). x.pos) k.2.2)) w.1))) (λ b.
      let w = In-map_from unfounded.no_lit lit rule.neg b in
      subst (λ (x : Lit). Valued x.var) w.2 (node_lit r.0 k.0 k.2.0 (λ (x : Lit). not x.positive) w.0 r.1 k.1 k.2.1 (subst (λ (vs : List ℕ). In w.0 vs) (sym (ap (λ (x : NRule). x.neg) k.2.2)) w.1))) (In-append_cases lit (map lit_of rule.pos) (map unfounded.no_lit rule.neg) (subst (λ (ls : List Lit). In lit ls) lits j))) (rule_kind (steps r.0) rule r.2)

  -- ---- the clauses of modules

  satisfied : SatisfiesClauses steps n (is_true entries)
  satisfied t l clause i =
      closed_makes_true clauses entries clause total.level (total.held t l clause i) (λ lit j.
      some_value lit (module_says steps n plain rank Valued modules ranked (head_value steps n plain rank clauses (holds entries) modules ranked total) of_end of_body (λ var o. total.base var (inr (inr o))) t l clause lit i j))

  pub all_values : holds entries (lit_of (steps (n - 1)).end) ≡ true → IsTotalTrail steps n entries
  all_values ended = record {
    satisfies = satisfied;
    ended = true_holds entries (steps (n - 1)).end ∙ ended;
    total = λ rule head lit i is j. some_value lit (rule_lit rule head lit i is j);
  }

pub gaps_are_total : GapsAreTotal
gaps_are_total steps n plain rank clauses entries modules ranked total ended = all_values steps n plain rank clauses entries modules ranked total ended
