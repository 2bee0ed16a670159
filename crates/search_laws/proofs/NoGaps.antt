-- Where the variables of atoms, ends and open variables have values, all others have.
use Rattle.std.proofs.Common.{◌≡◌, ℕ, zero, suc, ◌<◌, true, List, [], ◌∷◌, ◌++◌, map, sym, ap, subst, ◌∙◌, inl, inr, ⊎_elim, arith}
use Rattle.std.specs.List.{flat_map, range_with_len}
use Rattle.std.proofs.lemmas.Bool.{false≢true}
use Rattle.tel_base.specs.declared.literals.Lit.{Lit}
use Rattle.tel_base.specs.Literals.{lit_of, negate, negations}
use Rattle.tel_base.proofs.Members.{In, In-append_left, In-append_right, In-append_cases, In-map_from, In-flat_map, In-flat_map_from}
use Rattle.normal_program.specs.declared.shapes.Shape.TheVariants as shapes
use Rattle.normal_program.specs.declared.shapes.NodeRule.{NodeRule}
use Rattle.normal_program.specs.declared.modules.BodyDef.{BodyDef}
use Rattle.normal_program.specs.declared.modules.StepModule.{StepModule}
use Rattle.normal_program.specs.ModuleClauses.{no_lit, listed, shape_clauses, use_clauses, stated_clauses}
use Rattle.normal_program.specs.StableSets.{Set}
use Rattle.clause_store.specs.Closure.{Clause, Lits}
use Rattle.completion.specs.Completions.{IsHead}
use Rattle.completion.proofs.Ranges.{range_from}
use Rattle.completion.proofs.StatedClauses.{of_body, of_node}
use Rattle.search_laws.specs.Founded.{IsKnown, AreModules}
use Rattle.search_laws.specs.Gaps.{has_value, IsLower, AreRanked, IsBaseTotal, NoGaps}
use Rattle.search_laws.proofs.Gaps.{shape_has_value}

module _ (steps : ℕ → StepModule) (n : ℕ) (plain : Set) (rank : ℕ → ℕ) (clauses : List Clause) (X : Lits) (modules : AreModules steps n plain) (ranked : AreRanked steps n rank) (total : IsBaseTotal steps n clauses X) where
  -- what is listed of stated clauses is held
  held : (t : ℕ) → t < n → (parts : List Clause) → ((clause : Clause) → In clause parts → In clause (stated_clauses (steps t))) → (clause : Clause) → In clause (flat_map listed parts) → In clause clauses
  held t l parts stated clause i =
      let w = In-flat_map_from listed clause parts i in
      total.held t l clause (In-flat_map listed w.0 clause (stated_clauses (steps t)) (stated w.0 w.1) w.2)

  node_value : (most t : ℕ) → t < n → (node : NodeRule) → In node (steps t).nodes → rank node.var < most → has_value X node.var ≡ true
  node_value zero t l node m r = absurd (omega (arith, r))
  node_value (suc most) t l node m r =
      shape_has_value clauses X node.var node.shape total.level (held t l (shape_clauses node.var node.shape) (λ clause i. of_node (steps t) node clause m i)) (λ clause lit i j.
      ⊎_elim (λ e. inl e) (λ rest. inr (⊎_elim (λ base. total.base lit.var base) (λ (lower : IsLower steps n rank node lit.var).
      let same = ap rank lower.is in
      let less = lower.lower in
      subst (λ (v : ℕ). has_value X v ≡ true) lower.is (node_value most lower.state lower.within lower.other lower.inside (omega (arith, same, less, r)))) rest)) (ranked.shapes t l node clause lit m i j)) (λ lits lit i j. ranked.apart t l node lits lit m i j)

  pub head_value : (t var : ℕ) → t < n → IsHead (steps t) var → has_value X var ≡ true
  head_value t var l h =
      ⊎_elim (λ a. total.base var (inl (In-flat_map (λ (u : ℕ). (steps u).atoms) t var (range_with_len 0 n) (range_from n 0 t (omega arith) (omega (arith, l))) a))) (λ (k : (node : NodeRule) × In node (steps t).nodes × (node.var ≡ var)).
      subst (λ (v : ℕ). has_value X v ≡ true) k.2 (node_value (suc (rank k.0.var)) t l k.0 k.1 (omega arith))) h

  pub known_value : (var : ℕ) → IsKnown steps n var → has_value X var ≡ true
  known_value var k =
      ⊎_elim (λ (h : (t : ℕ) × (t < n) × IsHead (steps t) var). head_value h.0 var h.1 h.2) (λ r. total.base var (inr r)) k

  pub body_value : (t : ℕ) (def : BodyDef) → t < n → In def (steps t).bodies → has_value X def.var ≡ true
  body_value t def l m =
      let shape = shapes.All def.lits in
      let units = map (λ (lit : Lit). no_lit def.var ∷ lit ∷ []) def.lits in
      let whole : Clause = lit_of def.var ∷ negations def.lits in
      let of_lit : (lit : Lit) → In lit def.lits → has_value X lit.var ≡ true = λ lit i. known_value lit.var (modules.known.bodies t l def lit m i) in
      shape_has_value clauses X def.var shape total.level (held t l (units ++ whole ∷ []) (λ clause i. of_body (steps t) def clause m (⊎_elim (λ a. In-append_left clause units (whole ∷ use_clauses (steps t).end def.var def.head) a) (λ b. ⊎_elim (λ (e : whole ≡ clause). In-append_right clause units (whole ∷ use_clauses (steps t).end def.var def.head) (inl e)) (λ none. absurd none) b) (In-append_cases clause units (whole ∷ []) i)))) (λ clause lit i j.
      ⊎_elim (λ a.
      let w = In-map_from (λ (k : Lit). no_lit def.var ∷ k ∷ []) clause def.lits a in
      ⊎_elim (λ (e : no_lit def.var ≡ lit). inl (sym (ap (λ (k : Lit). k.var) e))) (λ r. ⊎_elim (λ (e : w.0 ≡ lit). inr (subst (λ (k : Lit). has_value X k.var ≡ true) e (of_lit w.0 w.1))) (λ none. absurd none) r) (subst (λ (c : Clause). In lit c) (sym w.2) j)) (λ b.
      ⊎_elim (λ (e : whole ≡ clause).
      ⊎_elim (λ (s : lit_of def.var ≡ lit). inl (sym (ap (λ (k : Lit). k.var) s))) (λ r.
      let w = In-map_from negate lit def.lits r in
      inr (subst (λ (k : Lit). has_value X k.var ≡ true) w.2 (of_lit w.0 w.1))) (subst (λ (c : Clause). In lit c) (sym e) j)) (λ none. absurd none) b) (In-append_cases clause units (whole ∷ []) i)) (λ lits lit i j same.
      ⊎_elim (λ (e : def.lits ≡ lits).
      let p = modules.speak.bodies t l def lit m (subst (λ (ls : List Lit). In lit ls) (sym e) j) in
      false≢true (sym (modules.speak.no_body t l def m) ∙ (ap plain (sym same) ∙ p))) (λ none. absurd none) i)

pub no_gaps : NoGaps
no_gaps steps n plain rank clauses X modules ranked total =
    (head_value steps n plain rank clauses X modules ranked total, body_value steps n plain rank clauses X modules ranked total)
