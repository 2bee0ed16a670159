-- Where the end of a length holds, the ends before it and the open variables have values.
use Rattle.std.proofs.Common.{◌≡◌, ℕ, zero, suc, ◌+◌, ◌-◌, ◌<◌, true, false, List, [], ◌∷◌, refl, sym, ap, subst, ◌∙◌, ◌⊎◌, inl, inr, ⊎_elim, arith}
use Rattle.std.specs.Prelude.{Option, Some}
use Rattle.std.proofs.lemmas.Bool.{or_left, cases_order, false≢true}
use Rattle.tel_base.specs.declared.literals.Lit.{Lit}
use Rattle.tel_base.specs.Literals.{lit_of}
use Rattle.tel_base.proofs.Members.{In, In-flat_map}
use Rattle.normal_program.specs.declared.modules.StepModule.{StepModule}
use Rattle.normal_program.specs.ModuleClauses.{no_lit, listed, open_clause, close_clauses, stated_clauses, clauses_of}
use Rattle.clause_store.specs.Closure.{Clause, Lits}
use Rattle.completion.specs.Completions.{AreSettled}
use Rattle.completion.proofs.FromClauses.{alone_false, then_false}
use Rattle.completion.proofs.StatedClauses.{of_close, of_open}
use Rattle.search_laws.specs.Gaps.{has_value, IsBase, IsVisibleTotal, VisibleIsBase}
use Rattle.search_laws.proofs.Gaps.{filled, filled_at, filled_off, cases_var, value_by}

module _ (steps : ℕ → StepModule) (n : ℕ) (clauses : List Clause) (X : Lits) (some : 0 < n) (settled : AreSettled steps n) (total : IsVisibleTotal steps n clauses X) where
  held : (t : ℕ) → t < n → (clause one : Clause) → In clause (stated_clauses (steps t)) → In one (listed clause) → In one clauses
  held t l clause one i m = total.held t l one (In-flat_map listed clause one (stated_clauses (steps t)) i m)

  in_close : (e : ℕ) (close : Option Lit) → close ≡ Some (no_lit e) → In (no_lit e ∷ []) (close_clauses close)
  in_close e close is = subst (λ o. In (no_lit e ∷ []) (close_clauses o)) (sym is) (inl refl)

  ended : has_value X (steps (n - 1)).end ≡ true
  ended = or_left (X (lit_of (steps (n - 1)).end)) (X (no_lit (steps (n - 1)).end)) total.ended

  earlier : (t : ℕ) → t < n - 1 → has_value X (steps t).end ≡ true
  earlier t l =
      let next : suc t < n = omega (arith, l, some) in
      let x = (steps t).end in
      let stated = of_close (steps (suc t)) (no_lit x ∷ []) (in_close x (steps (suc t)).close (settled.each (suc t) next).close) in
      value_by clauses X x (no_lit x ∷ []) total.level (λ one m. held (suc t) next (no_lit x ∷ []) one stated m) (λ lit i. inl (⊎_elim (λ (e : no_lit x ≡ lit). ap (λ (k : Lit). k.var) (sym e)) (λ m. absurd m) i)) (λ h. false≢true (sym (alone_false (filled X x true) x h) ∙ filled_at X x true))

  ends : (t : ℕ) → t < n → has_value X (steps t).end ≡ true
  ends t l =
      ⊎_elim (λ (e : t ≡ n - 1). subst (λ (k : ℕ). has_value X (steps k).end ≡ true) (sym e) ended) (λ ne. ⊎_elim (λ (m : t < n - 1). earlier t m) (λ (m : n - 1 < t). absurd (omega (arith, m, l))) ne) (cases_order t (n - 1))

  opens : (var : ℕ) → In var (steps (n - 1)).open_vars → has_value X var ≡ true
  opens var m =
      let last : n - 1 < n = omega (arith, some) in
      let e = (steps (n - 1)).end in
      ⊎_elim
      (λ (same : e ≡ var). subst (λ (v : ℕ). has_value X v ≡ true) same ended)
      (λ apart.
      let S = filled X var true in
      value_by clauses X var (open_clause e var) total.level (λ one i. held (n - 1) last (open_clause e var) one (of_open (steps (n - 1)) var m) i)
      (λ lit i. ⊎_elim (λ (f : no_lit e ≡ lit). inr (subst (λ (k : Lit). has_value X k.var ≡ true) f ended)) (λ r. inl (⊎_elim (λ (f : no_lit var ≡ lit). ap (λ (k : Lit). k.var) (sym f)) (λ k. absurd k) r)) i)
      (λ h. false≢true (sym (then_false S e var (filled_off X var true e apart ∙ total.ended) h) ∙ filled_at X var true)))
      (cases_var e var)

  pub base : (var : ℕ) → IsBase steps n var → has_value X var ≡ true
  base var b =
      ⊎_elim (λ i. total.visible var i) (λ r. ⊎_elim (λ k. subst (λ (v : ℕ). has_value X v ≡ true) k.2 (ends k.0 k.1)) (λ i. opens var i) r) b

pub visible_is_base : VisibleIsBase
visible_is_base steps n clauses X some settled total = record {
  level = total.level;
  held = total.held;
  base = base steps n clauses X some settled total;
}
