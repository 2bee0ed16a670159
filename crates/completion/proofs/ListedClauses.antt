-- A clause means what its list in order means, and one that is left out is true.
use Rattle.std.proofs.Common.{◌≡◌, ℕ, ◌+◌, ◌<◌, ◌==◌, Bool, true, false, cond, not, List, [], ◌∷◌, refl, sym, ap, subst, ◌∙◌, ◌⊎◌, inl, inr, ⊎_elim, arith}
use Rattle.std.proofs.lemmas.Bool.{cases_Bool, cond-true, cond-false, or_cases, not_from_false, false≢true, eqb-true}
use Rattle.tel_base.specs.declared.literals.Lit.{Lit}
use Rattle.tel_base.specs.Members.{In}
use Rattle.tel_base.proofs.Members.{any_found, any_from}
use Rattle.normal_program.specs.StableSets.{Set}
use Rattle.normal_program.specs.ModuleClauses.{rank, in_order, has_both, listed}
use Rattle.completion.specs.Completions.{lit_true, clause_true}
use Rattle.completion.proofs.Orders.{Rises, into_order, from_order, in_order_rises}

-- of two literals of a variable that aren't one, some is true
one_of : (S : Set) (v w : ℕ) (p q : Bool) → v ≡ w → cond p 1 0 < cond q 1 0 → (cond p (S v) (not (S v)) ≡ true) ⊎ (cond q (S w) (not (S w)) ≡ true)
one_of S v w true true e l = absurd (omega (arith, l))
one_of S v w true false e l = absurd (omega (arith, l))
one_of S v w false false e l = absurd (omega (arith, l))
one_of S v w false true e l =
    ⊎_elim (λ (t : S v ≡ true). inr (ap S (sym e) ∙ t)) (λ (f : S v ≡ false). inl (not_from_false (S v) f)) (cases_Bool (S v))

twice_below : (v w p q : ℕ) → v ≡ w → v + v + p < w + w + q → p < q
twice_below v w p q e l = omega (arith, e, l)

some_true : (S : Set) (a b : Lit) → a.var ≡ b.var → rank a < rank b → (lit_true S a ≡ true) ⊎ (lit_true S b ≡ true)
some_true S a b e l = one_of S a.var b.var a.positive b.positive e (twice_below a.var b.var (cond a.positive 1 0) (cond b.positive 1 0) e l)

-- a rising list with a literal and its negation has a true one
pub both_is_true : (S : Set) (xs : List Lit) → Rises xs → has_both xs ≡ true → (lit : Lit) × In lit xs × (lit_true S lit ≡ true)
unfolding has_both
both_is_true S [] r h = absurd (false≢true h)
both_is_true S (x ∷ []) r h = absurd (false≢true h)
both_is_true S (x ∷ y ∷ more) r h =
    ⊎_elim
    (λ (same : (x.var == y.var) ≡ true). ⊎_elim (λ t. (x, inl refl, t)) (λ t. (y, inr (inl refl), t)) (some_true S x y (eqb-true x.var y.var same) (r.0 y (inl refl))))
    (λ (later : has_both (y ∷ more) ≡ true). let w = both_is_true S (y ∷ more) r.1 later in (w.0, inr w.1, w.2))
    (or_cases (x.var == y.var) (has_both (y ∷ more)) h)

-- where the listed clauses are true the clause is
pub listed_means : (S : Set) (lits : List Lit) → ((clause : List Lit) → In clause (listed lits) → clause_true S clause ≡ true) → clause_true S lits ≡ true
listed_means S lits h =
    let found : ((lit : Lit) × In lit (in_order lits) × (lit_true S lit ≡ true)) → clause_true S lits ≡ true = λ w. any_from (lit_true S) lits w.0 (from_order w.0 lits w.1) w.2 in
    ⊎_elim
    (λ (both : has_both (in_order lits) ≡ true). found (both_is_true S (in_order lits) (in_order_rises lits) both))
    (λ (none : has_both (in_order lits) ≡ false).
    found (any_found (lit_true S) (in_order lits) (h (in_order lits) (subst (λ cs. In (in_order lits) cs) (sym (cond-false (has_both (in_order lits)) [] (in_order lits ∷ []) none)) (inl refl)))))
    (cases_Bool (has_both (in_order lits)))

-- where a clause is true the listed ones are
pub means_listed : (S : Set) (lits clause : List Lit) → clause_true S lits ≡ true → In clause (listed lits) → clause_true S clause ≡ true
means_listed S lits clause h i =
    let order : In clause (in_order lits ∷ []) → clause_true S clause ≡ true =
    λ m. ⊎_elim (λ (e : in_order lits ≡ clause). let w = any_found (lit_true S) lits h in subst (λ c. clause_true S c ≡ true) e (any_from (lit_true S) (in_order lits) w.0 (into_order w.0 lits w.1) w.2)) (λ k. absurd k) m in
    ⊎_elim
    (λ (both : has_both (in_order lits) ≡ true). absurd (subst (λ cs. In clause cs) (cond-true (has_both (in_order lits)) [] (in_order lits ∷ []) both) i))
    (λ (none : has_both (in_order lits) ≡ false). order (subst (λ cs. In clause cs) (cond-false (has_both (in_order lits)) [] (in_order lits ∷ []) none) i))
    (cases_Bool (has_both (in_order lits)))
