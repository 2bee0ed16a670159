-- The walks of `a :- not b. b :- not a.` at the length 1, worked out by hand. The variables are 0 for a, 1 for b, 2 and 3 for the bodies `not b` and
-- `not a`, and 4 for the end.
use Rattle.std.proofs.Common.{◌≡◌, true, ◌||◌, List, [], ◌∷◌, ◌++◌, refl, subst, inl, inr, ⊎_elim}
use Rattle.std.specs.Prelude.{◌==◌}
use Rattle.std.proofs.lemmas.Bool.{false≢true}
use Rattle.tel_base.specs.declared.literals.Lit.{Lit}
use Rattle.tel_base.specs.Literals.{lit_of, negate}
use Rattle.normal_program.specs.ModuleClauses.{no_lit}
use Rattle.normal_program.specs.StableSets.{Set}
use Rattle.clause_store.specs.Closure.{Clause, Up}
use Rattle.clause_store.proofs.Closures.{up_start, up_keeps}
use Rattle.search_laws.specs.Walks.{HasValue, IsTotalWalk, IsClosedWalk, Before}
use Rattle.search_laws.specs.Laws.{all_true}
use Rattle.search_laws.proofs.Truths.{up_true, no_conflict}

-- the variable of `not b` has its value, and a follows; the same of `not a` and b; a and b have support
abbrev module_clauses : List Clause
module_clauses =
    (no_lit 1 ∷ no_lit 2 ∷ []) ∷ (lit_of 1 ∷ lit_of 2 ∷ []) ∷ (lit_of 0 ∷ no_lit 2 ∷ [])
    ∷ (no_lit 0 ∷ no_lit 3 ∷ []) ∷ (lit_of 0 ∷ lit_of 3 ∷ []) ∷ (lit_of 1 ∷ no_lit 3 ∷ [])
    ∷ (no_lit 0 ∷ lit_of 2 ∷ []) ∷ (no_lit 1 ∷ lit_of 3 ∷ [])
    ∷ []

abbrev end_alone : List Lit
end_alone = lit_of 4 ∷ []

-- its two stable sets, with the values of the bodies
abbrev with_b : Set
with_b v = (v == 1) || ((v == 3) || (v == 4))

abbrev with_a : Set
with_a v = (v == 0) || ((v == 2) || (v == 4))

both_satisfy : (all_true with_b module_clauses ≡ true) × (all_true with_a module_clauses ≡ true)
both_satisfy = (refl, refl)

-- from the end alone a has no value
a_is_free : HasValue module_clauses end_alone 0 → ⊥
a_is_free value =
    ⊎_elim (λ up. false≢true (up_true with_b module_clauses end_alone (lit_of 0) refl refl up)) (λ up. false≢true (up_true with_a module_clauses end_alone (no_lit 0) refl refl up)) value

abbrev first_decisions : List Lit
first_decisions = no_lit 0 ∷ end_alone

-- where a is false, `not a` is true
not_a_holds : Up module_clauses first_decisions (lit_of 3)
not_a_holds = up_keeps module_clauses first_decisions (lit_of 0 ∷ lit_of 3 ∷ []) (lit_of 3) (inr (inr (inr (inr (inl refl))))) (inr (inl refl)) (λ other i.
    ⊎_elim (λ (e : lit_of 0 ≡ other). subst (λ (lit : Lit). Up module_clauses first_decisions (negate lit)) e (up_start module_clauses first_decisions (no_lit 0) (inl refl))) (λ m. absurd m) i)

-- and b
b_holds : Up module_clauses first_decisions (lit_of 1)
b_holds = up_keeps module_clauses first_decisions (lit_of 1 ∷ no_lit 3 ∷ []) (lit_of 1) (inr (inr (inr (inr (inr (inl refl)))))) (inl refl) (λ other i.
    ⊎_elim (λ (e : no_lit 3 ≡ other). subst (λ (lit : Lit). Up module_clauses first_decisions (negate lit)) e not_a_holds) (λ m. absurd m) i)

-- so the first walk decides that a is false, and is total
first_walk : IsTotalWalk module_clauses 4 (0 ∷ 1 ∷ []) first_decisions
first_walk = record {
  begins = no_conflict with_b module_clauses end_alone refl refl;
  goes = inr (a_is_free, no_conflict with_b module_clauses first_decisions refl refl, inl (inl b_holds, refl));
}

-- its set is blocked: the trace doesn't end here, or a is true
abbrev with_first : List Clause
with_first = module_clauses ++ (lit_of 0 ∷ no_lit 4 ∷ []) ∷ []

a_holds : Up with_first end_alone (lit_of 0)
a_holds = up_keeps with_first end_alone (lit_of 0 ∷ no_lit 4 ∷ []) (lit_of 0) (inr (inr (inr (inr (inr (inr (inr (inr (inl refl))))))))) (inl refl) (λ other i.
    ⊎_elim (λ (e : no_lit 4 ≡ other). subst (λ (lit : Lit). Up with_first end_alone (negate lit)) e (up_start with_first end_alone (lit_of 4) (inl refl))) (λ m. absurd m) i)

not_b_holds : Up with_first end_alone (lit_of 2)
not_b_holds = up_keeps with_first end_alone (no_lit 0 ∷ lit_of 2 ∷ []) (lit_of 2) (inr (inr (inr (inr (inr (inr (inl refl))))))) (inr (inl refl)) (λ other i.
    ⊎_elim (λ (e : no_lit 0 ≡ other). subst (λ (lit : Lit). Up with_first end_alone (negate lit)) e a_holds) (λ m. absurd m) i)

b_is_false : Up with_first end_alone (no_lit 1)
b_is_false = up_keeps with_first end_alone (no_lit 1 ∷ no_lit 2 ∷ []) (no_lit 1) (inl refl) (inl refl) (λ other i.
    ⊎_elim (λ (e : no_lit 2 ≡ other). subst (λ (lit : Lit). Up with_first end_alone (negate lit)) e not_b_holds) (λ m. absurd m) i)

-- the second walk decides nothing
second_walk : IsTotalWalk with_first 4 (0 ∷ 1 ∷ []) end_alone
second_walk = record {
  begins = no_conflict with_a with_first end_alone refl refl;
  goes = inl (inl a_holds, inl (inr b_is_false, refl));
}

-- its set comes second
in_order : Before (0 ∷ 1 ∷ []) with_b with_a
in_order = inl (refl, refl)

-- with its blocking clause, that the trace doesn't end here, the third walk is closed
abbrev with_second : List Clause
with_second = with_first ++ (no_lit 4 ∷ []) ∷ []

third_walk : IsClosedWalk with_second 4
third_walk = inr (
  no_lit 4 ∷ [],
  inr (inr (inr (inr (inr (inr (inr (inr (inr (inl refl))))))))),
  λ lit i.
      ⊎_elim (λ (e : no_lit 4 ≡ lit). subst (λ (l : Lit). Up with_second end_alone (negate l)) e (up_start with_second end_alone (lit_of 4) (inl refl))) (λ m. absurd m) i,
)
