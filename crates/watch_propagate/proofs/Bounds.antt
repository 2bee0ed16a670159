-- The variables of clauses are below a number.
use Rattle.std.proofs.Common.{◌≡◌, ℕ, true, List, [], ◌∷◌, ◌++◌, length, refl, ◌∙◌}
use Rattle.std.specs.Prelude.{nat_lt, ◌&&◌}
use Rattle.std.specs.List.{list_all}
use Rattle.std.proofs.lemmas.Bool.{and_parts, and_from}
use Rattle.std.proofs.lemmas.List.Folds.{list_all-append}
use Rattle.tel_base.specs.declared.literals.Lit.{Lit}
use Rattle.clause_store.specs.Held.{lacks, are_distinct, is_clause}
use Rattle.clause_store.specs.Closure.{Clause}
use Rattle.watch_propagate.specs.Propagation.{are_below}

distinct_below : (vars : ℕ) (lits : List Lit) → are_distinct vars lits ≡ true → list_all (λ (lit : Lit). nat_lt lit.var vars) lits ≡ true
distinct_below vars [] h = refl
distinct_below vars (lit ∷ more) h =
    let p = and_parts (nat_lt lit.var vars) (lacks lit.var more && are_distinct vars more) h in
    and_from (nat_lt lit.var vars) (list_all (λ (l : Lit). nat_lt l.var vars) more) p.0 (distinct_below vars more (and_parts (lacks lit.var more) (are_distinct vars more) p.1).1)

-- with a clause more
pub below_more : (vars : ℕ) (clauses : List Clause) (clause : Clause) → are_below vars clauses ≡ true → is_clause vars clause ≡ true → are_below vars (clauses ++ clause ∷ []) ≡ true
below_more vars clauses clause below is =
    let test = λ (c : Clause). list_all (λ (lit : Lit). nat_lt lit.var vars) c in
    list_all-append test clauses (clause ∷ []) ∙ and_from (are_below vars clauses) (test clause && true) below (and_from (test clause) true (distinct_below vars clause (and_parts (nat_lt 0 (length clause)) (are_distinct vars clause) is).1) refl)
