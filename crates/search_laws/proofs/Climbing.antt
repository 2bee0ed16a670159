-- The levels of a trail are the walk.
use Rattle.std.proofs.Common.{◌≡◌, ℕ, Bool, true, false, not, ◌||◌, List, [], ◌∷◌, refl, sym, subst, ◌∙◌, inl, inr, ⊎_elim}
use Rattle.std.specs.Prelude.{Some, None}
use Rattle.std.specs.List.{find}
use Rattle.std.proofs.lemmas.Bool.{cases_Bool, cond-true, cond-false, or_left, or_right, or_cases, or_parts, not_from_true, not-true, not-false, false≢true}
use Rattle.tel_base.specs.declared.literals.Lit.{Lit}
use Rattle.tel_base.specs.Literals.{lit_of}
use Rattle.normal_program.specs.ModuleClauses.{no_lit}
use Rattle.clause_store.specs.Closure.{Clause, Lits, Up, Conflict, IsClosure}
use Rattle.clause_store.proofs.Closures.{up_start, up_grows}
use Rattle.completion.proofs.RuleLists.{some_is, not_none}
use Rattle.search_laws.specs.Walks.{HasValue, WalksOn, SticksOn}

-- whether a variable has no value in X
abbrev pub is_free : Lits → ℕ → Bool
is_free X v = not (X (lit_of v) || X (no_lit v))

-- each further level is the closure of one decision more, which makes the first variable without a value false; the last one has no such variable
abbrev pub GoesUp : List Clause → List ℕ → List Lit → Lits → List (ℕ × Lits) → List Lit → Type 0
GoesUp clauses seen decisions X [] ending = (find (is_free X) seen ≡ None) × (decisions ≡ ending)
GoesUp clauses seen decisions X (next ∷ more) ending =
    (find (is_free X) seen ≡ Some next.0) × IsClosure clauses (no_lit next.0 ∷ decisions) next.1 × GoesUp clauses seen (no_lit next.0 ∷ decisions) next.1 more ending

-- the same up to a level that conflicts
abbrev pub GoesUpTo : List Clause → List ℕ → List Lit → Lits → List (ℕ × Lits) → List Lit → Type 0
GoesUpTo clauses seen decisions X [] ending = (v : ℕ) × (find (is_free X) seen ≡ Some v) × Conflict clauses (no_lit v ∷ decisions) × ((no_lit v ∷ decisions) ≡ ending)
GoesUpTo clauses seen decisions X (next ∷ more) ending =
    (find (is_free X) seen ≡ Some next.0) × IsClosure clauses (no_lit next.0 ∷ decisions) next.1 × GoesUpTo clauses seen (no_lit next.0 ∷ decisions) next.1 more ending

-- a level above has all of a level
level_more : (clauses : List Clause) (decisions : List Lit) (X Y : Lits) (next lit : Lit) → IsClosure clauses decisions X → IsClosure clauses (next ∷ decisions) Y → X lit ≡ true → Y lit ≡ true
level_more clauses decisions X Y next lit low high t =
    high.whole lit (up_grows clauses clauses decisions (next ∷ decisions) (λ c i. i) (λ l i. up_start clauses (next ∷ decisions) l (inr i)) lit (low.derived lit t))

valued_more : (clauses : List Clause) (decisions : List Lit) (X Y : Lits) (next : Lit) (v : ℕ) → IsClosure clauses decisions X → IsClosure clauses (next ∷ decisions) Y → is_free X v ≡ false → is_free Y v ≡ false
valued_more clauses decisions X Y next v low high f =
    let some = not-false (X (lit_of v) || X (no_lit v)) f in
    not_from_true (Y (lit_of v) || Y (no_lit v)) (⊎_elim (λ t. or_left (Y (lit_of v)) (Y (no_lit v)) (level_more clauses decisions X Y next (lit_of v) low high t)) (λ t. or_right (Y (lit_of v)) (Y (no_lit v)) (level_more clauses decisions X Y next (no_lit v) low high t)) (or_cases (X (lit_of v)) (X (no_lit v)) some))

-- a variable that has a value is passed by at all further levels
skip : (clauses : List Clause) (v : ℕ) (seen : List ℕ) (decisions : List Lit) (X : Lits) (levels : List (ℕ × Lits)) (ending : List Lit) → IsClosure clauses decisions X → is_free X v ≡ false → GoesUp clauses (v ∷ seen) decisions X levels ending → GoesUp clauses seen decisions X levels ending
skip clauses v seen decisions X [] ending level f up =
    (sym (cond-false (is_free X v) (Some v) (find (is_free X) seen) f) ∙ up.0, up.1)
skip clauses v seen decisions X (next ∷ more) ending level f up =
    (sym (cond-false (is_free X v) (Some v) (find (is_free X) seen) f) ∙ up.0, up.1, skip clauses v seen (no_lit next.0 ∷ decisions) next.1 more ending up.1 (valued_more clauses decisions X next.1 (no_lit next.0) v level up.1 f) up.2)

value_at : (clauses : List Clause) (decisions : List Lit) (X : Lits) (v : ℕ) → IsClosure clauses decisions X → is_free X v ≡ false → HasValue clauses decisions v
value_at clauses decisions X v level f =
    ⊎_elim (λ t. inl (level.derived (lit_of v) t)) (λ t. inr (level.derived (no_lit v) t)) (or_cases (X (lit_of v)) (X (no_lit v)) (not-false (X (lit_of v) || X (no_lit v)) f))

no_value_at : (clauses : List Clause) (decisions : List Lit) (X : Lits) (v : ℕ) → IsClosure clauses decisions X → is_free X v ≡ true → HasValue clauses decisions v → ⊥
no_value_at clauses decisions X v level f value =
    let p = or_parts (X (lit_of v)) (X (no_lit v)) (not-true (X (lit_of v) || X (no_lit v)) f) in
    ⊎_elim (λ (y : Up clauses decisions (lit_of v)). false≢true (sym p.0 ∙ level.whole (lit_of v) y)) (λ (m : Up clauses decisions (no_lit v)). false≢true (sym p.1 ∙ level.whole (no_lit v) m)) value

open_step : (clauses : List Clause) (v : ℕ) (seen : List ℕ) (decisions : List Lit) (X : Lits) (levels : List (ℕ × Lits)) (ending : List Lit) → ((decisions : List Lit) (X : Lits) (levels : List (ℕ × Lits)) → IsClosure clauses decisions X → GoesUp clauses seen decisions X levels ending → WalksOn clauses decisions seen ending) → IsClosure clauses decisions X → is_free X v ≡ true → GoesUp clauses (v ∷ seen) decisions X levels ending → WalksOn clauses decisions (v ∷ seen) ending
open_step clauses v seen decisions X [] ending go level f up = absurd (not_none v (sym (cond-true (is_free X v) (Some v) (find (is_free X) seen) f) ∙ up.0))
open_step clauses v seen decisions X (next ∷ more) ending go level f up =
    let is : v ≡ next.0 = some_is v next.0 (sym (cond-true (is_free X v) (Some v) (find (is_free X) seen) f) ∙ up.0) in
    let Y = next.1 in
    let here : IsClosure clauses (no_lit v ∷ decisions) Y = subst (λ (u : ℕ). IsClosure clauses (no_lit u ∷ decisions) Y) (sym is) up.1 in
    let rest : GoesUp clauses (v ∷ seen) (no_lit v ∷ decisions) Y more ending = subst (λ (u : ℕ). GoesUp clauses (v ∷ seen) (no_lit u ∷ decisions) Y more ending) (sym is) up.2 in
    let valued : is_free Y v ≡ false = not_from_true (Y (lit_of v) || Y (no_lit v)) (or_right (Y (lit_of v)) (Y (no_lit v)) (here.whole (no_lit v) (up_start clauses (no_lit v ∷ decisions) (no_lit v) (inl refl)))) in
    inr (no_value_at clauses decisions X v level f, here.calm, go (no_lit v ∷ decisions) Y more here (skip clauses v seen (no_lit v ∷ decisions) Y more ending here valued rest))

walks_empty : (clauses : List Clause) (decisions : List Lit) (X : Lits) (levels : List (ℕ × Lits)) (ending : List Lit) → GoesUp clauses [] decisions X levels ending → decisions ≡ ending
walks_empty clauses decisions X [] ending up = up.1
walks_empty clauses decisions X (next ∷ more) ending up = absurd (not_none next.0 (sym up.0))

-- at the first variable without a value the next level begins
pub climb : (clauses : List Clause) (seen : List ℕ) (decisions : List Lit) (X : Lits) (levels : List (ℕ × Lits)) (ending : List Lit) → IsClosure clauses decisions X → GoesUp clauses seen decisions X levels ending → WalksOn clauses decisions seen ending
climb clauses [] decisions X levels ending level up = walks_empty clauses decisions X levels ending up
climb clauses (v ∷ seen) decisions X levels ending level up =
    ⊎_elim (λ (f : is_free X v ≡ true). open_step clauses v seen decisions X levels ending (λ d Y more l u. climb clauses seen d Y more ending l u) level f up) (λ (f : is_free X v ≡ false). inl (value_at clauses decisions X v level f, climb clauses seen decisions X levels ending level (skip clauses v seen decisions X levels ending level f up))) (cases_Bool (is_free X v))

skip_stuck : (clauses : List Clause) (v : ℕ) (seen : List ℕ) (decisions : List Lit) (X : Lits) (levels : List (ℕ × Lits)) (ending : List Lit) → IsClosure clauses decisions X → is_free X v ≡ false → GoesUpTo clauses (v ∷ seen) decisions X levels ending → GoesUpTo clauses seen decisions X levels ending
skip_stuck clauses v seen decisions X [] ending level f up =
    (up.0, sym (cond-false (is_free X v) (Some v) (find (is_free X) seen) f) ∙ up.1, up.2, up.3)
skip_stuck clauses v seen decisions X (next ∷ more) ending level f up =
    (sym (cond-false (is_free X v) (Some v) (find (is_free X) seen) f) ∙ up.0, up.1, skip_stuck clauses v seen (no_lit next.0 ∷ decisions) next.1 more ending up.1 (valued_more clauses decisions X next.1 (no_lit next.0) v level up.1 f) up.2)

stuck_step : (clauses : List Clause) (v : ℕ) (seen : List ℕ) (decisions : List Lit) (X : Lits) (levels : List (ℕ × Lits)) (ending : List Lit) → ((decisions : List Lit) (X : Lits) (levels : List (ℕ × Lits)) → IsClosure clauses decisions X → GoesUpTo clauses seen decisions X levels ending → SticksOn clauses decisions seen ending) → IsClosure clauses decisions X → is_free X v ≡ true → GoesUpTo clauses (v ∷ seen) decisions X levels ending → SticksOn clauses decisions (v ∷ seen) ending
stuck_step clauses v seen decisions X [] ending go level f up =
    let is : up.0 ≡ v = sym (some_is v up.0 (sym (cond-true (is_free X v) (Some v) (find (is_free X) seen) f) ∙ up.1)) in
    inr (no_value_at clauses decisions X v level f, inl (subst (λ (u : ℕ). Conflict clauses (no_lit u ∷ decisions)) is up.2, subst (λ (u : ℕ). (no_lit u ∷ decisions) ≡ ending) is up.3))
stuck_step clauses v seen decisions X (next ∷ more) ending go level f up =
    let is : v ≡ next.0 = some_is v next.0 (sym (cond-true (is_free X v) (Some v) (find (is_free X) seen) f) ∙ up.0) in
    let Y = next.1 in
    let here : IsClosure clauses (no_lit v ∷ decisions) Y = subst (λ (u : ℕ). IsClosure clauses (no_lit u ∷ decisions) Y) (sym is) up.1 in
    let rest : GoesUpTo clauses (v ∷ seen) (no_lit v ∷ decisions) Y more ending = subst (λ (u : ℕ). GoesUpTo clauses (v ∷ seen) (no_lit u ∷ decisions) Y more ending) (sym is) up.2 in
    let valued : is_free Y v ≡ false = not_from_true (Y (lit_of v) || Y (no_lit v)) (or_right (Y (lit_of v)) (Y (no_lit v)) (here.whole (no_lit v) (up_start clauses (no_lit v ∷ decisions) (no_lit v) (inl refl)))) in
    inr (no_value_at clauses decisions X v level f, inr (here.calm, go (no_lit v ∷ decisions) Y more here (skip_stuck clauses v seen (no_lit v ∷ decisions) Y more ending here valued rest)))

stuck_empty : (clauses : List Clause) (decisions : List Lit) (X : Lits) (levels : List (ℕ × Lits)) (ending : List Lit) → GoesUpTo clauses [] decisions X levels ending → ⊥
stuck_empty clauses decisions X [] ending up = not_none up.0 (sym up.1)
stuck_empty clauses decisions X (next ∷ more) ending up = not_none next.0 (sym up.0)

pub climb_stuck : (clauses : List Clause) (seen : List ℕ) (decisions : List Lit) (X : Lits) (levels : List (ℕ × Lits)) (ending : List Lit) → IsClosure clauses decisions X → GoesUpTo clauses seen decisions X levels ending → SticksOn clauses decisions seen ending
climb_stuck clauses [] decisions X levels ending level up = absurd (stuck_empty clauses decisions X levels ending up)
climb_stuck clauses (v ∷ seen) decisions X levels ending level up =
    ⊎_elim (λ (f : is_free X v ≡ true). stuck_step clauses v seen decisions X levels ending (λ d Y more l u. climb_stuck clauses seen d Y more ending l u) level f up) (λ (f : is_free X v ≡ false). inl (value_at clauses decisions X v level f, climb_stuck clauses seen decisions X levels ending level (skip_stuck clauses v seen decisions X levels ending level f up))) (cases_Bool (is_free X v))
