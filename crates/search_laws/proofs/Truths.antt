-- What the closure means for a set that makes all clauses true.
use Rattle.std.proofs.Common.{◌≡◌, true, false, not, ◌||◌, List, sym, ap, subst, ◌∙◌, ⊎_elim}
use Rattle.std.specs.List.{list_all}
use Rattle.std.proofs.lemmas.Bool.{cases_Bool, or_left, or_right, not_from_false, false≢true}
use Rattle.tel_base.specs.declared.literals.Lit.{Lit}
use Rattle.tel_base.specs.Literals.{negate, negations}
use Rattle.tel_base.proofs.Members.{In, In-map_from, In-list_all, list_all-from_In, In-filter, any_found, none_found}
use Rattle.clause_store.specs.Closure.{Clause, same_lit, others, refutes, keeps_unit, keeps_units, Up, Conflict}
use Rattle.clause_store.proofs.Closures.{same_lit-true}
use Rattle.completion.specs.Completions.{lit_true, clause_true}
use Rattle.completion.proofs.Signs.{true_negate, both_true}
use Rattle.normal_program.specs.StableSets.{Set}
use Rattle.search_laws.specs.Laws.{all_true}

-- a set of variables that makes a clause true keeps the unit rule on it
pub unit_kept : (S : Set) (clause : Clause) → clause_true S clause ≡ true → keeps_unit (lit_true S) clause ≡ true
unit_kept S clause h =
    let w = any_found (lit_true S) clause h in
    list_all-from_In (λ (lit : Lit). lit_true S lit || not (refutes (lit_true S) (others lit clause))) clause (λ lit i.
    ⊎_elim (λ (t : lit_true S lit ≡ true). or_left (lit_true S lit) (not (refutes (lit_true S) (others lit clause))) t) (λ (f : lit_true S lit ≡ false).
    or_right (lit_true S lit) (not (refutes (lit_true S) (others lit clause))) (not_from_false (refutes (lit_true S) (others lit clause)) (⊎_elim (λ (all : refutes (lit_true S) (others lit clause) ≡ true).
    let apart : same_lit w.0 lit ≡ false = ⊎_elim (λ (e : same_lit w.0 lit ≡ true). absurd (false≢true (sym f ∙ (sym (ap (lit_true S) (same_lit-true w.0 lit e)) ∙ w.2)))) (λ e. e) (cases_Bool (same_lit w.0 lit)) in
    let among = In-filter (λ (k : Lit). not (same_lit k lit)) w.0 clause w.1 (not_from_false (same_lit w.0 lit) apart) in
    absurd (both_true S w.0 w.2 (In-list_all (λ (k : Lit). lit_true S (negate k)) w.0 (others lit clause) all among))) (λ none. none) (cases_Bool (refutes (lit_true S) (others lit clause)))))) (cases_Bool (lit_true S lit)))

pub units_kept : (S : Set) (clauses : List Clause) → all_true S clauses ≡ true → keeps_units clauses (lit_true S) ≡ true
units_kept S clauses h =
    list_all-from_In (keeps_unit (lit_true S)) clauses (λ clause i. unit_kept S clause (In-list_all (clause_true S) clause clauses h i))

-- what the closure has is true
pub up_true : (S : Set) (clauses : List Clause) (start : List Lit) (lit : Lit) → all_true S clauses ≡ true → list_all (lit_true S) start ≡ true → Up clauses start lit → lit_true S lit ≡ true
up_true S clauses start lit h s up = up (lit_true S) s (units_kept S clauses h)

-- and there is no conflict
pub no_conflict : (S : Set) (clauses : List Clause) (start : List Lit) → all_true S clauses ≡ true → list_all (lit_true S) start ≡ true → Conflict clauses start → ⊥
no_conflict S clauses start h s clash =
    ⊎_elim (λ (two : (lit : Lit) × Up clauses start lit × Up clauses start (negate lit)). both_true S two.0 (up_true S clauses start two.0 h s two.1) (up_true S clauses start (negate two.0) h s two.2)) (λ (one : (clause : Clause) × In clause clauses × ((lit : Lit) → In lit clause → Up clauses start (negate lit))).
    let w = any_found (lit_true S) one.0 (In-list_all (clause_true S) one.0 clauses h one.1) in
    both_true S w.0 w.2 (up_true S clauses start (negate w.0) h s (one.2 w.0 w.1))) clash

-- the negations of a false clause are true
pub negations_true : (S : Set) (clause : Clause) → clause_true S clause ≡ false → list_all (lit_true S) (negations clause) ≡ true
negations_true S clause h =
    list_all-from_In (lit_true S) (negations clause) (λ lit i.
    let w = In-map_from negate lit clause i in
    subst (λ (l : Lit). lit_true S l ≡ true) w.2 (true_negate S w.0 ∙ not_from_false (lit_true S w.0) (none_found (lit_true S) clause w.0 h w.1)))
