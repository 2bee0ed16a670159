-- What is not absorbed, and what is.
use Rattle.std.proofs.Common.{◌≡◌, true, false, not, ◌||◌, List, sym, ap, subst, ◌∙◌, ◌⊎◌, inl, inr, ⊎_elim}
use Rattle.std.specs.Prelude.{IsTrue}
use Rattle.std.specs.List.{list_all, list_any}
use Rattle.std.proofs.lemmas.Bool.{cases_Bool, or_cases, or_left, or_right, not_from_false, not-true, false≢true}
use Rattle.tel_base.specs.declared.literals.Lit.{Lit}
use Rattle.tel_base.specs.Literals.{negate}
use Rattle.clause_store.specs.Closure.{In, Clause, Lits, negations, same_lit, others, refutes, keeps_unit, keeps_units, Up, Conflict, Absorbed, TwoOpen, IsClosedLevel}
use Rattle.tel_base.proofs.Members.{In-list_all, list_all-from_In, In-map, In-map_from, In-filter, In-filter_from, any_found}
use Rattle.clause_store.proofs.Closures.{same_lit-true}

-- X holds no literal with its negation, and negates no clause whole
pub record IsCalm (clauses : List Clause) (X : Lits) : Type 0 where
  pub one_value : (lit : Lit) → IsTrue (X lit) → IsTrue (X (negate lit)) → ⊥
  pub none_false : (clause : Clause) → In clause clauses → IsTrue (refutes X clause) → ⊥

-- one of two different literals is another than this one
other_of : (a b lit : Lit) → same_lit a b ≡ false → (same_lit a lit ≡ false) ⊎ (same_lit b lit ≡ false)
other_of a b lit apart =
    ⊎_elim (λ (e : same_lit a lit ≡ true). inr (⊎_elim (λ (f : same_lit b lit ≡ true). absurd (false≢true (sym apart ∙ (ap (λ (k : Lit). same_lit a k) (same_lit-true b lit f) ∙ e)))) (λ g. g) (cases_Bool (same_lit b lit)))) (λ g. inl g) (cases_Bool (same_lit a lit))

-- where all others are negated, an open literal is the last
not_open : (X : Lits) (clause : Clause) (lit k : Lit) → refutes X (others lit clause) ≡ true → In k clause → same_lit k lit ≡ false → X (negate k) ≡ true
not_open X clause lit k all i apart =
    In-list_all (λ (l : Lit). X (negate l)) k (others lit clause) all (In-filter (λ (l : Lit). not (same_lit l lit)) k clause i (not_from_false (same_lit k lit) apart))

pub settled_kept : (clauses : List Clause) (X : Lits) → IsClosedLevel clauses X → keeps_units clauses X ≡ true
settled_kept clauses X level =
    list_all-from_In (keeps_unit X) clauses (λ clause i. list_all-from_In (λ (lit : Lit). X lit || not (refutes X (others lit clause))) clause (λ lit m.
    ⊎_elim (λ (t : X lit ≡ true). or_left (X lit) (not (refutes X (others lit clause))) t) (λ (f : X lit ≡ false).
    or_right (X lit) (not (refutes X (others lit clause))) (not_from_false (refutes X (others lit clause)) (⊎_elim (λ (all : refutes X (others lit clause) ≡ true).
    ⊎_elim (λ (some : list_any X clause ≡ true).
    let w = any_found X clause some in
    ⊎_elim (λ (e : same_lit w.0 lit ≡ true). absurd (false≢true (sym f ∙ (sym (ap X (same_lit-true w.0 lit e)) ∙ w.2)))) (λ (g : same_lit w.0 lit ≡ false). absurd (level.one_value w.0 w.2 (not_open X clause lit w.0 all w.1 g))) (cases_Bool (same_lit w.0 lit))) (λ (two : TwoOpen X clause).
    ⊎_elim (λ (g : same_lit two.first lit ≡ false). absurd (false≢true (sym two.first_open ∙ not_open X clause lit two.first all two.has_first g))) (λ (g : same_lit two.second lit ≡ false). absurd (false≢true (sym two.second_open ∙ not_open X clause lit two.second all two.has_second g))) (other_of two.first two.second lit (not-true (same_lit two.first two.second) two.apart))) (level.settled clause i)) (λ none. none) (cases_Bool (refutes X (others lit clause)))))) (cases_Bool (X lit))))

pub settled_calm : (clauses : List Clause) (X : Lits) → IsClosedLevel clauses X → IsCalm clauses X
settled_calm clauses X level = record {
  one_value = level.one_value;
  none_false = λ clause i all.
      ⊎_elim (λ (some : list_any X clause ≡ true). let w = any_found X clause some in level.one_value w.0 w.2 (In-list_all (λ (l : Lit). X (negate l)) w.0 clause all w.1)) (λ (two : TwoOpen X clause). false≢true (sym two.first_open ∙ In-list_all (λ (l : Lit). X (negate l)) two.first clause all two.has_first)) (level.settled clause i);
}

-- a calm closed set that holds a start shows that its closure doesn't conflict
pub calm_free : (clauses : List Clause) (start : List Lit) (X : Lits) → keeps_units clauses X ≡ true → IsCalm clauses X → list_all X start ≡ true → Conflict clauses start → ⊥
calm_free clauses start X keep calm holds clash =
    ⊎_elim (λ (two : (lit : Lit) × Up clauses start lit × Up clauses start (negate lit)). calm.one_value two.0 (two.1 X holds keep) (two.2 X holds keep)) (λ (one : (clause : Clause) × In clause clauses × ((lit : Lit) → In lit clause → Up clauses start (negate lit))).
    calm.none_false one.0 one.1 (list_all-from_In (λ (l : Lit). X (negate l)) one.0 (λ l i. one.2 l i X holds keep))) clash

negations_held : (X : Lits) (clause : Clause) → refutes X clause ≡ true → list_all X (negations clause) ≡ true
negations_held X clause all =
    list_all-from_In X (negations clause) (λ lit i. let w = In-map_from negate lit clause i in subst (λ (k : Lit). X k ≡ true) w.2 (In-list_all (λ (l : Lit). X (negate l)) w.0 clause all w.1))

pub added_is_free : (clauses : List Clause) (X : Lits) (clause : Clause) (lit : Lit) → IsClosedLevel clauses X → In lit clause → refutes X (others lit clause) ≡ true → X lit ≡ false → Absorbed clauses clause → ⊥
added_is_free clauses X clause lit level i all f absorbed =
    let keep = settled_kept clauses X level in
    let holds = negations_held X (others lit clause) all in
    ⊎_elim (λ (up : Up clauses (negations (others lit clause)) lit). false≢true (sym f ∙ up X holds keep)) (λ clash. calm_free clauses (negations (others lit clause)) X keep (settled_calm clauses X level) holds clash) (absorbed lit i)

pub held_is_absorbed : (clauses : List Clause) (held clause : Clause) → In held clauses → ((lit : Lit) → In lit held → In lit clause) → ((lit : Lit) → In lit clause → In lit held) → Absorbed clauses clause
held_is_absorbed clauses held clause i there back lit m = inl (λ X holds keep.
    let unit = In-list_all (λ (l : Lit). X l || not (refutes X (others l held))) lit held (In-list_all (keeps_unit X) held clauses keep i) (back lit m) in
    let all : refutes X (others lit held) ≡ true = list_all-from_In (λ (l : Lit). X (negate l)) (others lit held) (λ k j.
    let w = In-filter_from (λ (l : Lit). not (same_lit l lit)) k held j in
    In-list_all X (negate k) (negations (others lit clause)) holds (In-map negate k (others lit clause) (In-filter (λ (l : Lit). not (same_lit l lit)) k clause (there k w.0) w.1))) in
    ⊎_elim (λ t. t) (λ (u : not (refutes X (others lit held)) ≡ true). absurd (false≢true (sym (ap not all) ∙ u))) (or_cases (X lit) (not (refutes X (others lit held))) unit))
