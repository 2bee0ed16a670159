-- A level that leaves nothing to derive leaves no gap at the variable of a shape.
use Rattle.std.proofs.Common.{◌≡◌, ℕ, Bool, true, false, cond, not, ◌||◌, List, [], ◌∷◌, refl, sym, subst, ◌∙◌, ◌⊎◌, inl, inr, ⊎_elim}
use Rattle.std.specs.Prelude.{◌==◌}
use Rattle.std.specs.List.{list_any}
use Rattle.std.proofs.lemmas.Bool.{and_from, cases_Bool, cond-true, cond-false, or_cases, or_parts, not_from_false, not-true, eq-eqb, eqb-true, false≢true}
use Rattle.tel_base.specs.declared.literals.Lit.{Lit}
use Rattle.tel_base.specs.Literals.{lit_of, negate}
use Rattle.tel_base.proofs.Members.{In, In-flat_map, any_found, any_from}
use Rattle.normal_program.specs.Shapes.{shape_bodies}
use Rattle.normal_program.specs.ModuleClauses.{no_lit, in_order, has_both, listed, shape_clauses}
use Rattle.normal_program.specs.StableSets.{Set, lits_hold, shape_holds}
use Rattle.clause_store.specs.Closure.{Clause, Lits, same_lit, TwoOpen, IsClosedLevel}
use Rattle.completion.specs.Completions.{lit_true, clause_true}
use Rattle.completion.proofs.ListedClauses.{listed_means}
use Rattle.completion.proofs.Orders.{from_order}
use Rattle.completion.proofs.ShapeValues.{shape_value}
use Rattle.completion.proofs.StableSets.{same_lits}
use Rattle.search_laws.specs.Gaps.{has_value, ShapeHasValue}

any_same : {A : Type 0} (p q : A → Bool) (xs : List A) → ((x : A) → In x xs → p x ≡ q x) → list_any p xs ≡ list_any q xs
any_same p q [] h = refl
any_same p q (x ∷ xs) h = λ i. h x (inl refl) i || any_same p q xs (λ y m. h y (inr m)) i

-- a literal of a listed clause is one of it
pub from_listed : (clause one : Clause) (lit : Lit) → In one (listed clause) → In lit one → In lit clause
from_listed clause one lit m j =
    ⊎_elim (λ (t : has_both (in_order clause) ≡ true). absurd (subst (λ (cs : List Clause). In one cs) (cond-true (has_both (in_order clause)) [] (in_order clause ∷ []) t) m)) (λ (f : has_both (in_order clause) ≡ false).
    ⊎_elim (λ (e : in_order clause ≡ one). from_order lit clause (subst (λ (c : Clause). In lit c) (sym e) j)) (λ none. absurd none) (subst (λ (cs : List Clause). In one cs) (cond-false (has_both (in_order clause)) [] (in_order clause ∷ []) f) m)) (cases_Bool (has_both (in_order clause)))

-- what X says, with this value for x
pub filled : Lits → ℕ → Bool → Set
filled X x b v = cond (v == x) b (X (lit_of v))

pub filled_at : (X : Lits) (x : ℕ) (b : Bool) → filled X x b x ≡ b
unfolding filled
filled_at X x b = cond-true (x == x) b (X (lit_of x)) (eq-eqb x x refl)

apart_of : (v x : ℕ) → (v ≡ x → ⊥) → (v == x) ≡ false
apart_of v x h = ⊎_elim (λ (e : (v == x) ≡ true). absurd (h (eqb-true v x e))) (λ f. f) (cases_Bool (v == x))

pub filled_off : (X : Lits) (x : ℕ) (b : Bool) (v : ℕ) → (v ≡ x → ⊥) → filled X x b v ≡ X (lit_of v)
unfolding filled
filled_off X x b v h = cond-false (v == x) b (X (lit_of v)) (apart_of v x h)

-- a literal of X is true
sign_true : (X : Lits) (S : Set) (v : ℕ) (positive : Bool) → S v ≡ X (lit_of v) → (X (no_lit v) ≡ true → X (lit_of v) ≡ false) → X (record { var = v; positive = positive }) ≡ true → cond positive (S v) (not (S v)) ≡ true
sign_true X S v true same one t = same ∙ t
sign_true X S v false same one t = not_from_false (S v) (same ∙ one t)

-- an open literal of a variable that has a value is in X
sign_open : (X : Lits) (v : ℕ) (positive : Bool) → has_value X v ≡ true → X (record { var = v; positive = not positive }) ≡ false → X (record { var = v; positive = positive }) ≡ true
sign_open X v true valued open_ = ⊎_elim (λ t. t) (λ t. absurd (false≢true (sym open_ ∙ t))) (or_cases (X (lit_of v)) (X (no_lit v)) (valued))
sign_open X v false valued open_ = ⊎_elim (λ t. absurd (false≢true (sym open_ ∙ t))) (λ t. t) (or_cases (X (lit_of v)) (X (no_lit v)) (valued))

-- of two different literals of one variable one is true
one_of_signs : (S : Set) (x : ℕ) (p q : Bool) → cond p q (not q) ≡ false → (cond p (S x) (not (S x)) ≡ true) ⊎ (cond q (S x) (not (S x)) ≡ true)
one_of_signs S x true true h = absurd (false≢true (sym h))
one_of_signs S x true false h = ⊎_elim (λ t. inl t) (λ f. inr (not_from_false (S x) f)) (cases_Bool (S x))
one_of_signs S x false true h = ⊎_elim (λ t. inr t) (λ f. inl (not_from_false (S x) f)) (cases_Bool (S x))
one_of_signs S x false false h = absurd (false≢true (sym h))

pub cases_var : (v x : ℕ) → (v ≡ x) ⊎ (v ≡ x → ⊥)
cases_var v x = ⊎_elim (λ (e : (v == x) ≡ true). inl (eqb-true v x e)) (λ (f : (v == x) ≡ false). inr (λ e. false≢true (sym f ∙ eq-eqb v x e))) (cases_Bool (v == x))

module _ (clauses : List Clause) (X : Lits) (x : ℕ) (level : IsClosedLevel clauses X) (free : has_value X x ≡ false) (b : Bool) where
  off_true : (lit : Lit) → (lit.var ≡ x → ⊥) → X lit ≡ true → lit_true (filled X x b) lit ≡ true
  off_true lit apart t =
      sign_true X (filled X x b) lit.var lit.positive (filled_off X x b lit.var apart) (λ n. ⊎_elim (λ (y : X (lit_of lit.var) ≡ true). absurd (level.one_value (lit_of lit.var) y n)) (λ f. f) (cases_Bool (X (lit_of lit.var)))) t

  -- x has no literal in X
  none_of_x : (lit : Lit) → lit.var ≡ x → X lit ≡ true → ⊥
  none_of_x lit e t =
      let p = or_parts (X (lit_of x)) (X (no_lit x)) (free) in
      sign_none lit.positive p.0 p.1 (subst (λ (v : ℕ). X (record { var = v; positive = lit.positive }) ≡ true) e t) where
        sign_none : (s : Bool) → X (lit_of x) ≡ false → X (no_lit x) ≡ false → X (record { var = x; positive = s }) ≡ true → ⊥
        sign_none true a c u = false≢true (sym a ∙ u)
        sign_none false a c u = false≢true (sym c ∙ u)

  pub clause_filled : (clause : Clause) → In clause clauses → ((lit : Lit) → In lit clause → (lit.var ≡ x) ⊎ (has_value X lit.var ≡ true)) → clause_true (filled X x b) clause ≡ true
  clause_filled clause i valued =
      let S = filled X x b in
      ⊎_elim (λ (some : list_any X clause ≡ true).
      let w = any_found X clause some in
      any_from (lit_true S) clause w.0 w.1 (off_true w.0 (λ e. none_of_x w.0 e w.2) w.2)) (λ (two : TwoOpen X clause).
      let use_one : (lit : Lit) → In lit clause → X (negate lit) ≡ false → (lit.var ≡ x → ⊥) → clause_true S clause ≡ true = λ lit m open_ apart. any_from (lit_true S) clause lit m (off_true lit apart (⊎_elim (λ (e : lit.var ≡ x). absurd (apart e)) (λ (f : has_value X lit.var ≡ true). sign_open X lit.var lit.positive f open_) (valued lit m))) in
      ⊎_elim (λ (e : two.first.var ≡ x). ⊎_elim (λ (g : two.second.var ≡ x).
      let differ : cond two.first.positive two.second.positive (not two.second.positive) ≡ false = ⊎_elim (λ (s : cond two.first.positive two.second.positive (not two.second.positive) ≡ true). absurd (false≢true (sym (not-true (same_lit two.first two.second) two.apart) ∙ and_from (two.first.var == two.second.var) (cond two.first.positive two.second.positive (not two.second.positive)) (eq-eqb two.first.var two.second.var (e ∙ sym g)) s))) (λ f. f) (cases_Bool (cond two.first.positive two.second.positive (not two.second.positive))) in
      ⊎_elim (λ t. any_from (lit_true S) clause two.first two.has_first ((λ i. cond two.first.positive (S (e i)) (not (S (e i)))) ∙ t)) (λ t. any_from (lit_true S) clause two.second two.has_second ((λ i. cond two.second.positive (S (g i)) (not (S (g i)))) ∙ t)) (one_of_signs S x two.first.positive two.second.positive differ)) (λ apart. use_one two.second two.has_second two.second_open apart) (cases_var two.second.var x)) (λ apart. use_one two.first two.has_first two.first_open apart) (cases_var two.first.var x)) (level.settled clause i)

-- x has a value, where all other variables of a clause have one and the clause would be false if x were true
pub value_by : (clauses : List Clause) (X : Lits) (x : ℕ) (clause : Clause) → IsClosedLevel clauses X → ((one : Clause) → In one (listed clause) → In one clauses) → ((lit : Lit) → In lit clause → (lit.var ≡ x) ⊎ (has_value X lit.var ≡ true)) → (clause_true (filled X x true) clause ≡ true → ⊥) → has_value X x ≡ true
value_by clauses X x clause level held valued refuted =
    ⊎_elim (λ (t : has_value X x ≡ true). t) (λ (free : has_value X x ≡ false).
    absurd (refuted (listed_means (filled X x true) clause (λ one m. clause_filled clauses X x level free true one (held one m) (λ lit j. valued lit (from_listed clause one lit m j)))))) (cases_Bool (has_value X x))

pub shape_has_value : ShapeHasValue
shape_has_value clauses X x shape level held valued apart =
    ⊎_elim (λ (t : has_value X x ≡ true). t) (λ (free : has_value X x ≡ false).
    let listed_true : (b : Bool) (clause : Clause) → In clause (shape_clauses x shape) → clause_true (filled X x b) clause ≡ true = λ b clause i. listed_means (filled X x b) clause (λ one m. clause_filled clauses X x level free b one (held one (In-flat_map listed clause one (shape_clauses x shape) i m)) (λ lit j. valued clause lit i (from_listed clause one lit m j))) in
    let value : (b : Bool) → b ≡ shape_holds (filled X x b) (filled X x b) shape = λ b. sym (filled_at X x b) ∙ shape_value (filled X x b) x shape (listed_true b) in
    let same : shape_holds (filled X x true) (filled X x true) shape ≡ shape_holds (filled X x false) (filled X x false) shape = any_same (lits_hold (filled X x true) (filled X x true)) (lits_hold (filled X x false) (filled X x false)) (shape_bodies shape) (λ lits i. same_lits (filled X x false) (filled X x true) lits (λ lit m. filled_off X x true lit.var (apart lits lit i m) ∙ sym (filled_off X x false lit.var (apart lits lit i m)))) in
    absurd (false≢true (sym (value true ∙ (same ∙ sym (value false)))))) (cases_Bool (has_value X x))
