-- Where the clauses of a shape are true, its variable has the value of the shape.
use Rattle.std.proofs.Common.{◌≡◌, ℕ, Bool, true, false, not, ◌&&◌, ◌||◌, List, [], ◌∷◌, map, refl, sym, subst, ◌∙◌, ◌⊎◌, inl, inr, ⊎_elim}
use Rattle.std.specs.List.{list_all, list_any}
use Rattle.std.proofs.lemmas.Bool.{and_parts, and_from, cases_Bool, or_cases, not_from_true, false≢true}
use Rattle.tel_base.specs.declared.literals.Lit.{Lit}
use Rattle.normal_program.specs.StableSets.{Set}
use Rattle.tel_base.specs.Members.{In}
use Rattle.tel_base.specs.Literals.{lit_of, negate, negations}
use Rattle.normal_program.specs.ModuleClauses.{no_lit, shape_clauses}
use Rattle.completion.specs.Completions.{lit_true, clause_true}
use Rattle.normal_program.specs.declared.shapes.Shape.{Shape}
use Rattle.normal_program.specs.declared.shapes.Shape.TheVariants.{True, False, Is, All, Any, AllAny, AnyAll, Same}
use Rattle.normal_program.specs.Shapes.{shape_bodies}
use Rattle.normal_program.specs.StableSets.{shape_holds}
use Rattle.tel_base.proofs.Members.{In-list_all, list_all-from_In, In-append_left, In-append_right, In-map, In-map_from, any_found, any_from}
use Rattle.completion.proofs.Signs.{both_true}

-- what a clause with the negation of x has where x is true
pub then_some : (S : Set) (x : ℕ) (rest : List Lit) → S x ≡ true → clause_true S (no_lit x ∷ rest) ≡ true → list_any (lit_true S) rest ≡ true
then_some S x rest t h = ⊎_elim (λ (n : not (S x) ≡ true). absurd (false≢true (sym (not_from_true (S x) t) ∙ n))) (λ r. r) (or_cases (not (S x)) (list_any (lit_true S) rest) h)

pub then_one : (S : Set) (x : ℕ) (y : Lit) → S x ≡ true → clause_true S (no_lit x ∷ y ∷ []) ≡ true → lit_true S y ≡ true
then_one S x y t h = ⊎_elim (λ a. a) (λ f. absurd (false≢true f)) (or_cases (lit_true S y) false (then_some S x (y ∷ []) t h))

then_two : (S : Set) (x : ℕ) (y z : Lit) → S x ≡ true → clause_true S (no_lit x ∷ y ∷ z ∷ []) ≡ true → (lit_true S y ≡ true) ⊎ (lit_true S z ≡ true)
then_two S x y z t h = ⊎_elim (λ a. inl a) (λ r. inr (⊎_elim (λ b. b) (λ f. absurd (false≢true f)) (or_cases (lit_true S z) false r))) (or_cases (lit_true S y) (lit_true S z || false) (then_some S x (y ∷ z ∷ []) t h))

-- a clause with x and the negations of true literals makes x true
pub then_x : (S : Set) (x : ℕ) (rest : List Lit) → ((lit : Lit) → In lit rest → lit_true S lit ≡ true → ⊥) → clause_true S (lit_of x ∷ rest) ≡ true → S x ≡ true
then_x S x rest none h = ⊎_elim (λ a. a) (λ r. let w = any_found (lit_true S) rest r in absurd (none w.0 w.1 w.2)) (or_cases (S x) (list_any (lit_true S) rest) h)

pub not_both : (S : Set) (lit : Lit) → lit_true S lit ≡ true → (other : Lit) → negate lit ≡ other → lit_true S other ≡ true → ⊥
not_both S lit t other e n = both_true S lit t (subst (λ (l : Lit). lit_true S l ≡ true) (sym e) n)

negation_true : (S : Set) (lit : Lit) → lit_true S (negate lit) ≡ true → lit_true S lit ≡ true → ⊥
negation_true S lit n t = both_true S lit t n

pub same_bits : (a b : Bool) → (a ≡ true → b ≡ true) → (b ≡ true → a ≡ true) → a ≡ b
same_bits true b f g = sym (f refl)
same_bits false true f g = g refl
same_bits false false f g = refl

one_body : (S : Set) (y : Lit) → lit_true S y ≡ true → list_all (lit_true S) (y ∷ []) ≡ true
one_body S y t = and_from (lit_true S y) true t refl

two_body : (S : Set) (y z : Lit) → lit_true S y ≡ true → lit_true S z ≡ true → list_all (lit_true S) (y ∷ z ∷ []) ≡ true
two_body S y z t u = and_from (lit_true S y) (lit_true S z && true) t (one_body S z u)

two_parts : (S : Set) (y z : Lit) → list_all (lit_true S) (y ∷ z ∷ []) ≡ true → (lit_true S y ≡ true) × (lit_true S z ≡ true)
two_parts S y z h = let p = and_parts (lit_true S y) (lit_true S z && true) h in (p.0, (and_parts (lit_true S z) true p.1).0)

pair_none : (S : Set) (a b y z : Lit) → (lit_true S y ≡ true → ⊥) → (lit_true S z ≡ true → ⊥) → (lit : Lit) → In lit (y ∷ z ∷ []) → lit_true S lit ≡ true → ⊥
pair_none S a b y z f g lit i t = ⊎_elim (λ (e : y ≡ lit). f (subst (λ (l : Lit). lit_true S l ≡ true) (sym e) t)) (λ m. ⊎_elim (λ (e : z ≡ lit). g (subst (λ (l : Lit). lit_true S l ≡ true) (sym e) t)) (λ k. absurd k) m) i

one_none : (S : Set) (y : Lit) → (lit_true S y ≡ true → ⊥) → (lit : Lit) → In lit (y ∷ []) → lit_true S lit ≡ true → ⊥
one_none S y f lit i t = ⊎_elim (λ (e : y ≡ lit). f (subst (λ (l : Lit). lit_true S l ≡ true) (sym e) t)) (λ k. absurd k) i

pub shape_value : (S : Set) (x : ℕ) (shape : Shape) → ((clause : List Lit) → In clause (shape_clauses x shape) → clause_true S clause ≡ true) → S x ≡ shape_holds S S shape
shape_value S x True h = then_x S x [] (λ lit i. absurd i) (h (lit_of x ∷ []) (inl refl))
shape_value S x False h = ⊎_elim (λ (t : S x ≡ true). absurd (false≢true (then_some S x [] t (h (no_lit x ∷ []) (inl refl))))) (λ f. f) (cases_Bool (S x))
shape_value S x (Is y) h =
    let holds : List Lit → Bool = λ (lits : List Lit). list_all (lit_true S) lits in
    same_bits (S x) (shape_holds S S (Is y)) (λ t. any_from holds (shape_bodies (Is y)) (y ∷ []) (inl refl) (one_body S y (then_one S x y t (h (no_lit x ∷ y ∷ []) (inl refl))))) (λ s.
    let w = any_found holds (shape_bodies (Is y)) s in
    then_x S x (negate y ∷ []) (one_none S (negate y) (both_true S y (In-list_all (lit_true S) y w.0 w.2 (⊎_elim (λ (e : (y ∷ []) ≡ w.0). subst (λ (l : List Lit). In y l) e (inl refl)) (λ k. absurd k) w.1)))) (h (lit_of x ∷ negate y ∷ []) (inr (inl refl))))
shape_value S x (All ys) h =
    let holds : List Lit → Bool = λ (lits : List Lit). list_all (lit_true S) lits in
    let units = map (λ (y : Lit). no_lit x ∷ y ∷ []) ys in
    let last : List Lit = lit_of x ∷ negations ys in
    same_bits (S x) (shape_holds S S (All ys)) (λ t. any_from holds (shape_bodies (All ys)) ys (inl refl) (list_all-from_In (lit_true S) ys (λ y i. then_one S x y t (h (no_lit x ∷ y ∷ []) (In-append_left (no_lit x ∷ y ∷ []) units (last ∷ []) (In-map (λ (k : Lit). no_lit x ∷ k ∷ []) y ys i)))))) (λ s.
    let w = any_found holds (shape_bodies (All ys)) s in
    let all : list_all (lit_true S) ys ≡ true = ⊎_elim (λ (e : ys ≡ w.0). subst (λ (l : List Lit). list_all (lit_true S) l ≡ true) (sym e) w.2) (λ k. absurd k) w.1 in
    then_x S x (negations ys) (λ lit i t. let n = In-map_from negate lit ys i in not_both S n.0 (In-list_all (lit_true S) n.0 ys all n.1) lit n.2 t) (h last (In-append_right last units (last ∷ []) (inl refl))))
shape_value S x (Any ys) h =
    let holds : List Lit → Bool = λ (lits : List Lit). list_all (lit_true S) lits in
    let units = map (λ (y : Lit). lit_of x ∷ negate y ∷ []) ys in
    let last : List Lit = no_lit x ∷ ys in
    same_bits (S x) (shape_holds S S (Any ys)) (λ t. let w = any_found (lit_true S) ys (then_some S x ys t (h last (In-append_right last units (last ∷ []) (inl refl)))) in any_from holds (shape_bodies (Any ys)) (w.0 ∷ []) (In-map (λ (y : Lit). y ∷ []) w.0 ys w.1) (one_body S w.0 w.2)) (λ s.
    let w = any_found holds (shape_bodies (Any ys)) s in
    let n = In-map_from (λ (y : Lit). y ∷ []) w.0 ys w.1 in
    let t : lit_true S n.0 ≡ true = In-list_all (lit_true S) n.0 w.0 w.2 (subst (λ (l : List Lit). In n.0 l) n.2 (inl refl)) in
    then_x S x (negate n.0 ∷ []) (one_none S (negate n.0) (both_true S n.0 t)) (h (lit_of x ∷ negate n.0 ∷ []) (In-append_left (lit_of x ∷ negate n.0 ∷ []) units (last ∷ []) (In-map (λ (y : Lit). lit_of x ∷ negate y ∷ []) n.0 ys n.1))))
shape_value S x (AllAny y zs) h =
    let holds : List Lit → Bool = λ (lits : List Lit). list_all (lit_true S) lits in
    let both : Lit → List Lit = λ (z : Lit). y ∷ z ∷ [] in
    same_bits (S x) (shape_holds S S (AllAny y zs)) (λ t. let w = any_found (lit_true S) zs (then_some S x zs t (h (no_lit x ∷ zs) (inr (inl refl)))) in any_from holds (shape_bodies (AllAny y zs)) (both w.0) (In-map both w.0 zs w.1) (two_body S y w.0 (then_one S x y t (h (no_lit x ∷ y ∷ []) (inl refl))) w.2)) (λ s.
    let w = any_found holds (shape_bodies (AllAny y zs)) s in
    let n = In-map_from both w.0 zs w.1 in
    let p = two_parts S y n.0 (subst (λ (l : List Lit). list_all (lit_true S) l ≡ true) (sym n.2) w.2) in
    then_x S x (negate y ∷ negate n.0 ∷ []) (pair_none S y n.0 (negate y) (negate n.0) (both_true S y p.0) (both_true S n.0 p.1)) (h (lit_of x ∷ negate y ∷ negate n.0 ∷ []) (inr (inr (In-map (λ (z : Lit). lit_of x ∷ negate y ∷ negate z ∷ []) n.0 zs n.1)))))
shape_value S x (AnyAll y z w) h =
    let holds : List Lit → Bool = λ (lits : List Lit). list_all (lit_true S) lits in
    let bodies = shape_bodies (AnyAll y z w) in
    let first : lit_true S y ≡ true → shape_holds S S (AnyAll y z w) ≡ true = λ t. any_from holds bodies (y ∷ []) (inl refl) (one_body S y t) in
    same_bits (S x) (shape_holds S S (AnyAll y z w)) (λ t. ⊎_elim first (λ (a : lit_true S z ≡ true). ⊎_elim first (λ (b : lit_true S w ≡ true). any_from holds bodies (z ∷ w ∷ []) (inr (inl refl)) (two_body S z w a b)) (then_two S x y w t (h (no_lit x ∷ y ∷ w ∷ []) (inr (inr (inr (inl refl))))))) (then_two S x y z t (h (no_lit x ∷ y ∷ z ∷ []) (inr (inr (inl refl)))))) (λ s.
    let f = any_found holds bodies s in
    ⊎_elim (λ (e : (y ∷ []) ≡ f.0). then_x S x (negate y ∷ []) (one_none S (negate y) (both_true S y (In-list_all (lit_true S) y f.0 f.2 (subst (λ (l : List Lit). In y l) e (inl refl))))) (h (lit_of x ∷ negate y ∷ []) (inl refl))) (λ m. ⊎_elim (λ (e : (z ∷ w ∷ []) ≡ f.0).
    let p = two_parts S z w (subst (λ (l : List Lit). list_all (lit_true S) l ≡ true) (sym e) f.2) in
    then_x S x (negate z ∷ negate w ∷ []) (pair_none S z w (negate z) (negate w) (both_true S z p.0) (both_true S w p.1)) (h (lit_of x ∷ negate z ∷ negate w ∷ []) (inr (inl refl)))) (λ k. absurd k) m) f.1)
shape_value S x (Same y z) h =
    let holds : List Lit → Bool = λ (lits : List Lit). list_all (lit_true S) lits in
    let bodies = shape_bodies (Same y z) in
    let one : lit_true S y ≡ true → lit_true S z ≡ true → shape_holds S S (Same y z) ≡ true = λ a b. any_from holds bodies (y ∷ z ∷ []) (inl refl) (two_body S y z a b) in
    let other : lit_true S (negate y) ≡ true → lit_true S (negate z) ≡ true → shape_holds S S (Same y z) ≡ true = λ a b. any_from holds bodies (negate y ∷ negate z ∷ []) (inr (inl refl)) (two_body S (negate y) (negate z) a b) in
    same_bits (S x) (shape_holds S S (Same y z)) (λ t. ⊎_elim (λ (a : lit_true S (negate y) ≡ true). ⊎_elim (λ (b : lit_true S y ≡ true). absurd (both_true S y b a)) (λ b. other a b) (then_two S x y (negate z) t (h (no_lit x ∷ y ∷ negate z ∷ []) (inr (inl refl))))) (λ (b : lit_true S z ≡ true). ⊎_elim (λ (a : lit_true S y ≡ true). one a b) (λ (c : lit_true S (negate z) ≡ true). absurd (both_true S z b c)) (then_two S x y (negate z) t (h (no_lit x ∷ y ∷ negate z ∷ []) (inr (inl refl))))) (then_two S x (negate y) z t (h (no_lit x ∷ negate y ∷ z ∷ []) (inl refl)))) (λ s.
    let f = any_found holds bodies s in
    ⊎_elim (λ (e : (y ∷ z ∷ []) ≡ f.0).
    let p = two_parts S y z (subst (λ (l : List Lit). list_all (lit_true S) l ≡ true) (sym e) f.2) in
    then_x S x (negate y ∷ negate z ∷ []) (pair_none S y z (negate y) (negate z) (both_true S y p.0) (both_true S z p.1)) (h (lit_of x ∷ negate y ∷ negate z ∷ []) (inr (inr (inr (inl refl)))))) (λ m. ⊎_elim (λ (e : (negate y ∷ negate z ∷ []) ≡ f.0).
    let p = two_parts S (negate y) (negate z) (subst (λ (l : List Lit). list_all (lit_true S) l ≡ true) (sym e) f.2) in
    then_x S x (y ∷ z ∷ []) (pair_none S y z y z (negation_true S y p.0) (negation_true S z p.1)) (h (lit_of x ∷ y ∷ z ∷ []) (inr (inr (inl refl))))) (λ k. absurd k) m) f.1)
