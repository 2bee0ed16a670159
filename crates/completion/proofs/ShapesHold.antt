-- A shape's clauses are true where its variable has the value of the shape.
use Rattle.std.proofs.Common.{◌≡◌, ℕ, true, false, List, [], ◌∷◌, ◌++◌, map, refl, sym, subst, ◌∙◌, inl, inr, ⊎_elim}
use Rattle.std.specs.List.{list_all, list_any}
use Rattle.std.proofs.lemmas.Bool.{and_from, cases_Bool, not_from_false}
use Rattle.tel_base.specs.declared.literals.Lit.{Lit}
use Rattle.normal_program.specs.StableSets.{Set}
use Rattle.tel_base.specs.Members.{In}
use Rattle.tel_base.specs.Literals.{lit_of, negate, negations}
use Rattle.normal_program.specs.ModuleClauses.{no_lit, shape_clauses}
use Rattle.completion.specs.Completions.{lit_true, clause_true}
use Rattle.normal_program.specs.declared.shapes.Shape.{Shape}
use Rattle.normal_program.specs.declared.shapes.Shape.TheVariants.{True, False, Is, All, Any, AllAny, AnyAll, Same}
use Rattle.normal_program.specs.Shapes.{shape_bodies}
use Rattle.normal_program.specs.StableSets.{shape_holds}
use Rattle.tel_base.proofs.Members.{In-list_all, list_all-from_In, In-append_cases, In-map, In-map_from, any_found, none_found, any_from, all_lost}
use Rattle.completion.proofs.Signs.{true_negate, negate_twice}

-- a literal of the clause is true
by_lit : (S : Set) (clause : List Lit) (lit : Lit) → In lit clause → lit_true S lit ≡ true → clause_true S clause ≡ true
by_lit S clause lit i t = any_from (lit_true S) clause lit i t

-- a negated literal
by_not : (S : Set) (clause : List Lit) (lit : Lit) → In (negate lit) clause → lit_true S lit ≡ false → clause_true S clause ≡ true
by_not S clause lit i f = by_lit S clause (negate lit) i (true_negate S lit ∙ not_from_false (lit_true S lit) f)

-- the literals of a true body are true
of_body : (S : Set) (lits : List Lit) (lit : Lit) → list_all (lit_true S) lits ≡ true → In lit lits → lit_true S lit ≡ true
of_body S lits lit h i = In-list_all (lit_true S) lit lits h i

-- x is true and so some body is
some_body : (S : Set) (bodies : List (List Lit)) (P : Type 0) → list_any (λ (lits : List Lit). list_all (lit_true S) lits) bodies ≡ true → ((lits : List Lit) → In lits bodies → list_all (lit_true S) lits ≡ true → P) → P
some_body S bodies P h go = let w = any_found (λ (lits : List Lit). list_all (lit_true S) lits) bodies h in go w.0 w.1 w.2

-- a clause with the negation of x that has a literal of each body, and one with x that has the negations of a body
module _ (S : Set) (x : ℕ) (shape : Shape) (same : S x ≡ shape_holds S S shape) where
  with_no : (clause : List Lit) → In (no_lit x) clause → ((lits : List Lit) → In lits (shape_bodies shape) → (lit : Lit) × In lit lits × In lit clause) → clause_true S clause ≡ true
  with_no clause i has =
      ⊎_elim (λ (t : S x ≡ true). some_body S (shape_bodies shape) (clause_true S clause ≡ true) (sym same ∙ t) (λ lits here h. let w = has lits here in by_lit S clause w.0 w.2 (of_body S lits w.0 h w.1))) (λ (f : S x ≡ false). by_lit S clause (no_lit x) i (not_from_false (S x) f)) (cases_Bool (S x))

  with_yes : (clause : List Lit) → In (lit_of x) clause → (lits : List Lit) → In lits (shape_bodies shape) → ((lit : Lit) → In lit lits → In (negate lit) clause) → clause_true S clause ≡ true
  with_yes clause i lits here has =
      ⊎_elim (λ (t : S x ≡ true). by_lit S clause (lit_of x) i t) (λ (f : S x ≡ false).
      let w = all_lost (lit_true S) lits (none_found (λ (ls : List Lit). list_all (lit_true S) ls) (shape_bodies shape) lits (sym same ∙ f) here) in
      by_not S clause w.0 (has w.0 w.1) w.2) (cases_Bool (S x))

-- the one body
of_one : (body : List Lit) (P : List Lit → Type 0) → P body → (lits : List Lit) → In lits (body ∷ []) → P lits
of_one body P h lits i = ⊎_elim (λ (e : body ≡ lits). subst P e h) (λ m. absurd m) i

of_two : (first second : List Lit) (P : List Lit → Type 0) → P first → P second → (lits : List Lit) → In lits (first ∷ second ∷ []) → P lits
of_two first second P h k lits i = ⊎_elim (λ (e : first ≡ lits). subst P e h) (λ m. of_one second P k lits m) i

lit_one : (y : Lit) (P : Lit → Type 0) → P y → (lit : Lit) → In lit (y ∷ []) → P lit
lit_one y P h lit i = ⊎_elim (λ (e : y ≡ lit). subst P e h) (λ m. absurd m) i

lit_two : (y z : Lit) (P : Lit → Type 0) → P y → P z → (lit : Lit) → In lit (y ∷ z ∷ []) → P lit
lit_two y z P h k lit i = ⊎_elim (λ (e : y ≡ lit). subst P e h) (λ m. lit_one z P k lit m) i

abbrev Shared : List Lit → List Lit → Type 0
Shared clause lits = (lit : Lit) × In lit lits × In lit clause

abbrev Negated : List Lit → Lit → Type 0
Negated clause lit = In (negate lit) clause

same_in : (clause : List Lit) (lit other : Lit) → lit ≡ other → In lit clause → In other clause
same_in clause lit other e i = subst (λ (l : Lit). In l clause) e i

-- the first of a list of clauses, or the rest
pub clauses_true : (S : Set) (clauses : List (List Lit)) → list_all (clause_true S) clauses ≡ true → (clause : List Lit) → In clause clauses → clause_true S clause ≡ true
clauses_true S clauses h clause i = In-list_all (clause_true S) clause clauses h i

all_append : (S : Set) (xs ys : List (List Lit)) → list_all (clause_true S) xs ≡ true → list_all (clause_true S) ys ≡ true → list_all (clause_true S) (xs ++ ys) ≡ true
all_append S xs ys h k = list_all-from_In (clause_true S) (xs ++ ys) (λ c i. ⊎_elim (λ l. In-list_all (clause_true S) c xs h l) (λ r. In-list_all (clause_true S) c ys k r) (In-append_cases c xs ys i))

all_map : (S : Set) (f : Lit → List Lit) (ys : List Lit) → ((y : Lit) → In y ys → clause_true S (f y) ≡ true) → list_all (clause_true S) (map f ys) ≡ true
all_map S f ys h = list_all-from_In (clause_true S) (map f ys) (λ c i. let w = In-map_from f c ys i in subst (λ (d : List Lit). clause_true S d ≡ true) w.2 (h w.0 w.1))

one_more : (S : Set) (c : List Lit) (cs : List (List Lit)) → clause_true S c ≡ true → list_all (clause_true S) cs ≡ true → list_all (clause_true S) (c ∷ cs) ≡ true
one_more S c cs h k = and_from (clause_true S c) (list_all (clause_true S) cs) h k

shape_all : (S : Set) (x : ℕ) (shape : Shape) → S x ≡ shape_holds S S shape → list_all (clause_true S) (shape_clauses x shape) ≡ true
shape_all S x True same = one_more S (lit_of x ∷ []) [] (by_lit S (lit_of x ∷ []) (lit_of x) (inl refl) same) refl
shape_all S x False same = one_more S (no_lit x ∷ []) [] (by_lit S (no_lit x ∷ []) (no_lit x) (inl refl) (not_from_false (S x) same)) refl
shape_all S x (Is y) same =
    let c : List Lit = no_lit x ∷ y ∷ [] in
    let d : List Lit = lit_of x ∷ negate y ∷ [] in
    one_more S c (d ∷ []) (with_no S x (Is y) same c (inl refl) (of_one (y ∷ []) (Shared c) (y, inl refl, inr (inl refl))))
    (one_more S d [] (with_yes S x (Is y) same d (inl refl) (y ∷ []) (inl refl) (lit_one y (Negated d) (inr (inl refl)))) refl)
shape_all S x (All ys) same =
    let d : List Lit = lit_of x ∷ negations ys in
    all_append S (map (λ (y : Lit). no_lit x ∷ y ∷ []) ys) (d ∷ []) (all_map S (λ (y : Lit). no_lit x ∷ y ∷ []) ys (λ y i. with_no S x (All ys) same (no_lit x ∷ y ∷ []) (inl refl) (of_one ys (Shared (no_lit x ∷ y ∷ [])) (y, i, inr (inl refl)))))
    (one_more S d [] (with_yes S x (All ys) same d (inl refl) ys (inl refl) (λ lit i. inr (In-map negate lit ys i))) refl)
shape_all S x (Any ys) same =
    let d : List Lit = no_lit x ∷ ys in
    all_append S (map (λ (y : Lit). lit_of x ∷ negate y ∷ []) ys) (d ∷ []) (all_map S (λ (y : Lit). lit_of x ∷ negate y ∷ []) ys (λ y i. with_yes S x (Any ys) same (lit_of x ∷ negate y ∷ []) (inl refl) (y ∷ []) (In-map (λ (k : Lit). k ∷ []) y ys i) (lit_one y (Negated (lit_of x ∷ negate y ∷ [])) (inr (inl refl)))))
    (one_more S d [] (with_no S x (Any ys) same d (inl refl) (λ lits i. let w = In-map_from (λ (k : Lit). k ∷ []) lits ys i in subst (Shared d) w.2 (w.0, inl refl, inr w.1))) refl)
shape_all S x (AllAny y zs) same =
    let c : List Lit = no_lit x ∷ y ∷ [] in
    let d : List Lit = no_lit x ∷ zs in
    let both : Lit → List Lit = λ (z : Lit). y ∷ z ∷ [] in
    one_more S c (d ∷ map (λ (z : Lit). lit_of x ∷ negate y ∷ negate z ∷ []) zs) (with_no S x (AllAny y zs) same c (inl refl) (λ lits i. let w = In-map_from both lits zs i in subst (Shared c) w.2 (y, inl refl, inr (inl refl))))
    (one_more S d (map (λ (z : Lit). lit_of x ∷ negate y ∷ negate z ∷ []) zs) (with_no S x (AllAny y zs) same d (inl refl) (λ lits i. let w = In-map_from both lits zs i in subst (Shared d) w.2 (w.0, inr (inl refl), inr w.1)))
    (all_map S (λ (z : Lit). lit_of x ∷ negate y ∷ negate z ∷ []) zs (λ z i. with_yes S x (AllAny y zs) same (lit_of x ∷ negate y ∷ negate z ∷ []) (inl refl) (y ∷ z ∷ []) (In-map both z zs i) (lit_two y z (Negated (lit_of x ∷ negate y ∷ negate z ∷ [])) (inr (inl refl)) (inr (inr (inl refl)))))))
shape_all S x (AnyAll y z w) same =
    let c : List Lit = lit_of x ∷ negate y ∷ [] in
    let d : List Lit = lit_of x ∷ negate z ∷ negate w ∷ [] in
    let e : List Lit = no_lit x ∷ y ∷ z ∷ [] in
    let f : List Lit = no_lit x ∷ y ∷ w ∷ [] in
    one_more S c (d ∷ e ∷ f ∷ []) (with_yes S x (AnyAll y z w) same c (inl refl) (y ∷ []) (inl refl) (lit_one y (Negated c) (inr (inl refl))))
    (one_more S d (e ∷ f ∷ []) (with_yes S x (AnyAll y z w) same d (inl refl) (z ∷ w ∷ []) (inr (inl refl)) (lit_two z w (Negated d) (inr (inl refl)) (inr (inr (inl refl)))))
    (one_more S e (f ∷ []) (with_no S x (AnyAll y z w) same e (inl refl) (of_two (y ∷ []) (z ∷ w ∷ []) (Shared e) (y, inl refl, inr (inl refl)) (z, inl refl, inr (inr (inl refl)))))
    (one_more S f [] (with_no S x (AnyAll y z w) same f (inl refl) (of_two (y ∷ []) (z ∷ w ∷ []) (Shared f) (y, inl refl, inr (inl refl)) (w, inr (inl refl), inr (inr (inl refl))))) refl)))
shape_all S x (Same y z) same =
    let c : List Lit = no_lit x ∷ negate y ∷ z ∷ [] in
    let d : List Lit = no_lit x ∷ y ∷ negate z ∷ [] in
    let e : List Lit = lit_of x ∷ y ∷ z ∷ [] in
    let f : List Lit = lit_of x ∷ negate y ∷ negate z ∷ [] in
    let first : List Lit = y ∷ z ∷ [] in
    let second : List Lit = negate y ∷ negate z ∷ [] in
    one_more S c (d ∷ e ∷ f ∷ []) (with_no S x (Same y z) same c (inl refl) (of_two first second (Shared c) (z, inr (inl refl), inr (inr (inl refl))) (negate y, inl refl, inr (inl refl))))
    (one_more S d (e ∷ f ∷ []) (with_no S x (Same y z) same d (inl refl) (of_two first second (Shared d) (y, inl refl, inr (inl refl)) (negate z, inr (inl refl), inr (inr (inl refl)))))
    (one_more S e (f ∷ []) (with_yes S x (Same y z) same e (inl refl) second (inr (inl refl)) (lit_two (negate y) (negate z) (Negated e) (same_in e y (negate (negate y)) (sym (negate_twice y)) (inr (inl refl))) (same_in e z (negate (negate z)) (sym (negate_twice z)) (inr (inr (inl refl))))))
    (one_more S f [] (with_yes S x (Same y z) same f (inl refl) first (inl refl) (lit_two y z (Negated f) (inr (inl refl)) (inr (inr (inl refl))))) refl)))

-- what holds of the clauses of a shape, by the value of its variable
pub shape_true : (S : Set) (x : ℕ) (shape : Shape) → S x ≡ shape_holds S S shape → (clause : List Lit) → In clause (shape_clauses x shape) → clause_true S clause ≡ true
shape_true S x shape same clause i = In-list_all (clause_true S) clause (shape_clauses x shape) (shape_all S x shape same) i
