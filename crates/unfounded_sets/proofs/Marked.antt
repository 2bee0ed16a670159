-- The literals that make bodies false, and their marks.
use Rattle.std.proofs.Common.{◌≡◌, ℕ, ◌<◌, Bool, true, false, ◌||◌, List, [], ◌∷◌, length, set, refl, sym, ap, subst, inl, inr, ◌∙◌, ⊎_elim, get_or-set_other, get_or-set_same}
use Rattle.std.specs.Prelude.{Some}
use Rattle.std.specs.List.{find, list_any}
use Rattle.std.proofs.lemmas.Bool.{cases_Bool, cases_eq, cond-true, cond-false, eq-eqb, ne_eqb, false≢true}
use Rattle.tel_base.specs.declared.literals.Lit.{Lit}
use Rattle.tel_base.specs.Members.{In}
use Rattle.lit_trail.specs.declared.assignment.Entry.{Entry}
use Rattle.unfounded_sets.specs.Unfounded.{is_false}
use Rattle.unfounded_sets.specs.Least.{at}
use Rattle.unfounded_sets.specs.Marks.{var_is}

-- what is found is there and passes
pub found_in : {X : Type 0} (p : X → Bool) (xs : List X) (x : X) → Some x ≡ find p xs → In x xs × (p x ≡ true)
found_in p [] x h = absurd (cc)
found_in p (z ∷ xs) x h =
    ⊎_elim (λ (t : p z ≡ true). let is : Some x ≡ Some z = h ∙ cond-true (p z) (Some z) (find p xs) t in let same : z ≡ x = cc in (inl same, ap p (sym same) ∙ t)) (λ (f : p z ≡ false). let w = found_in p xs x (h ∙ cond-false (p z) (Some z) (find p xs) f) in (inr w.0, w.1)) (cases_Bool (p z))

-- some element that passes is found
pub any_find : {X : Type 0} (p : X → Bool) (xs : List X) → list_any p xs ≡ true → (x : X) × (Some x ≡ find p xs)
any_find p [] h = absurd (false≢true h)
any_find p (z ∷ xs) h =
    ⊎_elim (λ (t : p z ≡ true). (z, sym (cond-true (p z) (Some z) (find p xs) t))) (λ (f : p z ≡ false).
    let w = any_find p xs (sym (ap (λ (b : Bool). b || list_any p xs) f) ∙ h) in
    (w.0, w.1 ∙ sym (cond-false (p z) (Some z) (find p xs) f))) (cases_Bool (p z))

pub found_false : (entries : List Entry) (lits : List Lit) (lit : Lit) → Some lit ≡ find (is_false entries) lits → is_false entries lit ≡ true
found_false entries lits lit h = (found_in (is_false entries) lits lit h).1

or_true : (b : Bool) → (b || true) ≡ true
or_true true = refl
or_true false = refl

or_false : (b : Bool) → (b || false) ≡ b
or_false true = refl
or_false false = refl

pub mark_more : (entries : List Entry) (lits : List Lit) (marks : List Bool) (lit : Lit) → lit.var < length marks → Some lit ≡ find (is_false entries) lits → (v : ℕ) → at (set marks lit.var true) v ≡ (at marks v || var_is v (find (is_false entries) lits))
mark_more entries lits marks lit within is v =
    ⊎_elim (λ (e : lit.var ≡ v).
    subst (λ (w : ℕ). at (set marks lit.var true) w ≡ true) e (get_or-set_same marks lit.var true false within) ∙ sym (or_true (at marks v)) ∙ ap (λ (b : Bool). at marks v || b) (sym (eq-eqb lit.var v e)) ∙ ap (λ o. at marks v || var_is v o) is) (λ ne.
    get_or-set_other marks lit.var v true false (λ e. ne (sym e)) ∙ sym (or_false (at marks v)) ∙ ap (λ (b : Bool). at marks v || b) (sym (ne_eqb lit.var v ne)) ∙ ap (λ o. at marks v || var_is v o) is) (cases_eq lit.var v)
