-- Tables after a term was asked for, and the values that it has there.
use Rattle.std.proofs.Common.{◌≡◌, ℕ, zero, suc, ◌+◌, ◌-◌, ◌^◌, ◌<◌, ◌≤◌, Bool, true, false, ◌&&◌, ◌||◌, not, if◌then◌else◌, List, [], ◌∷◌, ◌++◌, length, slice_get, Some, ℤ, refl, sym, ap, ◌∙◌, subst, true≢false, inl, inr, arith, length-append, append_assoc, append-nil}
use Rattle.std.proofs.lemmas.Bool.{and_from, and_parts, or_parts, or_right, cases_Bool, not-false}
use Rattle.std.proofs.lemmas.List.Folds.{list_all-append}
use Rattle.std.specs.List.{list_all, list_any, position_or_len}
use Rattle.tel_term.specs.contracts.terms.TermPartialEq.TheImpl.{eq-value}
use Rattle.tel_term.specs.declared.terms.Term.{Term}
use Rattle.tel_term.specs.declared.terms.Term.TheVariants as terms
use Rattle.tel_term.specs.declared.terms.Value.{Value}
use Rattle.tel_term.specs.declared.terms.Value.TheVariants as values
use Rattle.tel_term.specs.Symbols.{is_symbol, has_term, place_of, is_known, with_term, value_of, term_of, is_distinct, IsTable}
use Rattle.tel_term.proofs.Tables.{derived_test, place_of-position, at_place, one_place, place_of-at, place_of-front, place_of-end, has_term-push, is_distinct-push}

-- a term with a value changes nothing
pub with_term-known : (table : List Term) (term : Term) → is_known table term ≡ true → with_term table term ≡ table
unfolding with_term
with_term-known table term h = ap (λ (b : Bool). if b then table else table ++ term ∷ []) h

-- another is put at the end
pub with_term-new : (table : List Term) (term : Term) → is_known table term ≡ false → with_term table term ≡ table ++ term ∷ []
unfolding with_term
with_term-new table term h = ap (λ (b : Bool). if b then table else table ++ term ∷ []) h

-- a name or a string has a value where it is there
known-symbol : (table : List Term) (term : Term) → is_symbol term ≡ true → is_known table term ≡ has_term table term
known-symbol table term s = ap (λ (b : Bool). not b || has_term table term) s

-- a term without a value is a name or a string
new-symbol : (table : List Term) (term : Term) → is_known table term ≡ false → is_symbol term ≡ true
new-symbol table term h = not-false (is_symbol term) (or_parts (not (is_symbol term)) (has_term table term) h).0

new-absent : (table : List Term) (term : Term) → is_known table term ≡ false → has_term table term ≡ false
new-absent table term h = (or_parts (not (is_symbol term)) (has_term table term) h).1

pub with_term-grows : (table : List Term) (term : Term) → (more : List Term) × (with_term table term ≡ table ++ more)
with_term-grows table term =
    elim (cases_Bool (is_known table term)) [
      | inl h ↦ ([], with_term-known table term h ∙ sym (append-nil table))
      | inr h ↦ (term ∷ [], with_term-new table term h)
    ]

pub length-with_term : (table : List Term) (term : Term) → length (with_term table term) ≤ length table + 1
length-with_term table term =
    elim (cases_Bool (is_known table term)) [
      | inl h ↦ rw (with_term-known table term h) (omega arith)
      | inr h ↦ rw (with_term-new table term h, length-append) (omega arith)
    ]

pub asked-known : (table : List Term) (term : Term) → is_known (with_term table term) term ≡ true
asked-known table term =
    elim (cases_Bool (is_known table term)) [
      | inl h ↦ subst (λ (t : List Term). is_known t term ≡ true) (sym (with_term-known table term h)) h
      | inr h ↦
          subst (λ (t : List Term). is_known t term ≡ true) (sym (with_term-new table term h))
          (or_right (not (is_symbol term)) (has_term (table ++ term ∷ []) term) (has_term-push table term))
    ]

-- the place of a name or a string stays what it was when it was asked for
place-stays :
    (table : List Term) (term : Term) (more : List Term) → is_symbol term ≡ true → place_of (with_term table term ++ more) term ≡ place_of table term
place-stays table term more s =
    elim (cases_Bool (is_known table term)) [
      | inl h ↦
          ap (λ (t : List Term). place_of (t ++ more) term) (with_term-known table term h)
          ∙ place_of-front table more term (sym (known-symbol table term s) ∙ h)
      | inr h ↦
          ap (λ (t : List Term). place_of (t ++ more) term) (with_term-new table term h)
          ∙ ap (λ (t : List Term). place_of t term) (append_assoc table (term ∷ []) more)
          ∙ place_of-end table more term (new-absent table term h)
    ]

pub value-stays : (table : List Term) (term : Term) (more : List Term) → value_of (with_term table term ++ more) term ≡ value_of table term
unfolding value_of
value-stays table (terms.Num n) more = refl
value-stays table (terms.Name bytes) more = ap values.Sym (place-stays table (terms.Name bytes) more refl)
value-stays table (terms.Str bytes) more = ap values.Sym (place-stays table (terms.Str bytes) more refl)

-- at the place that it was given stands the term
place-stands : (table : List Term) (term : Term) → is_symbol term ≡ true → slice_get (with_term table term) (place_of table term) ≡ Some term
place-stands table term s =
    let place : place_of (with_term table term) term ≡ place_of table term =
    ap (λ (t : List Term). place_of t term) (sym (append-nil (with_term table term))) ∙ place-stays table term [] s in
    ap (slice_get (with_term table term)) (sym place)
    ∙ at_place (with_term table term) term (sym (known-symbol (with_term table term) term s) ∙ asked-known table term)

pub value-stands : (table : List Term) (term : Term) → term_of (with_term table term) (value_of table term) ≡ Some term
unfolding value_of
value-stands table (terms.Num n) = refl
value-stands table (terms.Name bytes) = place-stands table (terms.Name bytes) refl
value-stands table (terms.Str bytes) = place-stands table (terms.Str bytes) refl

-- values tell terms apart
pub values-distinct :
    (table : List Term) (a b : Term) → is_known table a ≡ true → is_known table b ≡ true → value_of table a ≡ value_of table b → a ≡ b
unfolding value_of
values-distinct table (terms.Num m) (terms.Num n) in_a in_b e = cc
values-distinct table (terms.Num m) (terms.Name b) in_a in_b e = absurd cc
values-distinct table (terms.Num m) (terms.Str b) in_a in_b e = absurd cc
values-distinct table (terms.Name a) (terms.Num n) in_a in_b e = absurd cc
values-distinct table (terms.Name a) (terms.Name b) in_a in_b e = one_place table (terms.Name a) (terms.Name b) in_a in_b (cc)
values-distinct table (terms.Name a) (terms.Str b) in_a in_b e = one_place table (terms.Name a) (terms.Str b) in_a in_b (cc)
values-distinct table (terms.Str a) (terms.Num n) in_a in_b e = absurd cc
values-distinct table (terms.Str a) (terms.Name b) in_a in_b e = one_place table (terms.Str a) (terms.Name b) in_a in_b (cc)
values-distinct table (terms.Str a) (terms.Str b) in_a in_b e = one_place table (terms.Str a) (terms.Str b) in_a in_b (cc)

-- what passes everywhere passes at a place
all-at : (p : Term → Bool) (table : List Term) (place : ℕ) (term : Term) → list_all p table ≡ true → slice_get table place ≡ Some term → p term ≡ true
all-at p [] place term h e = absurd cc
all-at p (first ∷ more) zero term h e =
    let same : first ≡ term = cc in
    subst (λ (t : Term). p t ≡ true) same (and_parts (p first) (list_all p more) h).0
all-at p (first ∷ more) (suc place) term h e = all-at p more place term (and_parts (p first) (list_all p more) h).1 e

pub one-value :
    (table : List Term) (term : Term) (value : Value) → is_distinct table ≡ true → list_all is_symbol table ≡ true → term_of table value ≡ Some term
    → value_of table term ≡ value
unfolding value_of
one-value table (terms.Num m) (values.Num n) d s e = cc
one-value table (terms.Name a) (values.Num n) d s e = absurd cc
one-value table (terms.Str a) (values.Num n) d s e = absurd cc
one-value table (terms.Num m) (values.Sym place) d s e = absurd (true≢false (sym (all-at is_symbol table place (terms.Num m) s e)))
one-value table (terms.Name a) (values.Sym place) d s e = ap values.Sym (place_of-at table (terms.Name a) place d e)
one-value table (terms.Str a) (values.Sym place) d s e = ap values.Sym (place_of-at table (terms.Str a) place d e)

pub stays-distinct : (table : List Term) (term : Term) → is_distinct table ≡ true → is_distinct (with_term table term) ≡ true
stays-distinct table term d =
    elim (cases_Bool (is_known table term)) [
      | inl h ↦ ap is_distinct (with_term-known table term h) ∙ d
      | inr h ↦ ap is_distinct (with_term-new table term h) ∙ is_distinct-push table term d (new-absent table term h)
    ]

pub stays-symbols : (table : List Term) (term : Term) → list_all is_symbol table ≡ true → list_all is_symbol (with_term table term) ≡ true
stays-symbols table term s =
    elim (cases_Bool (is_known table term)) [
      | inl h ↦ ap (list_all is_symbol) (with_term-known table term h) ∙ s
      | inr h ↦
          ap (list_all is_symbol) (with_term-new table term h)
          ∙ list_all-append is_symbol table (term ∷ [])
          ∙ and_from (list_all is_symbol table) (is_symbol term && true) s (and_from (is_symbol term) true (new-symbol table term h) refl)
    ]

-- a table with room for a term is a table with it
pub IsTable-with_term : (table : List Term) (term : Term) → IsTable table → length table < 2 ^ 32 - 1 → IsTable (with_term table term)
IsTable-with_term table term t room = record {
  distinct = stays-distinct table term t.distinct;
  symbols = stays-symbols table term t.symbols;
  bounded = omega (arith, length-with_term table term);
}

-- ---- what the set of terms gives

-- the keys of the set with a name or a string more
pub with_term-keys :
    (table keys : List Term) (term : Term) → is_symbol term ≡ true
    → keys ≡ (if list_any (eq-value.it term) table then table else table ++ term ∷ []) → keys ≡ with_term table term
unfolding with_term
with_term-keys table keys term s e =
    e
    ∙ ap (λ (test : Term → Bool). if list_any test table then table else table ++ term ∷ []) (derived_test term)
    ∙ ap (λ (b : Bool). if b then table else table ++ term ∷ []) (sym (known-symbol table term s))

-- and the place of it
pub value_of-place :
    (table : List Term) (term : Term) (place : ℕ) → is_symbol term ≡ true → place ≡ position_or_len (eq-value.it term) table
    → values.Sym place ≡ value_of table term
unfolding value_of
value_of-place table (terms.Num n) place s e = absurd (true≢false (sym s))
value_of-place table (terms.Name bytes) place s e =
    ap values.Sym (e ∙ ap (λ (test : Term → Bool). position_or_len test table) (derived_test (terms.Name bytes)) ∙ place_of-position table (terms.Name bytes))
value_of-place table (terms.Str bytes) place s e =
    ap values.Sym (e ∙ ap (λ (test : Term → Bool). position_or_len test table) (derived_test (terms.Str bytes)) ∙ place_of-position table (terms.Str bytes))

-- a term that is no number is a name or a string
pub symbol-not_number : (term : Term) → ((n : ℤ) → term ≡ terms.Num n → ⊥) → is_symbol term ≡ true
symbol-not_number (terms.Num n) other = absurd (other n refl)
symbol-not_number (terms.Name bytes) other = refl
symbol-not_number (terms.Str bytes) other = refl
