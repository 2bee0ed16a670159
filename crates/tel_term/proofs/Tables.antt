-- Terms that are one, and tables with a term more.
use Rattle.std.proofs.Common.{◌≡◌, ℕ, zero, suc, ◌+◌, Bool, true, false, ◌||◌, not, cond, if◌then◌else◌, List, [], ◌∷◌, ◌++◌, slice_get, Some, IsTrue, refl, sym, ap, ◌∙◌, subst, true≢false, inl, inr, arith}
use Rattle.std.proofs.lemmas.Bool.{and_from, and_parts, or_from, or_parts, or_left, or_right, false_from_ne_true, cases_Bool, not-true}
use Rattle.std.proofs.lemmas.List.Folds.{list_any-append}
use Rattle.std.proofs.lemmas.Slice.Eq.{bytes_eq-Decides}
use Rattle.std.proofs.lemmas.Bool.Decides.{Decides-int_eq}
use Rattle.std.specs.Bool.{Decides}
use Rattle.std.specs.List.{position_or_len}
use Rattle.tel_term.specs.contracts.terms.TermPartialEq.TheImpl.{eq-value}
use Rattle.tel_term.specs.declared.terms.Term.{Term}
use Rattle.tel_term.specs.declared.terms.Term.TheVariants as terms
use Rattle.tel_term.specs.Symbols.{term_eq, has_term, place_of, is_distinct}

-- ---- terms that are one

-- what `==` answers
pub derived_eq : (a b : Term) → eq-value.it a b ≡ term_eq a b
derived_eq (terms.Num m) (terms.Num n) = refl
derived_eq (terms.Num m) (terms.Name b) = refl
derived_eq (terms.Num m) (terms.Str b) = refl
derived_eq (terms.Name a) (terms.Num n) = refl
derived_eq (terms.Name a) (terms.Name b) = refl
derived_eq (terms.Name a) (terms.Str b) = refl
derived_eq (terms.Str a) (terms.Num n) = refl
derived_eq (terms.Str a) (terms.Name b) = refl
derived_eq (terms.Str a) (terms.Str b) = refl

pub term_eq-Decides : (a b : Term) → Decides (term_eq a b) (a ≡ b)
term_eq-Decides (terms.Num m) (terms.Num n) = (λ e. ap terms.Num ((Decides-int_eq m n).0 e), λ e. (Decides-int_eq m n).1 (cc))
term_eq-Decides (terms.Num m) (terms.Name b) = (λ e. absurd (true≢false (sym e)), λ e. cc)
term_eq-Decides (terms.Num m) (terms.Str b) = (λ e. absurd (true≢false (sym e)), λ e. cc)
term_eq-Decides (terms.Name a) (terms.Num n) = (λ e. absurd (true≢false (sym e)), λ e. cc)
term_eq-Decides (terms.Name a) (terms.Name b) = (λ e. ap terms.Name ((bytes_eq-Decides a b).0 e), λ e. (bytes_eq-Decides a b).1 (cc))
term_eq-Decides (terms.Name a) (terms.Str b) = (λ e. absurd (true≢false (sym e)), λ e. cc)
term_eq-Decides (terms.Str a) (terms.Num n) = (λ e. absurd (true≢false (sym e)), λ e. cc)
term_eq-Decides (terms.Str a) (terms.Name b) = (λ e. absurd (true≢false (sym e)), λ e. cc)
term_eq-Decides (terms.Str a) (terms.Str b) = (λ e. ap terms.Str ((bytes_eq-Decides a b).0 e), λ e. (bytes_eq-Decides a b).1 (cc))

pub same_itself : (a : Term) → term_eq a a ≡ true
same_itself a = (term_eq-Decides a a).1 refl

-- the place, in std's words
pub place_of-position : (table : List Term) (term : Term) → position_or_len (term_eq term) table ≡ place_of table term
place_of-position [] term = refl
place_of-position (first ∷ more) term =
    elim (term_eq term first) as (λ b. cond (not b) (1 + position_or_len (term_eq term) more) 0 ≡ (if b then 0 else suc (place_of more term))) [
      | true ↦ refl
      | false ↦ let e = place_of-position more term in omega arith
    ]

-- the test as a function
pub derived_test : (term : Term) → eq-value.it term ≡ term_eq term
derived_test term i = λ x. derived_eq term x i

-- ---- what a place tells

-- a term that is there is at its place
pub at_place : (table : List Term) (term : Term) → has_term table term ≡ true → slice_get table (place_of table term) ≡ Some term
at_place [] term h = absurd (true≢false (sym h))
at_place (first ∷ more) term h =
    elim (cases_Bool (term_eq term first)) [
      | inl e ↦
          ap (λ (b : Bool). slice_get (first ∷ more) (if b then 0 else suc (place_of more term))) e
          ∙ ap Some (sym ((term_eq-Decides term first).0 e))
      | inr e ↦
          ap (λ (b : Bool). slice_get (first ∷ more) (if b then 0 else suc (place_of more term))) e
          ∙ at_place more term (sym (ap (λ (b : Bool). b || has_term more term) e) ∙ h)
    ]

-- terms at one place are one
pub one_place : (table : List Term) (a b : Term) → has_term table a ≡ true → has_term table b ≡ true → place_of table a ≡ place_of table b → a ≡ b
one_place table a b in_a in_b e =
    let p : slice_get table (place_of table a) ≡ Some a = at_place table a in_a in
    let q : slice_get table (place_of table b) ≡ Some b = at_place table b in_b in
    let r : slice_get table (place_of table a) ≡ slice_get table (place_of table b) = ap (slice_get table) e in
    cc

-- a term at some place is there
at-has : (table : List Term) (term : Term) (place : ℕ) → slice_get table place ≡ Some term → has_term table term ≡ true
at-has [] term place e = absurd cc
at-has (first ∷ more) term zero e =
    let same : term ≡ first = cc in
    or_left (term_eq term first) (has_term more term) ((term_eq-Decides term first).1 same)
at-has (first ∷ more) term (suc place) e = or_right (term_eq term first) (has_term more term) (at-has more term place e)

-- without doubles, the place of a term is the place where it stands
pub place_of-at : (table : List Term) (term : Term) (place : ℕ) → IsTrue (is_distinct table) → slice_get table place ≡ Some term → place_of table term ≡ place
place_of-at [] term place d e = absurd cc
place_of-at (first ∷ more) term zero d e =
    let same : term ≡ first = cc in
    ap (λ (b : Bool). if b then 0 else suc (place_of more term)) ((term_eq-Decides term first).1 same)
place_of-at (first ∷ more) term (suc place) d e =
    let parts = and_parts (not (has_term more first)) (is_distinct more) d in
    let apart : term_eq term first ≡ false = false_from_ne_true (term_eq term first) (λ h.
    let same : term ≡ first = (term_eq-Decides term first).0 h in
    let there : has_term more first ≡ true = subst (λ (t : Term). has_term more t ≡ true) same (at-has more term place e) in
    true≢false (sym parts.0 ∙ ap not there)) in
    ap (λ (b : Bool). if b then 0 else suc (place_of more term)) apart ∙ ap suc (place_of-at more term place parts.1 e)

-- ---- a table that has grown

-- a term that is there keeps its place
pub place_of-front : (table more : List Term) (term : Term) → has_term table term ≡ true → place_of (table ++ more) term ≡ place_of table term
place_of-front [] more term h = absurd (true≢false (sym h))
place_of-front (first ∷ rest) more term h =
    elim (cases_Bool (term_eq term first)) [
      | inl e ↦
          ap (λ (b : Bool). if b then 0 else suc (place_of (rest ++ more) term)) e
          ∙ sym (ap (λ (b : Bool). if b then 0 else suc (place_of rest term)) e)
      | inr e ↦
          ap (λ (b : Bool). if b then 0 else suc (place_of (rest ++ more) term)) e
          ∙ ap suc (place_of-front rest more term (sym (ap (λ (b : Bool). b || has_term rest term) e) ∙ h))
          ∙ sym (ap (λ (b : Bool). if b then 0 else suc (place_of rest term)) e)
    ]

-- a new term has the place at the end, before it is there and after
pub place_of-end : (table more : List Term) (term : Term) → has_term table term ≡ false → place_of (table ++ term ∷ more) term ≡ place_of table term
place_of-end [] more term h = ap (λ (b : Bool). if b then 0 else suc (place_of more term)) (same_itself term)
place_of-end (first ∷ rest) more term h =
    let parts = or_parts (term_eq term first) (has_term rest term) h in
    ap (λ (b : Bool). if b then 0 else suc (place_of (rest ++ term ∷ more) term)) parts.0
    ∙ ap suc (place_of-end rest more term parts.1)
    ∙ sym (ap (λ (b : Bool). if b then 0 else suc (place_of rest term)) parts.0)

-- a new term is there once it was put at the end
pub has_term-push : (table : List Term) (term : Term) → has_term (table ++ term ∷ []) term ≡ true
has_term-push table term =
    list_any-append (term_eq term) table (term ∷ [])
    ∙ or_right (has_term table term) (has_term (term ∷ []) term) (or_left (term_eq term term) false (same_itself term))

-- a new term at the end is no double
pub is_distinct-push : (table : List Term) (term : Term) → IsTrue (is_distinct table) → has_term table term ≡ false → IsTrue (is_distinct (table ++ term ∷ []))
is_distinct-push [] term d h = refl
is_distinct-push (first ∷ more) term d h =
    let parts = and_parts (not (has_term more first)) (is_distinct more) d in
    let new = or_parts (term_eq term first) (has_term more term) h in
    let apart : term_eq first term ≡ false = false_from_ne_true (term_eq first term) (λ e.
    let same : first ≡ term = (term_eq-Decides first term).0 e in
    true≢false (sym ((term_eq-Decides term first).1 (sym same)) ∙ new.0)) in
    let absent : has_term more first ≡ false = not-true (has_term more first) parts.0 in
    let none : has_term (more ++ term ∷ []) first ≡ false =
    list_any-append (term_eq first) more (term ∷ []) ∙ or_from (has_term more first) (term_eq first term || false) absent (or_from (term_eq first term) false apart refl) in
    and_from (not (has_term (more ++ term ∷ []) first)) (is_distinct (more ++ term ∷ [])) (ap not none) (is_distinct-push more term parts.1 new.1)
