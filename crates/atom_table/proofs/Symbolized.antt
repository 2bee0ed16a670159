-- Names among symbols, when these grow.
use Rattle.std.proofs.Common.{◌≡◌, ℕ, zero, suc, ◌+◌, ◌<◌, List, [], ◌∷◌, ◌++◌, length, get_or, slice_get, slice_index_or, Some, ℤ, sym, ap, subst, ◌∙◌, inl, inr, arith, append_assoc}
use Rattle.std.proofs.Math.ListN.{get_or-append}
use Rattle.std.proofs.Math.Seq.{get_or-append_seam}
use Rattle.std.proofs.lemmas.Bool.{cases_order}
use Rattle.std.proofs.lemmas.Option.{get_or_from_slice_get}
use Rattle.tel_term.specs.declared.terms.Term.{Term}
use Rattle.tel_term.specs.declared.terms.Term.TheVariants as terms
use Rattle.tel_term.specs.declared.terms.Value.TheVariants as values
use Rattle.tel_term.specs.Symbols.{value_of, with_term, term_of}
use Rattle.tel_term.proofs.Growth.{with_term-grows, value-stands}
use Rattle.atom_table.specs.Sorted.{Grows, IsNameAt}

pub grows_then : (a b c : List Term) → Grows a b → Grows b c → Grows a c
grows_then a b c first second =
    (first.0 ++ second.0, second.1 ∙ ap (λ (front : List Term). front ++ second.0) first.1 ∙ append_assoc a first.0 second.0)

stays_at : (symbols more : List Term) (number : ℕ) (term : Term) → slice_get symbols number ≡ Some term → slice_get (symbols ++ more) number ≡ Some term
stays_at [] more number term is = absurd (cc)
stays_at (x ∷ symbols) more zero term is = is
stays_at (x ∷ symbols) more (suc number) term is = stays_at symbols more number term is

pub name_stays : (old new : List Term) (number : ℕ) (name : List ℕ) → Grows old new → IsNameAt old number name → IsNameAt new number name
name_stays old new number name grows is = ap (λ (symbols : List Term). slice_get symbols number) grows.1 ∙ stays_at old grows.0 number (terms.Name name) is

-- ---- the value of a name

pub no_number : (symbols : List Term) (name : List ℕ) (n : ℤ) → values.Num n ≡ value_of symbols (terms.Name name) → ⊥
unfolding value_of
no_number symbols name n is = absurd (cc)

pub name_put : (old new : List Term) (name : List ℕ) (number : ℕ) → new ≡ with_term old (terms.Name name) → values.Sym number ≡ value_of old (terms.Name name) → IsNameAt new number name
name_put old new name number put is =
    ap (λ (symbols : List Term). slice_get symbols number) put ∙ ap (term_of (with_term old (terms.Name name))) is ∙ value-stands old (terms.Name name)

pub put_grows : (old new : List Term) (name : List ℕ) → new ≡ with_term old (terms.Name name) → Grows old new
put_grows old new name put = let grown = with_term-grows old (terms.Name name) in (grown.0, put ∙ grown.1)

-- ---- names one after another

-- the names before a place are the symbols with their numbers
abbrev pub AreNamesUpTo : List Term → List (List ℕ) → List ℕ → ℕ → Type 0
AreNamesUpTo symbols names numbers end = (place : ℕ) (name : List ℕ) → place < end → slice_get names place ≡ Some name → IsNameAt symbols (slice_index_or numbers place 0) name

pub one_name_more : (old new : List Term) (names : List (List ℕ)) (numbers : List ℕ) (end number : ℕ) (name : List ℕ) → Grows old new → AreNamesUpTo old names numbers end → length numbers ≡ end → name ≡ get_or names end name → IsNameAt new number name
    → AreNamesUpTo new names (numbers ++ number ∷ []) (end + 1)
one_name_more old new names numbers end number name grows are long is put place other below there = elim (cases_order place end) [
  | inl same ↦
      let at : length numbers ≡ place = omega (arith, long, same) in
      let new_number : get_or (numbers ++ number ∷ []) place 0 ≡ number = subst (λ (n : ℕ). get_or (numbers ++ number ∷ []) n 0 ≡ number) at (get_or-append_seam numbers number [] 0) in
      let same_name : name ≡ other = is ∙ ap (λ (n : ℕ). get_or names n name) (sym same) ∙ get_or_from_slice_get names place other name there in
      subst (λ (n : ℕ). IsNameAt new n other) (sym new_number) (subst (IsNameAt new number) same_name put)
  | inr apart ↦ elim apart [
    | inl less ↦
        let old_number : get_or (numbers ++ number ∷ []) place 0 ≡ get_or numbers place 0 = get_or-append numbers (number ∷ []) 0 place (omega (arith, long, less)) in
        subst (λ (n : ℕ). IsNameAt new n other) (sym old_number) (name_stays old new (get_or numbers place 0) other grows (are place other less there))
    | inr more ↦ absurd (omega (arith, below, more))
  ]
]
