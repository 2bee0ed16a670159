-- Names and variables that were seen, with one more.
use Rattle.std.proofs.Common.{◌≡◌, ℕ, ◌+◌, ◌<◌, ◌≤◌, Bool, true, false, List, [], ◌∷◌, ◌++◌, length, refl, sym, ap, ◌∙◌, arith}
use Rattle.std.proofs.lemmas.List.{append-nil, length-append}
use Rattle.std.proofs.lemmas.Bool.{cases_Bool}
use Rattle.std.specs.Str.{bytes_eq}
use Rattle.std.proofs.Common.{inl, inr}
use Rattle.tel_term.specs.declared.terms.Term.{Term}
use Rattle.tel_term.specs.Symbols.{with_term, is_known}
use Rattle.formula_syntax.specs.Points.{Word, Point}
use Rattle.formula_syntax.specs.Grammar.{with_var}
use Rattle.formula_syntax.specs.Given.{Onward, behind_first}

-- a name or a string more, or none
record MoreTerms (old new : List Term) : Type 0 where
  more : List Term
  is : new ≡ old ++ more
  few : length new ≤ length old + 1

more_terms_by : (table : List Term) (term : Term) (b : Bool) → is_known table term ≡ b → MoreTerms table (with_term table term)
unfolding with_term
more_terms_by table term true is = record { more = []; is = rw is (sym (append-nil table)); few = rw is (omega arith) }
more_terms_by table term false is = record { more = term ∷ []; is = rw is refl; few = rw is (omega (arith, length-append table (term ∷ []))) }

behind_is : (ws : List Word) → 0 < length ws → (front : List Word) × (ws ≡ front ++ behind_first ws) × (length ws ≡ length (behind_first ws) + 1)
behind_is [] some = absurd (omega arith)
behind_is (word ∷ more) some = (word ∷ [], refl, omega arith)

-- a word was taken, and its name or string is known
pub onward_term : (old new : Point) (term : Term) → 0 < length old.words → new.words ≡ behind_first old.words → new.known.symbols ≡ with_term old.known.symbols term → new.known.vars ≡ old.known.vars → Onward old new
onward_term old new term some words symbols vars =
    let m = more_terms_by old.known.symbols term (is_known old.known.symbols term) refl in
    let b = behind_is old.words some in
    record {
      words = (b.0, b.1 ∙ ap (λ (ws : List Word). b.0 ++ ws) (sym words));
      symbols = (m.more, symbols ∙ m.is);
      vars = ([], vars ∙ sym (append-nil old.known.vars));
      symbols_room = omega (arith, m.few, ap length symbols, b.2, ap length words);
      vars_room = omega (arith, ap length vars, b.2, ap length words);
    }

-- a variable more, or none
record MoreVars (old new : List (List ℕ)) : Type 0 where
  more : List (List ℕ)
  is : new ≡ old ++ more
  few : length more ≤ 1

more_vars : (name : List ℕ) (vars : List (List ℕ)) → MoreVars vars (with_var name vars)
more_vars name [] = record { more = name ∷ []; is = refl; few = omega arith }
more_vars name (first ∷ vars) =
    elim (cases_Bool (bytes_eq name first)) [
      | inl e ↦ record { more = []; is = rw e (sym (append-nil (first ∷ vars))); few = omega arith }
      | inr e ↦ let m = more_vars name vars in record { more = m.more; is = rw e (ap (λ (vs : List (List ℕ)). first ∷ vs) m.is); few = m.few }
    ]

-- a word was taken, and its variable is known
pub onward_var : (old new : Point) (name : List ℕ) → 0 < length old.words → new.words ≡ behind_first old.words → new.known.vars ≡ with_var name old.known.vars → new.known.symbols ≡ old.known.symbols → Onward old new
onward_var old new name some words vars symbols =
    let m = more_vars name old.known.vars in
    let b = behind_is old.words some in
    record {
      words = (b.0, b.1 ∙ ap (λ (ws : List Word). b.0 ++ ws) (sym words));
      symbols = ([], symbols ∙ sym (append-nil old.known.symbols));
      vars = (m.more, vars ∙ m.is);
      symbols_room = omega (arith, ap length symbols, b.2, ap length words);
      vars_room = omega (arith, m.few, ap length (vars ∙ m.is), length-append old.known.vars m.more, b.2, ap length words);
    }
