-- A template that means a theory prints the same.
use Rattle.std.proofs.Common.{◌≡◌, ℕ, zero, suc, ◌+◌, Bool, true, List, [], ◌∷◌, ◌++◌, length, map, refl, sym, ap, ap₂, ◌∙◌, subst}
use Rattle.std.specs.Prelude.{codes, decimal, slice_index_or, nat_lt, if◌then◌else◌}
use Rattle.std.specs.List.{flat_map, list_all}
use Rattle.std.proofs.lemmas.Bool.{and_parts, and_from, ltb-true}
use Rattle.tel_base.proofs.Members.{In-filter_from, list_all-from_In}
use Rattle.tel_term.specs.declared.terms.Term.{Term}
use Rattle.tel_term.specs.declared.terms.Value.{Value}
use Rattle.tel_term.specs.Order.{term_at}
use Rattle.tel_rule.specs.Rising.{numbers_rise}
use Rattle.tel_rule.specs.Atoms.{name_of}
use Rattle.tel_rule.specs.Ground.{Ground}
use Rattle.tel_rule.specs.declared.ground.GroundAtom.{GroundAtom}
use Rattle.tel_semantics.specs.Traces.{is_state}
use Rattle.tel_semantics.specs.Lists.{full_trace, all_traces}
use Rattle.tel_semantics.specs.Equilibrium.{tem, list_of}
use Rattle.tel_semantics.proofs.Below.{Under-full, Under-traces_below, list_of-suc}
use Rattle.tel_semantics.specs.Print.{header_line, closing_line, value_text, next_text, args_text, sign_text, ground_text, is_shown, numbered_text, atom_text, state_lines, trace_lines}
use Rattle.theory_lists.specs.Atoms.{TermAtom, atom_over, atom_at}
use Rattle.theory_lists.specs.Theories.{ProgramTheory, Means}
use Rattle.theory_lists.specs.Lists.{equilibria}
use Rattle.theory_lists.specs.Print.{next_term, terms_text, term_atom_text, place_text, states_text, trace_text, print_theory}
use Rattle.theory_lists.specs.Laws.{are_below, PrintsAreOfTheories, ListsPrintAsTheories}
use Rattle.theory_lists.proofs.SameLists.{lists-same}

next_texts : (symbols : List Term) (args : List Value) → flat_map (next_text symbols) args ≡ flat_map next_term (map (term_at symbols) args)
next_texts symbols [] = refl
next_texts symbols (value ∷ more) = ap (λ (rest : List ℕ). next_text symbols value ++ rest) (next_texts symbols more)

args_same : (symbols : List Term) (args : List Value) → args_text symbols args ≡ terms_text (map (term_at symbols) args)
args_same symbols [] = refl
args_same symbols (first ∷ more) =
    ap (λ (rest : List ℕ). codes "(" ++ value_text symbols first ++ rest ++ codes ")") (next_texts symbols more)

atom_same : (symbols : List Term) (atom : GroundAtom) → ground_text symbols atom ≡ term_atom_text (atom_over symbols atom)
unfolding ground_text
atom_same symbols atom =
    ap (λ (rest : List ℕ). sign_text atom.negative ++ name_of symbols atom ++ rest) (args_same symbols atom.args)

-- past the end there is no text
texts_same : (symbols : List Term) (atoms : List GroundAtom) (place : ℕ) → slice_index_or (map (ground_text symbols) atoms) place [] ≡ term_atom_text (atom_at (map (atom_over symbols) atoms) place)
texts_same symbols [] place = refl
texts_same symbols (atom ∷ more) zero = atom_same symbols atom
texts_same symbols (atom ∷ more) (suc place) = texts_same symbols more place

-- texts of a list of which each is the same
texts_agree : {X : Type 0} (f g : X → List ℕ) (test : X → Bool) (xs : List X) → ((x : X) → test x ≡ true → f x ≡ g x) → list_all test xs ≡ true → flat_map f xs ≡ flat_map g xs
texts_agree f g test [] same all = refl
texts_agree f g test (x ∷ xs) same all =
    let both = and_parts (test x) (list_all test xs) all in
    ap₂ (λ (text rest : List ℕ). text ++ rest) (same x both.0) (texts_agree f g test xs same both.1)

module _ (template : Ground) (said : ProgramTheory) (means : Means template said) where
  abbrev below : ℕ → Bool
  below place = nat_lt place (length template.atoms)

  numbered_same : (place : ℕ) → numbered_text template place ≡ term_atom_text (atom_at said.atoms place)
  unfolding numbered_text
  numbered_same place =
      texts_same template.symbols template.atoms place ∙ ap (λ (list : List TermAtom). term_atom_text (atom_at list place)) (sym means.atoms)

  shown_same : (place : ℕ) → below place ≡ true → is_shown template.show place ≡ said.shown (atom_at said.atoms place)
  shown_same place is =
      means.shown place (ltb-true place (length template.atoms) is) ∙ ap (λ (list : List TermAtom). said.shown (atom_at list place)) (sym means.atoms)

  place_same : (place : ℕ) → below place ≡ true → atom_text template place ≡ place_text said place
  unfolding atom_text
  place_same place is =
      ap₂ (λ (shown : Bool) (text : List ℕ). if shown then 32 ∷ text else []) (shown_same place is) (numbered_same place)

  states_same : (k : ℕ) (states : List (List ℕ)) → list_all (list_all below) states ≡ true → state_lines template k states ≡ states_text said k states
  states_same k [] all = refl
  states_same k (state ∷ more) all =
      let both = and_parts (list_all below state) (list_all (list_all below) more) all in
      ap₂ (λ (line rest : List ℕ). (codes "state " ++ decimal k ++ codes ":" ++ line ++ codes "\n") ++ rest)
      (texts_agree (atom_text template) (place_text said) below state place_same both.0) (states_same (k + 1) more both.1)

  trace_same : (trace : List (List ℕ)) → list_all (list_all below) trace ≡ true → trace_lines template trace ≡ trace_text said trace
  trace_same trace all = ap (λ (lines : List ℕ). codes "trace\n" ++ lines) (states_same 0 trace all)

pub prints-same : PrintsAreOfTheories
prints-same template said n traces how means all i =
    header_line n
    ++ texts_agree (trace_lines template) (trace_text said) (list_all (list_all (λ place. nat_lt place (length template.atoms)))) traces (trace_same template said means) all i
    ++ closing_line how (length traces)

-- ---- the traces of a list are over the atoms of their program

states_below : (count : ℕ) (trace : List (List ℕ)) → list_all (is_state count) trace ≡ true → list_all (list_all (λ place. nat_lt place count)) trace ≡ true
states_below count [] h = refl
states_below count (state ∷ trace) h =
    let both = and_parts (is_state count state) (list_all (is_state count) trace) h in
    let here = and_parts (numbers_rise state) (list_all (λ place. nat_lt place count) state) both.0 in
    and_from (list_all (λ place. nat_lt place count) state) (list_all (list_all (λ place. nat_lt place count)) trace) here.1 (states_below count trace both.1)

pub listed-below : (template : Ground) (n : ℕ) → are_below (length template.atoms) (list_of template n) ≡ true
listed-below template zero = refl
listed-below template (suc n) =
    let count = length template.atoms in
    let traces = all_traces count (suc n) in
    subst (λ (listed : List (List (List ℕ))). are_below count listed ≡ true) (sym (list_of-suc template n))
    (list_all-from_In (list_all (list_all (λ place. nat_lt place count))) _ (λ trace listed.
    let kept = In-filter_from (tem template (suc n)) trace traces listed in
    states_below count trace (Under-full count (suc n) trace (Under-traces_below trace (full_trace count (suc n)) kept.0)).1))

pub lists-print-same : ListsPrintAsTheories
lists-print-same template said n how ground means =
    prints-same template said n (list_of template n) how means (listed-below template n)
    ∙ (λ i. print_theory said n (lists-same template said n ground means i) how)
