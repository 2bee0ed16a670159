-- What atoms stand for where a table has grown, and the numbers of atoms over terms.
use Rattle.std.proofs.Common.{◌≡◌, ◌+◌, Bool, true, false, not, cond, List, [], ◌∷◌, length, map, nat_lt, Some, None, refl, sym, ap, ap₂, ◌∙◌, subst, ⊎_elim, inl, inr}
use Rattle.std.specs.Prelude.{slice_index_or, unwrap_or}
use Rattle.std.specs.List.{list_all, position, position_or_len}
use Rattle.std.proofs.Math.ListN.{get_or-append}
use Rattle.std.proofs.lemmas.Bool.{and_parts, ltb-true, cases_Bool, false_from_ne_true, false≢true}
use Rattle.std.proofs.lemmas.List.{length-map}
use Rattle.tel_base.proofs.Members.{In, In-list_all}
use Rattle.tel_term.specs.declared.terms.Term.{Term}
use Rattle.tel_term.specs.declared.terms.Term.TheVariants as terms
use Rattle.tel_term.specs.declared.terms.Value.{Value}
use Rattle.tel_term.specs.declared.terms.Value.TheVariants as values
use Rattle.tel_term.specs.Symbols.{IsTable}
use Rattle.tel_term.specs.Order.{term_at, value_in_range}
use Rattle.tel_rule.specs.declared.ground.GroundAtom.{GroundAtom}
use Rattle.theory_lists.specs.Atoms.{TermAtom, same_atom, atom_over}
use Rattle.theory_lists.proofs.AtomOrder.{atoms-one}
use Rattle.program_theory.specs.Templates.{number_among}
use Rattle.atom_table.specs.Named.{NamedAtom, named_eq, args_in_range, named_as}
use Rattle.atom_table.specs.Sorted.{Grows}
use Rattle.atom_table.proofs.PairNumbers.{named_one, named_itself}
use Rattle.program_instances.proofs.Named.{stood_for, one-named}
use Rattle.fact_instantiate.specs.Building.{number_in}

pub over_named : (symbols : List Term) (atoms : List GroundAtom) → map (atom_over symbols) atoms ≡ map (stood_for symbols) (map (named_as symbols) atoms)
over_named symbols [] = refl
over_named symbols (atom ∷ more) = ap (λ (rest : List TermAtom). atom_over symbols atom ∷ rest) (over_named symbols more)

-- ---- more symbols

term_stays : (old new : List Term) (value : Value) → Grows old new → value_in_range old value ≡ true → term_at new value ≡ term_at old value
term_stays old new (values.Num n) grows within = refl
term_stays old new (values.Sym number) grows within =
    let below = ltb-true number (length old) within in
    ap (λ (symbols : List Term). slice_index_or symbols number (terms.Name [])) grows.1 ∙ get_or-append old grows.0 (terms.Name []) number below

args_stay : (old new : List Term) (args : List Value) → Grows old new → list_all (value_in_range old) args ≡ true → map (term_at new) args ≡ map (term_at old) args
args_stay old new [] grows within = refl
args_stay old new (value ∷ more) grows within =
    let both = and_parts (value_in_range old value) (list_all (value_in_range old) more) within in
    ap₂ (λ (term : Term) (rest : List Term). term ∷ rest) (term_stays old new value grows both.0) (args_stay old new more grows both.1)

stood_stays : (old new : List Term) (atom : NamedAtom) → Grows old new → args_in_range old atom ≡ true → stood_for new atom ≡ stood_for old atom
stood_stays old new atom grows within =
    let args = args_stay old new atom.args grows within in
    λ i. record { negative = atom.negative; name = atom.name; args = args i }

pub all_stay : (old new : List Term) (atoms : List NamedAtom) → Grows old new → list_all (args_in_range old) atoms ≡ true → map (stood_for new) atoms ≡ map (stood_for old) atoms
all_stay old new [] grows within = refl
all_stay old new (atom ∷ more) grows within =
    let both = and_parts (args_in_range old atom) (list_all (args_in_range old) more) within in
    ap₂ (λ (one : TermAtom) (rest : List TermAtom). one ∷ rest) (stood_stays old new atom grows both.0) (all_stay old new more grows both.1)

-- ---- numbers

module _ {X Y : Type 0} (p : X → Bool) (q : Y → Bool) (f : Y → X) where
  places_same : (ys : List Y) → ((y : Y) → In y ys → p (f y) ≡ q y) → position_or_len p (map f ys) ≡ position_or_len q ys
  places_same [] same = refl
  places_same (y ∷ ys) same =
      let rest = places_same ys (λ other there. same other (inr there)) in
      let here = same y (inl refl) in
      λ i. cond (not (here i)) (1 + rest i) 0

  position_same : (ys : List Y) → ((y : Y) → In y ys → p (f y) ≡ q y) → position p (map f ys) ≡ position q ys
  position_same ys same =
      let place = places_same ys same in
      let count = length-map ys f in
      λ i. cond (nat_lt (place i) (count i)) (Some (place i)) None

tests_same : (symbols : List Term) (a b : NamedAtom) → IsTable symbols → args_in_range symbols a ≡ true → args_in_range symbols b ≡ true → same_atom (stood_for symbols a) (stood_for symbols b) ≡ named_eq a b
tests_same symbols a b table within there =
    ⊎_elim (λ (same : named_eq a b ≡ true). (atoms-one (stood_for symbols a) (stood_for symbols b)).1 (ap (stood_for symbols) (named_one a b same)) ∙ sym same)
    (λ (other : named_eq a b ≡ false).
    false_from_ne_true (same_atom (stood_for symbols a) (stood_for symbols b))
    (λ same. false≢true (sym other ∙ subst (λ (c : NamedAtom). named_eq a c ≡ true) (one-named symbols table a b within there ((atoms-one (stood_for symbols a) (stood_for symbols b)).0 same)) (named_itself a)))
    ∙ sym other)
    (cases_Bool (named_eq a b))

-- an atom in range has the number of the atom that it stands for
pub numbers_same : (symbols : List Term) (atoms : List NamedAtom) (atom : NamedAtom) → IsTable symbols → list_all (args_in_range symbols) atoms ≡ true → In atom atoms
    → number_among (map (stood_for symbols) atoms) (stood_for symbols atom) ≡ number_in atoms atom
numbers_same symbols atoms atom table within there =
    let here = In-list_all (args_in_range symbols) atom atoms within there in
    let same = position_same (same_atom (stood_for symbols atom)) (named_eq atom) (stood_for symbols) atoms
    (λ other found. tests_same symbols atom other table here (In-list_all (args_in_range symbols) other atoms within found)) in
    λ i. unwrap_or (same i) 0
