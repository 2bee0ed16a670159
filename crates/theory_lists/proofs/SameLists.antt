-- A template that means a theory has its temporal equilibrium models.
use Rattle.std.proofs.Common.{◌≡◌, ℕ, zero, suc, ◌<◌, Bool, true, not, ◌&&◌, ◌||◌, List, [], ◌∷◌, length, map, refl, sym, ap, ap₂, ◌∙◌, subst}
use Rattle.std.specs.Prelude.{slice_index_or, nat_lt, ◌==◌, if◌then◌else◌}
use Rattle.std.specs.List.{filter, list_all}
use Rattle.std.proofs.lemmas.Bool.{false≢true, and_parts, eqb-true, eq-eqb, ltb-true}
use Rattle.std.proofs.lemmas.List.{length-map}
use Rattle.tel_base.specs.Members.{In}
use Rattle.tel_base.proofs.Members.{In-list_all, any_found, any_from}
use Rattle.tel_rule.specs.Rising.{rises, numbers_rise}
use Rattle.tel_rule.specs.Ground.{Ground, IsGround}
use Rattle.tel_semantics.specs.Traces.{test_of, is_state, is_below, Agree}
use Rattle.tel_semantics.specs.Theory.{theory, is_model}
use Rattle.tel_semantics.specs.Lists.{traces_below, all_traces, full_trace}
use Rattle.tel_semantics.specs.Equilibrium as ground
use Rattle.tel_semantics.specs.Equilibrium.{tem, list_of}
use Rattle.tel_semantics.proofs.Below.{Under-traces_below, Under-full}
use Rattle.tel_semantics.proofs.Minimal.{IsBelow-Under}
use Rattle.tel_semantics.proofs.InRange.{theory_below}
use Rattle.theory_lists.specs.Atoms.{TermAtom, term_atom_lt, same_atom, atom_over, atom_at}
use Rattle.theory_lists.specs.Renaming.{renamed_demand}
use Rattle.theory_lists.specs.Theories.{ProgramTheory, Means, atoms_over, numbered_atom}
use Rattle.theory_lists.specs.Lists.{told, models, is_minimal, is_equilibrium, equilibria}
use Rattle.theory_lists.specs.Laws.{ListsAreOfTheories}
use Rattle.theory_lists.proofs.Agreeing.{any_agree, all_agree, filter_agrees}
use Rattle.theory_lists.proofs.AtomOrder.{atoms-rise, same_place}
use Rattle.theory_lists.proofs.RenamedHolds.{through, models-renamed}

-- ---- the atoms that are true

-- the atoms of a trace are below the count
abbrev pub StaysBelow : ℕ → List (List ℕ) → Type 0
StaysBelow count trace = (k place : ℕ) → test_of trace k place ≡ true → place < count

stays_below : (count : ℕ) (trace : List (List ℕ)) → list_all (is_state count) trace ≡ true → StaysBelow count trace
stays_below count [] h k place there = absurd (false≢true there)
stays_below count (state ∷ trace) h zero place there =
    let both = and_parts (is_state count state) (list_all (is_state count) trace) h in
    let here = and_parts (numbers_rise state) (list_all (λ atom. nat_lt atom count) state) both.0 in
    let found = any_found (λ (x : ℕ). x == place) state there in
    let below = ltb-true found.0 count (In-list_all (λ (atom : ℕ). nat_lt atom count) found.0 state here.1 found.1) in
    subst (λ (x : ℕ). x < count) (eqb-true found.0 place found.2) below
stays_below count (state ∷ trace) h (suc k) place there =
    stays_below count trace (and_parts (is_state count state) (list_all (is_state count) trace) h).1 k place there

-- the atom at a place is told where the place is in the state
told_at : (atoms : List TermAtom) (trace : List (List ℕ)) (k place : ℕ) → rises term_atom_lt atoms ≡ true → StaysBelow (length atoms) trace → place < length atoms → told atoms trace k (atom_at atoms place) ≡ test_of trace k place
told_at atoms trace k place up below l =
    let state = slice_index_or trace k [] in
    any_agree (λ (p : ℕ). same_atom (atom_at atoms p) (atom_at atoms place)) (λ (p : ℕ). p == place) state (λ p found.
    same_place atoms p place up (below k p (any_from (λ (x : ℕ). x == p) state p found (eq-eqb p p refl))) l)

-- ---- the models

-- what a template means, whatever is shown
abbrev meant : Ground → (TermAtom → Bool) → ProgramTheory
meant template shown = record { atoms = atoms_over template; demands = map (renamed_demand (numbered_atom template)) (theory template); shown = shown }

is_meant : (template : Ground) (said : ProgramTheory) → Means template said → said ≡ meant template said.shown
is_meant template said means i = record { atoms = means.atoms i; demands = means.demands i; shown = said.shown }

module _ (template : Ground) (shown : TermAtom → Bool) (grounded : IsGround template) (n : ℕ) where
  atoms_many : length (atoms_over template) ≡ length template.atoms
  atoms_many = length-map template.atoms (atom_over template.symbols)

  told_as : (trace : List (List ℕ)) → StaysBelow (length (atoms_over template)) trace → Agree n (length template.atoms) (through (numbered_atom template) (told (atoms_over template) trace)) (test_of trace)
  told_as trace below k place l m =
      told_at (atoms_over template) trace k place (atoms-rise template grounded) below (subst (λ (count : ℕ). place < count) (sym atoms_many) m)

  same_models : (H T : List (List ℕ)) → StaysBelow (length (atoms_over template)) H → StaysBelow (length (atoms_over template)) T → models (meant template shown) n H T ≡ is_model (theory template) n (test_of H) (test_of T)
  same_models H T h t =
      models-renamed (numbered_atom template) (theory template) n (length template.atoms) (told (atoms_over template) H) (told (atoms_over template) T) (test_of H) (test_of T)
      (theory_below template grounded) (told_as H h) (told_as T t)

  same_minimal : (T : List (List ℕ)) → StaysBelow (length (atoms_over template)) T → is_minimal (meant template shown) n T ≡ ground.is_minimal template n T
  same_minimal T t =
      all_agree _ _ (traces_below T) (λ H found.
      ap₂ (λ (b : Bool) (count : ℕ). not b || is_below n count (test_of T) (test_of H))
      (same_models H T (λ k place there. t k place (IsBelow-Under H T (Under-traces_below H T found) k place there)) t) atoms_many)

  same_equilibrium : (T : List (List ℕ)) → In T (all_traces (length (atoms_over template)) n) → tem template n T ≡ is_equilibrium (meant template shown) n T
  same_equilibrium T found =
      let count = length (atoms_over template) in
      let t = stays_below count T (Under-full count n T (Under-traces_below T (full_trace count n) found)).1 in
      ap₂ (λ (b c : Bool). b && c) (sym (same_models T T t t)) (sym (same_minimal T t))

  same_list : list_of template n ≡ equilibria (meant template shown) n
  same_list =
      ap (λ (traces : List (List (List ℕ))). if n == 0 then [] else traces)
      (ap (λ (count : ℕ). filter (tem template n) (all_traces count n)) (sym atoms_many)
      ∙ filter_agrees (tem template n) (is_equilibrium (meant template shown) n) (all_traces (length (atoms_over template)) n) same_equilibrium)

pub lists-same : ListsAreOfTheories
lists-same template said n grounded means =
    same_list template said.shown grounded n ∙ ap (λ (theory : ProgramTheory). equilibria theory n) (sym (is_meant template said means))
