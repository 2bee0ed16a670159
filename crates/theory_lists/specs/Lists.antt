-- The temporal equilibrium models of a theory over ground atoms (Cabalar, Kaminski, Schaub and Schuhmann 2018), and the list of those of a length.
-- A trace lists for each state the atoms that are true there, by their places among the atoms in their order.
use Rattle.std.specs.Prelude.{ℕ, Bool, not, ◌&&◌, ◌||◌, ◌==◌, List, [], length, slice_index_or, if◌then◌else◌}
use Rattle.std.specs.List.{filter, list_all, list_any}
use Rattle.tel_semantics.specs.Traces.{test_of, is_below}
use Rattle.tel_semantics.specs.Theory.{is_model}
use Rattle.tel_semantics.specs.Lists.{traces_below, all_traces}
use Rattle.theory_lists.specs.Atoms.{TermAtom, same_atom, atom_at}
use Rattle.theory_lists.specs.Theories.{ProgramTheory}

-- whether an atom is true at an instant of a trace: its place is in the state
abbrev pub told : List TermAtom → List (List ℕ) → ℕ → TermAtom → Bool
told atoms trace k atom = list_any (λ place. same_atom (atom_at atoms place) atom) (slice_index_or trace k [])

-- whether (H, T) is a model of a theory, for listed traces of length n
abbrev pub models : ProgramTheory → ℕ → List (List ℕ) → List (List ℕ) → Bool
models theory n H T = is_model theory.demands n (told theory.atoms H) (told theory.atoms T)

-- whether each H below T that is a model with it has all of T
abbrev pub is_minimal : ProgramTheory → ℕ → List (List ℕ) → Bool
is_minimal theory n T = list_all (λ H. not (models theory n H T) || is_below n (length theory.atoms) (test_of T) (test_of H)) (traces_below T)

-- T is a temporal equilibrium model: (T, T) is a model, and no (H, T) with H below T and other than T is one
abbrev pub is_equilibrium : ProgramTheory → ℕ → List (List ℕ) → Bool
is_equilibrium theory n T = models theory n T T && is_minimal theory n T

-- the temporal equilibrium models of length n, in the order of traces; there is none of length 0
abbrev pub equilibria : ProgramTheory → ℕ → List (List (List ℕ))
equilibria theory n = if n == 0 then [] else filter (is_equilibrium theory n) (all_traces (length theory.atoms) n)
