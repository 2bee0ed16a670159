-- What is printed for a length of a theory over ground atoms, byte for byte: a header, the lines of each trace, and a closing line.
use Rattle.std.specs.Prelude.{ℕ, ◌+◌, List, [], ◌∷◌, ◌++◌, length, decimal, codes, if◌then◌else◌}
use Rattle.std.specs.List.{flat_map}
use Rattle.tel_term.specs.declared.terms.Term.{Term}
use Rattle.tel_semantics.specs.declared.ends.How.{How}
use Rattle.tel_semantics.specs.Print.{header_line, closing_line, term_text, sign_text}
use Rattle.theory_lists.specs.Atoms.{TermAtom, atom_at}
use Rattle.theory_lists.specs.Theories.{ProgramTheory}

-- an argument behind another
abbrev pub next_term : Term → List ℕ
next_term term = codes "," ++ term_text term

-- arguments in brackets, with commas between; of none there is nothing
abbrev pub terms_text : List Term → List ℕ
terms_text [] = []
terms_text (first ∷ more) = codes "(" ++ term_text first ++ flat_map next_term more ++ codes ")"

-- an atom: a hyphen where it is negative, its name, and its arguments
abbrev pub term_atom_text : TermAtom → List ℕ
term_atom_text atom = sign_text atom.negative ++ atom.name ++ terms_text atom.args

-- a space and the atom at a place, where it is shown; of one that isn't there is nothing
abbrev pub place_text : ProgramTheory → ℕ → List ℕ
place_text theory place =
    let atom = atom_at theory.atoms place in
    if theory.shown atom then codes " " ++ term_atom_text atom else []

-- "state k:" and the shown atoms that are true there
abbrev pub state_text : ProgramTheory → ℕ → List ℕ → List ℕ
state_text theory k state = codes "state " ++ decimal k ++ codes ":" ++ flat_map (place_text theory) state ++ codes "\n"

-- the lines of the states from k on
abbrev pub states_text : ProgramTheory → ℕ → List (List ℕ) → List ℕ
states_text theory k [] = []
states_text theory k (state ∷ states) = state_text theory k state ++ states_text theory (k + 1) states

-- "trace" and its states
abbrev pub trace_text : ProgramTheory → List (List ℕ) → List ℕ
trace_text theory states = codes "trace\n" ++ states_text theory 0 states

-- all that is printed for the length n
abbrev pub print_theory : ProgramTheory → ℕ → List (List (List ℕ)) → How → List ℕ
print_theory theory n traces how = header_line n ++ flat_map (trace_text theory) traces ++ closing_line how (length traces)
