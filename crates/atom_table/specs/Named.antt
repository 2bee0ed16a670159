-- Atoms without variables by the bytes of their names, so that they mean the same before and after these have numbers.
use Rattle.std.specs.Prelude.{ℕ, Bool, true, ◌&&◌, List, [], ◌∷◌, ◌++◌, length, position, Option, None, if◌then◌else◌}
use Rattle.std.specs.Bool.{beq}
use Rattle.std.specs.List.{list_all, list_any, flat_map, enumerate_from}
use Rattle.std.specs.Option.{option_to_list, option_map}
use Rattle.std.specs.Ordering.{nat_cmp, bool_cmp, ordering_then, is_lt}
use Rattle.std.specs.Str.{bytes_eq}
use Rattle.std.specs.Cmp.Lexicographic.{slice_cmp}
use Rattle.std.specs.declared.cmp.Ordering.{Ordering}
use Rattle.tel_term.specs.declared.terms.Term.{Term}
use Rattle.tel_term.specs.declared.terms.Value.{Value}
use Rattle.tel_rule.specs.declared.ground.GroundAtom.{GroundAtom}
use Rattle.tel_rule.specs.Rising.{name_cmp}
use Rattle.tel_rule.specs.Atoms.{name_of, values_eq, value_cmp, value_in_range}

-- an atom without variables: its sign, its name and the values of its arguments
pub record NamedAtom : Type 0 where
  pub negative : Bool
  pub name : List ℕ
  pub args : List Value

abbrev pub named_eq : NamedAtom → NamedAtom → Bool
named_eq a b = beq a.negative b.negative && (bytes_eq a.name b.name && values_eq a.args b.args)

-- whether an atom is among these
abbrev pub has_atom : List NamedAtom → NamedAtom → Bool
has_atom atoms atom = list_any (named_eq atom) atoms

-- the atoms and this one, which is put at the end unless it is there
abbrev pub with_atom : List NamedAtom → NamedAtom → List NamedAtom
with_atom atoms atom = if has_atom atoms atom then atoms else atoms ++ atom ∷ []

-- the number of an atom among these, its place from 0, where it is there
abbrev pub number_of : List NamedAtom → NamedAtom → Option ℕ
number_of atoms atom = position (named_eq atom) atoms

-- how atoms stand to one another: by the bytes of their names, plain before negative, by the number of arguments, by these from left to right
abbrev pub named_cmp : List Term → NamedAtom → NamedAtom → Ordering
named_cmp symbols a b =
    ordering_then (name_cmp a.name b.name) (ordering_then (bool_cmp a.negative b.negative) (ordering_then (nat_cmp (length a.args) (length b.args)) (slice_cmp (value_cmp symbols) a.args b.args)))

abbrev pub named_lt : List Term → NamedAtom → NamedAtom → Bool
named_lt symbols a b = is_lt (named_cmp symbols a b)

-- the names and strings of the arguments are among these symbols
abbrev pub args_in_range : List Term → NamedAtom → Bool
args_in_range symbols atom = list_all (value_in_range symbols) atom.args

-- the atom that one whose name is a symbol stands for
abbrev pub named_as : List Term → GroundAtom → NamedAtom
named_as symbols atom = record { negative = atom.negative; name = name_of symbols atom; args = atom.args }

-- ---- pairs

-- the number of the negative of a plain atom among these, where it is there
abbrev pub negative_number : List NamedAtom → NamedAtom → Option ℕ
negative_number atoms atom = if atom.negative then None else number_of atoms (record { negative = true; name = atom.name; args = atom.args })

abbrev pub named_pair : List NamedAtom → ℕ × NamedAtom → List (ℕ × ℕ)
named_pair atoms one = option_to_list (option_map (λ (number : ℕ). (one.0, number)) (negative_number atoms one.1))

-- the numbers of each plain atom and its negative, by the number of the plain one
abbrev pub named_pairs : List NamedAtom → List (ℕ × ℕ)
named_pairs atoms = flat_map (named_pair atoms) (enumerate_from 0 atoms)
