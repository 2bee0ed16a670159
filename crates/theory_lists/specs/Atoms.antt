-- Ground atoms, and their order.
use Rattle.std.specs.Prelude.{ℕ, Bool, true, false, not, ◌&&◌, List, [], ◌∷◌, map, length, bytes_eq, slice_index_or, if◌then◌else◌}
use Rattle.std.specs.Ordering.{nat_cmp, bool_cmp, ordering_then, is_lt}
use Rattle.std.specs.Cmp.Lexicographic.{slice_cmp}
use Rattle.std.specs.declared.cmp.Ordering.{Ordering}
use Rattle.tel_term.specs.declared.terms.Term.{Term}
use Rattle.tel_term.specs.Symbols.{term_eq}
use Rattle.tel_term.specs.Order.{term_at, term_cmp}
use Rattle.tel_rule.specs.Rising.{name_cmp}
use Rattle.tel_rule.specs.Atoms.{name_of}
use Rattle.tel_rule.specs.declared.ground.GroundAtom.{GroundAtom}

-- a name, strongly negated or not, and the terms that are its arguments
pub record TermAtom : Type 0 where
  pub negative : Bool
  pub name : List ℕ
  pub args : List Term

-- the order of atoms: by the bytes of their names, plain before negative, by the number of arguments, by these from left to right
abbrev pub term_atom_cmp : TermAtom → TermAtom → Ordering
term_atom_cmp a b =
    ordering_then (name_cmp a.name b.name) (ordering_then (bool_cmp a.negative b.negative) (ordering_then (nat_cmp (length a.args) (length b.args)) (slice_cmp term_cmp a.args b.args)))

-- whether an atom comes strictly before another
abbrev pub term_atom_lt : TermAtom → TermAtom → Bool
term_atom_lt a b = is_lt (term_atom_cmp a b)

-- whether two lists of terms are alike, one by one
abbrev pub terms_eq : List Term → List Term → Bool
terms_eq [] [] = true
terms_eq (x ∷ xs) (y ∷ ys) = term_eq x y && terms_eq xs ys
terms_eq xs ys = false

-- whether two atoms have the same sign, name and arguments
abbrev pub same_atom : TermAtom → TermAtom → Bool
same_atom a b = (if a.negative then b.negative else not b.negative) && (bytes_eq a.name b.name && terms_eq a.args b.args)

-- the strong negation of a plain atom
abbrev pub negative_of : TermAtom → TermAtom
negative_of atom = record { negative = true; name = atom.name; args = atom.args }

-- the atom that an atom over these symbols stands for
abbrev pub atom_over : List Term → GroundAtom → TermAtom
atom_over symbols atom = record { negative = atom.negative; name = name_of symbols atom; args = map (term_at symbols) atom.args }

-- the atom at a place; past the end there is none, and so an atom without a name
abbrev pub atom_at : List TermAtom → ℕ → TermAtom
atom_at atoms place = slice_index_or atoms place (record { negative = false; name = []; args = [] })
