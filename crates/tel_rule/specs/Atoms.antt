-- Atoms over the names, strings and numbers that they are made of, and their order.
use Rattle.std.specs.Prelude.{ℕ, Bool, true, false, not, ◌&&◌, List, [], ◌∷◌, map, length, nat_lt, ◌==◌, slice_index_or}
use Rattle.std.specs.List.{list_all, filter, flat_map, range_with_len}
use Rattle.std.specs.Ordering.{nat_cmp, int_eq, bool_cmp, ordering_then, is_lt}
use Rattle.std.specs.Cmp.Lexicographic.{slice_cmp}
use Rattle.std.specs.declared.cmp.Ordering.{Ordering}
use Rattle.tel_term.specs.declared.terms.Term.{Term}
use Rattle.tel_term.specs.declared.terms.Term.TheVariants as terms
use Rattle.tel_term.specs.declared.terms.Value.{Value}
use Rattle.tel_term.specs.declared.terms.Value.TheVariants as values
use Rattle.tel_rule.specs.declared.ground.GroundAtom.{GroundAtom}
use Rattle.tel_rule.specs.Rising.{name_cmp}
pub use Rattle.tel_term.specs.Order.{term_cmp, symbol_of, term_at as term_of, value_cmp, value_in_range}

-- the bytes of a name
abbrev pub name_bytes : Term → List ℕ
name_bytes (terms.Name bytes) = bytes
name_bytes other = []

abbrev pub name_of : List Term → GroundAtom → List ℕ
name_of symbols atom = name_bytes (symbol_of symbols atom.name)

-- the order of atoms: by the bytes of their names, plain before negative, by the number of arguments, by these from left to right
abbrev pub atom_cmp : List Term → GroundAtom → GroundAtom → Ordering
atom_cmp symbols a b =
    ordering_then (name_cmp (name_of symbols a) (name_of symbols b)) (ordering_then (bool_cmp a.negative b.negative) (ordering_then (nat_cmp (length a.args) (length b.args)) (slice_cmp (value_cmp symbols) a.args b.args)))

abbrev pub atom_lt : List Term → GroundAtom → GroundAtom → Bool
atom_lt symbols a b = is_lt (atom_cmp symbols a b)

abbrev pub is_name : Term → Bool
is_name (terms.Name bytes) = true
is_name other = false

-- the name of an atom is a name among the symbols, and the names and strings of its arguments are among them
abbrev pub atom_in_range : List Term → GroundAtom → Bool
atom_in_range symbols atom =
    nat_lt atom.name (length symbols) && (is_name (symbol_of symbols atom.name) && list_all (value_in_range symbols) atom.args)

abbrev pub value_eq : Value → Value → Bool
value_eq (values.Num m) (values.Num n) = int_eq m n
value_eq (values.Sym m) (values.Sym n) = m == n
value_eq x y = false

abbrev pub values_eq : List Value → List Value → Bool
values_eq [] [] = true
values_eq (x ∷ xs) (y ∷ ys) = value_eq x y && values_eq xs ys
values_eq xs ys = false

-- whether the first is a plain atom and the second its negative
abbrev pub is_pair : GroundAtom → GroundAtom → Bool
is_pair plain other = not plain.negative && (other.negative && ((plain.name == other.name) && values_eq plain.args other.args))

-- the atom with a number; past the end there is a plain one
abbrev pub atom_at : List GroundAtom → ℕ → GroundAtom
atom_at atoms number = slice_index_or atoms number (record { negative = false; name = 0; args = [] })

-- the negatives of the atom with this number, each in a pair behind it
abbrev pub pairs_with : List GroundAtom → ℕ → List (ℕ × ℕ)
pairs_with atoms plain =
    map (λ (other : ℕ). (plain, other)) (filter (λ other. is_pair (atom_at atoms plain) (atom_at atoms other)) (range_with_len 0 (length atoms)))

-- the numbers of each plain atom and its negative, by the number of the plain one
abbrev pub pairs_of : List GroundAtom → List (ℕ × ℕ)
pairs_of atoms = flat_map (pairs_with atoms) (range_with_len 0 (length atoms))
