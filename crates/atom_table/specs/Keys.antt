-- Atoms as they are held: each under the number of its name.
use Rattle.std.specs.Prelude.{ℕ, ◌-◌, ◌^◌, ◌<◌, Bool, true, ◌&&◌, ◌==◌, List, [], map, length, nat_lt, position, slice_index_or, IsTrue, Option, None, if◌then◌else◌}
use Rattle.std.specs.Bool.{beq}
use Rattle.std.specs.List.{list_all, position_or_len, IsDistinct, flat_map, enumerate_from}
use Rattle.std.specs.Option.{option_to_list, option_map}
use Rattle.std.specs.Ordering.{nat_cmp, int_cmp, bool_cmp, ordering_then, is_lt}
use Rattle.std.specs.Cmp.Lexicographic.{slice_cmp}
use Rattle.std.specs.Str.{bytes_eq}
use Rattle.std.specs.declared.cmp.Ordering.{Ordering}
use Rattle.std.specs.declared.cmp.Ordering.TheVariants.{Less, Greater}
use Rattle.tel_term.specs.declared.terms.Term.{Term}
use Rattle.tel_term.specs.declared.terms.Value.{Value}
use Rattle.tel_term.specs.declared.terms.Value.TheVariants as values
use Rattle.tel_rule.specs.declared.ground.GroundAtom.{GroundAtom}
use Rattle.tel_rule.specs.Atoms.{values_eq, value_in_range}
use Rattle.atom_table.specs.declared.keys.Key.{Key}
use Rattle.atom_table.specs.Named.{NamedAtom, named_cmp}

abbrev pub key_eq : Key → Key → Bool
key_eq a b = beq a.negative b.negative && ((a.name == b.name) && values_eq a.row b.row)

-- the place of a name among these; their count, where it isn't there
abbrev pub name_place : List (List ℕ) → List ℕ → ℕ
name_place names name = position_or_len (bytes_eq name) names

-- the atom of a key; a number past the end is that of the empty name
abbrev pub named_by : List (List ℕ) → Key → NamedAtom
named_by names key = record { negative = key.negative; name = slice_index_or names key.name []; args = key.row }

abbrev pub atoms_by : List (List ℕ) → List Key → List NamedAtom
atoms_by names keys = map (named_by names) keys

abbrev pub is_held : List (List ℕ) → Key → Bool
is_held names key = nat_lt key.name (length names)

-- each name stands once, keys have names, and names and keys are few enough to be numbered
pub record AreHeld (names : List (List ℕ)) (keys : List Key) : Type 0 where
  pub distinct : IsDistinct bytes_eq names
  pub held : IsTrue (list_all (is_held names) keys)
  pub few_names : length names < 2 ^ 32 - 1
  pub few_keys : length keys < 2 ^ 32 - 1

-- the names and strings of a key's values are among these symbols
abbrev pub is_ranged : List Term → Key → Bool
is_ranged symbols key = list_all (value_in_range symbols) key.row

-- values stand as their terms, where symbols have ranks: numbers before symbols
abbrev pub rank_cmp : List ℕ → Value → Value → Ordering
rank_cmp ranks (values.Num m) (values.Num n) = int_cmp m n
rank_cmp ranks (values.Num m) (values.Sym n) = Less
rank_cmp ranks (values.Sym m) (values.Num n) = Greater
rank_cmp ranks (values.Sym m) (values.Sym n) = nat_cmp (slice_index_or ranks m 0) (slice_index_or ranks n 0)

-- the rank of the name of a key, where its symbol has this number
abbrev pub name_rank : List ℕ → List ℕ → Key → ℕ
name_rank ranks numbers key = slice_index_or ranks (slice_index_or numbers key.name 0) 0

-- keys stand by the ranks of their names and values
abbrev pub key_rank_cmp : List ℕ → List ℕ → Key → Key → Ordering
key_rank_cmp ranks numbers a b =
    ordering_then (nat_cmp (name_rank ranks numbers a) (name_rank ranks numbers b)) (ordering_then (bool_cmp a.negative b.negative) (ordering_then (nat_cmp (length a.row) (length b.row)) (slice_cmp (rank_cmp ranks) a.row b.row)))

-- keys stand as their atoms
abbrev pub key_cmp : List Term → List (List ℕ) → Key → Key → Ordering
key_cmp symbols names a b = named_cmp symbols (named_by names a) (named_by names b)

abbrev pub key_lt : List Term → List (List ℕ) → Key → Key → Bool
key_lt symbols names a b = is_lt (key_cmp symbols names a b)

abbrev pub is_negative : Key → Bool
is_negative key = key.negative

-- the number of the negative of a plain atom, where it is there
abbrev pub negative_key : List Key → Key → Option ℕ
negative_key keys key = if key.negative then None else position (key_eq (record { negative = true; name = key.name; row = key.row })) keys

abbrev pub key_pair : List Key → ℕ × Key → List (ℕ × ℕ)
key_pair keys one = option_to_list (option_map (λ (number : ℕ). (one.0, number)) (negative_key keys one.1))

-- the numbers of each plain atom and its negative
abbrev pub key_pairs : List Key → List (ℕ × ℕ)
key_pairs keys = flat_map (key_pair keys) (enumerate_from 0 keys)

-- the atom of a key whose name is the symbol with the number that its name has
abbrev pub ground_by : List ℕ → Key → GroundAtom
ground_by numbers key = record { negative = key.negative; name = slice_index_or numbers key.name 0; args = key.row }
