-- Atoms over symbols, where their keys are sorted.
use Rattle.std.proofs.Common.{◌≡◌, ◌↔◌, ℕ, Bool, true, ◌&&◌, List, [], ◌∷◌, map, length, get_or, refl, ap, ◌∙◌, arith, length-append}
use Rattle.std.specs.List.{list_all}
use Rattle.std.specs.List.Sorted.{IsPermutation}
use Rattle.std.proofs.lemmas.Bool.{and_from, and_parts, ltb-true, lt-ltb}
use Rattle.std.proofs.lemmas.List.Sorted.{IsPermutation-sym, IsPermutation-map}
use Rattle.std.proofs.lemmas.Option.{slice_get-get_or, get_or_from_slice_get, slice_get_within}
use Rattle.tel_base.proofs.Members.{In, In-list_all, list_all-from_In}
use Rattle.tel_term.specs.declared.terms.Term.{Term}
use Rattle.tel_term.specs.declared.terms.Term.TheVariants as terms
use Rattle.tel_term.specs.declared.terms.Value.{Value}
use Rattle.tel_term.specs.declared.terms.Value.TheVariants as values
use Rattle.tel_term.specs.Symbols.{IsTable}
use Rattle.tel_rule.specs.declared.ground.GroundAtom.{GroundAtom}
use Rattle.tel_rule.specs.Atoms.{name_bytes, is_name, symbol_of, value_in_range, atom_lt, atom_in_range}
use Rattle.tel_rule.specs.Rising.{rises}
use Rattle.atom_table.specs.declared.keys.Key.{Key}
use Rattle.atom_table.specs.Named.{NamedAtom, named_lt, named_as, args_in_range}
use Rattle.atom_table.specs.Keys.{named_by, atoms_by, key_lt, is_held, is_ranged, ground_by}
use Rattle.atom_table.specs.Sorted.{Grows, AreSorted, IsNameAt, AreNames}
use Rattle.atom_table.proofs.InOrder.{moved_in}

-- ---- values in range stay so

value_stays : (old new : List Term) (value : Value) → Grows old new → value_in_range old value ≡ true → value_in_range new value ≡ true
value_stays old new (values.Num n) grows is = refl
value_stays old new (values.Sym number) grows is =
    let less = ltb-true number (length old) is in
    let long = ap length grows.1 ∙ length-append old grows.0 in
    lt-ltb number (length new) (omega (arith, less, long))

values_stay : (old new : List Term) (row : List Value) → Grows old new → list_all (value_in_range old) row ≡ true → list_all (value_in_range new) row ≡ true
values_stay old new [] grows all = refl
values_stay old new (x ∷ row) grows all =
    let both = and_parts (value_in_range old x) (list_all (value_in_range old) row) all in
    and_from (value_in_range new x) (list_all (value_in_range new) row) (value_stays old new x grows both.0) (values_stay old new row grows both.1)

pub ranged_stay : (old new : List Term) (keys : List Key) → Grows old new → list_all (is_ranged old) keys ≡ true → list_all (is_ranged new) keys ≡ true
ranged_stay old new [] grows all = refl
ranged_stay old new (key ∷ keys) grows all =
    let both = and_parts (is_ranged old key) (list_all (is_ranged old) keys) all in
    and_from (is_ranged new key) (list_all (is_ranged new) keys) (values_stay old new key.row grows both.0) (ranged_stay old new keys grows both.1)

-- what is asked of atoms is asked of their keys
pub keys_ranged : (symbols : List Term) (names : List (List ℕ)) (keys : List Key) → list_all (args_in_range symbols) (atoms_by names keys) ≡ true → list_all (is_ranged symbols) keys ≡ true
keys_ranged symbols names [] all = refl
keys_ranged symbols names (key ∷ keys) all =
    let both = and_parts (is_ranged symbols key) (list_all (args_in_range symbols) (atoms_by names keys)) all in
    and_from (is_ranged symbols key) (list_all (is_ranged symbols) keys) both.0 (keys_ranged symbols names keys both.1)

-- ---- keys that are moved

pub moved_all : {X : Type 0} (p : X → Bool) (xs ys : List X) → IsPermutation xs ys → list_all p xs ≡ true → list_all p ys ≡ true
moved_all p xs ys moved all = list_all-from_In p ys (λ y there. In-list_all p y xs all (moved_in ys xs y (IsPermutation-sym xs ys moved) there))

pub moved_members : (names : List (List ℕ)) (old new : List Key) → IsPermutation old new → (atom : NamedAtom) → In atom (atoms_by names new) ↔ In atom (atoms_by names old)
moved_members names old new moved atom =
    let mapped = IsPermutation-map (named_by names) old new moved in
    (moved_in (atoms_by names new) (atoms_by names old) atom (IsPermutation-sym (atoms_by names old) (atoms_by names new) mapped), moved_in (atoms_by names old) (atoms_by names new) atom mapped)

-- ---- atoms over symbols

module _ (symbols : List Term) (names : List (List ℕ)) (numbers : List ℕ) (are : AreNames symbols names numbers) where
  pub name_there : (key : Key) → is_held names key ≡ true → IsNameAt symbols (get_or numbers key.name 0) (get_or names key.name [])
  name_there key held = are key.name (get_or names key.name []) (slice_get-get_or names key.name [] (ltb-true key.name (length names) held))

  pub name_is : (key : Key) → is_held names key ≡ true → symbol_of symbols (get_or numbers key.name 0) ≡ terms.Name (get_or names key.name [])
  name_is key held = get_or_from_slice_get symbols (get_or numbers key.name 0) (terms.Name (get_or names key.name [])) (terms.Name []) (name_there key held)

  same_atom : (key : Key) → is_held names key ≡ true → named_as symbols (ground_by numbers key) ≡ named_by names key
  same_atom key held =
      let name = ap name_bytes (name_is key held) in
      λ i. record { negative = key.negative; name = name i; args = key.row }

  same_atoms : (keys : List Key) → list_all (is_held names) keys ≡ true → map (named_as symbols) (map (ground_by numbers) keys) ≡ atoms_by names keys
  same_atoms [] held = refl
  same_atoms (key ∷ keys) held =
      let both = and_parts (is_held names key) (list_all (is_held names) keys) held in
      let here = same_atom key both.0 in
      let rest = same_atoms keys both.1 in
      λ i. here i ∷ rest i

  all_in_range : (keys : List Key) → list_all (is_held names) keys ≡ true → list_all (is_ranged symbols) keys ≡ true → list_all (atom_in_range symbols) (map (ground_by numbers) keys) ≡ true
  all_in_range [] held ranged = refl
  all_in_range (key ∷ keys) held ranged =
      let both = and_parts (is_held names key) (list_all (is_held names) keys) held in
      let values_are = and_parts (is_ranged symbols key) (list_all (is_ranged symbols) keys) ranged in
      let number = get_or numbers key.name 0 in
      let inside = lt-ltb number (length symbols) (slice_get_within symbols number (terms.Name (get_or names key.name [])) (name_there key both.0)) in
      and_from (atom_in_range symbols (ground_by numbers key)) (list_all (atom_in_range symbols) (map (ground_by numbers) keys))
      (and_from _ (is_name (symbol_of symbols number) && is_ranged symbols key) inside (and_from (is_name (symbol_of symbols number)) (is_ranged symbols key) (ap is_name (name_is key both.0)) values_are.0))
      (all_in_range keys both.1 values_are.1)

  all_rise : (keys : List Key) → list_all (is_held names) keys ≡ true → rises (key_lt symbols names) keys ≡ true → rises (atom_lt symbols) (map (ground_by numbers) keys) ≡ true
  all_rise [] held rise = refl
  all_rise (x ∷ []) held rise = refl
  all_rise (x ∷ y ∷ keys) held rise =
      let first = and_parts (is_held names x) (list_all (is_held names) (y ∷ keys)) held in
      let second = and_parts (is_held names y) (list_all (is_held names) keys) first.1 in
      let up = and_parts (key_lt symbols names x y) (rises (key_lt symbols names) (y ∷ keys)) rise in
      let same_x = same_atom x first.0 in
      let same_y = same_atom y second.0 in
      let less : named_lt symbols (named_as symbols (ground_by numbers x)) (named_as symbols (ground_by numbers y)) ≡ true = (λ i. named_lt symbols (same_x i) (same_y i)) ∙ up.0 in
      and_from (atom_lt symbols (ground_by numbers x) (ground_by numbers y)) (rises (atom_lt symbols) (map (ground_by numbers) (y ∷ keys))) less (all_rise (y ∷ keys) first.1 up.1)

  pub arranged : (keys : List Key) (atoms : List GroundAtom) → IsTable symbols → list_all (is_held names) keys ≡ true → list_all (is_ranged symbols) keys ≡ true → rises (key_lt symbols names) keys ≡ true → atoms ≡ map (ground_by numbers) keys
      → AreSorted symbols atoms (atoms_by names keys)
  arranged keys atoms table held ranged rise is = record {
    table = table;
    in_range = ap (list_all (atom_in_range symbols)) is ∙ all_in_range keys held ranged;
    rise = ap (rises (atom_lt symbols)) is ∙ all_rise keys held rise;
    stand = ap (map (named_as symbols)) is ∙ same_atoms keys held;
  }
