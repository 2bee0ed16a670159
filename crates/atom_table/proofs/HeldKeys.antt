-- The atoms of keys, when a key is added and when one is looked up.
use Rattle.std.proofs.Common.{◌≡◌, ℕ, ◌+◌, ◌<◌, ◌≤◌, Bool, true, false, ◌&&◌, ◌==◌, List, [], ◌∷◌, ◌++◌, length, get_or, refl, sym, ap, subst, ◌∙◌, true≢false, inl, inr, if◌then◌else◌, arith, length-append, Some, None, position}
use Rattle.std.specs.Bool.{beq}
use Rattle.std.specs.List.{list_all, list_any, IsDistinct}
use Rattle.std.specs.Str.{bytes_eq}
use Rattle.std.proofs.Math.ListN.{get_or-append}
use Rattle.std.proofs.Math.Seq.{get_or-append_seam}
use Rattle.std.proofs.lemmas.Bool.{and_from, and_parts, cases_Bool, false_from_ne_true, eqb-true, ltb-true, lt-ltb, or_from}
use Rattle.std.proofs.lemmas.List.{map-append}
use Rattle.std.proofs.lemmas.List.Folds.{list_all-append}
use Rattle.indexmap.specs.IndexSet.{insert_key}
use Rattle.tel_term.specs.declared.terms.Value.{Value}
use Rattle.tel_rule.specs.Atoms.{values_eq}
use Rattle.atom_table.specs.declared.keys.Key.{Key}
use Rattle.atom_table.specs.contracts.keys.KeyPartialEq.TheImpl.{eq-value}
use Rattle.atom_table.specs.Named.{NamedAtom, named_eq, has_atom, with_atom, number_of}
use Rattle.atom_table.specs.Keys.{key_eq, name_place, named_by, atoms_by, is_held}
use Rattle.atom_table.proofs.Agreeing.{any_same, position_same}
use Rattle.atom_table.proofs.Places.{same_names, distinct_push, missing, present, found, other_name, some_place, no_place, nowhere}

-- what `==` answers
derived_eq : (a b : Key) → eq-value.it a b ≡ key_eq a b
derived_eq a b = refl

pub derived : eq-value.it ≡ key_eq
derived = λ i a b. derived_eq a b i

-- ---- keys and their atoms, over one list of names

pub named_same : (names : List (List ℕ)) (a b : Key) → IsDistinct bytes_eq names → a.name < length names → is_held names b ≡ true → key_eq a b ≡ named_eq (named_by names a) (named_by names b)
named_same names a b distinct in_a held =
    let same = same_names names a.name b.name distinct in_a (ltb-true b.name (length names) held) in
    λ i. beq a.negative b.negative && (same i && values_eq a.row b.row)

-- an atom whose name stands at a number is that of the key with the number
pub has_same : (names : List (List ℕ)) (keys : List Key) (key : Key) (atom : NamedAtom) → IsDistinct bytes_eq names → list_all (is_held names) keys ≡ true → key.name < length names → named_by names key ≡ atom → list_any (key_eq key) keys ≡ has_atom (atoms_by names keys) atom
has_same names keys key atom distinct held inside is =
    any_same (named_by names) (key_eq key) (is_held names) (named_eq (named_by names key)) (λ x held_x. named_same names key x distinct inside held_x) keys held
    ∙ ap (has_atom (atoms_by names keys)) is

pub found_same : (names : List (List ℕ)) (keys : List Key) (key : Key) (atom : NamedAtom) → IsDistinct bytes_eq names → list_all (is_held names) keys ≡ true → key.name < length names → named_by names key ≡ atom → position (key_eq key) keys ≡ number_of (atoms_by names keys) atom
found_same names keys key atom distinct held inside is =
    position_same (named_by names) (key_eq key) (is_held names) (named_eq (named_by names key)) (λ x held_x. named_same names key x distinct inside held_x) keys held
    ∙ ap (number_of (atoms_by names keys)) is

-- ---- a name that isn't there

and_none : (a b c : Bool) → b ≡ false → (a && (b && c)) ≡ false
and_none true true c none = absurd (true≢false none)
and_none true false c none = refl
and_none false b c none = refl

missing_key : (names : List (List ℕ)) (keys : List Key) (key : Key) → list_all (is_held names) keys ≡ true → key.name ≡ length names → list_any (key_eq key) keys ≡ false
missing_key names [] key held end = refl
missing_key names (k ∷ keys) key held end =
    let both = and_parts (is_held names k) (list_all (is_held names) keys) held in
    let less = ltb-true k.name (length names) both.0 in
    let apart : (key.name == k.name) ≡ false = false_from_ne_true (key.name == k.name) (λ same. let is = eqb-true key.name k.name same in omega (arith, is, less, end)) in
    or_from (key_eq key k) (list_any (key_eq key) keys) (and_none (beq key.negative k.negative) (key.name == k.name) (values_eq key.row k.row) apart) (missing_key names keys key both.1 end)

missing_atom : (names : List (List ℕ)) (keys : List Key) (atom : NamedAtom) → list_all (is_held names) keys ≡ true → list_any (bytes_eq atom.name) names ≡ false → has_atom (atoms_by names keys) atom ≡ false
missing_atom names [] atom held none = refl
missing_atom names (k ∷ keys) atom held none =
    let both = and_parts (is_held names k) (list_all (is_held names) keys) held in
    let apart = other_name names atom.name k.name none (ltb-true k.name (length names) both.0) in
    or_from (named_eq atom (named_by names k)) (has_atom (atoms_by names keys) atom)
    (and_none (beq atom.negative k.negative) (bytes_eq atom.name (get_or names k.name [])) (values_eq atom.args k.row) apart) (missing_atom names keys atom both.1 none)

-- ---- a name more

held_on : (names : List (List ℕ)) (name : List ℕ) (keys : List Key) → list_all (is_held names) keys ≡ true → list_all (is_held (names ++ name ∷ [])) keys ≡ true
held_on names name [] held = refl
held_on names name (k ∷ keys) held =
    let both = and_parts (is_held names k) (list_all (is_held names) keys) held in
    let less = ltb-true k.name (length names) both.0 in
    let long = length-append names (name ∷ []) in
    and_from (is_held (names ++ name ∷ []) k) (list_all (is_held (names ++ name ∷ [])) keys) (lt-ltb k.name (length (names ++ name ∷ [])) (omega (arith, less, long))) (held_on names name keys both.1)

atoms_stay : (names : List (List ℕ)) (name : List ℕ) (keys : List Key) → list_all (is_held names) keys ≡ true → atoms_by (names ++ name ∷ []) keys ≡ atoms_by names keys
atoms_stay names name [] held = refl
atoms_stay names name (k ∷ keys) held =
    let both = and_parts (is_held names k) (list_all (is_held names) keys) held in
    let same = get_or-append names (name ∷ []) [] k.name (ltb-true k.name (length names) both.0) in
    let rest = atoms_stay names name keys both.1 in
    λ i. record { negative = k.negative; name = same i; args = k.row } ∷ rest i

-- ---- a key more

-- keys before and after, where the key of an atom is added
pub record Inserted (names new_names : List (List ℕ)) (keys new_keys : List Key) (atom : NamedAtom) : Type 0 where
  pub held : IsDistinct bytes_eq new_names × (list_all (is_held new_names) new_keys ≡ true)
  pub names_few : length new_names ≤ length names + 1
  pub keys_few : length new_keys ≤ length keys + 1
  pub atoms : atoms_by new_names new_keys ≡ with_atom (atoms_by names keys) atom

-- where the names hold the key's name
put_key : (names : List (List ℕ)) (keys : List Key) (key : Key) (known : List NamedAtom) (atom : NamedAtom) → list_all (is_held names) keys ≡ true → key.name < length names → named_by names key ≡ atom → atoms_by names keys ≡ known
    → list_any (key_eq key) keys ≡ has_atom known atom → (list_all (is_held names) (insert_key key_eq keys key) ≡ true) × (length (insert_key key_eq keys key) ≤ length keys + 1) × (atoms_by names (insert_key key_eq keys key) ≡ with_atom known atom)
put_key names keys key known atom held inside is before same = elim (cases_Bool (list_any (key_eq key) keys)) [
  | inl some ↦
      let stays : insert_key key_eq keys key ≡ keys = ap (λ (b : Bool). if b then keys else keys ++ key ∷ []) some in
      let none : with_atom known atom ≡ known = ap (λ (b : Bool). if b then known else known ++ atom ∷ []) (sym same ∙ some) in
      let long = ap length stays in
      (ap (list_all (is_held names)) stays ∙ held, omega (arith, long), ap (atoms_by names) stays ∙ before ∙ sym none)
  | inr none ↦
      let grown : insert_key key_eq keys key ≡ keys ++ key ∷ [] = ap (λ (b : Bool). if b then keys else keys ++ key ∷ []) none in
      let put : with_atom known atom ≡ known ++ atom ∷ [] = ap (λ (b : Bool). if b then known else known ++ atom ∷ []) (sym same ∙ none) in
      let long = ap length grown ∙ length-append keys (key ∷ []) in
      let last : is_held names key ≡ true = lt-ltb key.name (length names) inside in (
        ap (list_all (is_held names)) grown ∙ list_all-append (is_held names) keys (key ∷ [])
            ∙ and_from (list_all (is_held names) keys) (is_held names key && true) held (and_from (is_held names key) true last refl),
        omega (arith, long),
        ap (atoms_by names) grown ∙ map-append (named_by names) keys (key ∷ []) ∙ (λ i. before i ++ is i ∷ []) ∙ sym put,
      )
]

pub inserted : (names new_names : List (List ℕ)) (keys new_keys : List Key) (negative : Bool) (name : List ℕ) (number : ℕ) (row : List Value) → IsDistinct bytes_eq names → list_all (is_held names) keys ≡ true
    → new_names ≡ insert_key bytes_eq names name → number ≡ name_place names name → new_keys ≡ insert_key key_eq keys (record { negative = negative; name = number; row = row })
    → Inserted names new_names keys new_keys (record { negative = negative; name = name; args = row })
inserted names new_names keys new_keys negative name number row distinct held named at put = elim (cases_Bool (list_any (bytes_eq name) names)) [
  | inl some ↦
      let stays : new_names ≡ names = named ∙ ap (λ (b : Bool). if b then names else names ++ name ∷ []) some in
      let place = present names name some in
      let less = place.0 in
      let key : Key = record { negative = negative; name = number; row = row } in
      let atom : NamedAtom = record { negative = negative; name = name; args = row } in
      let inside : number < length names = omega (arith, at, less) in
      let name_is : get_or names number [] ≡ name = ap (λ (n : ℕ). get_or names n []) at ∙ place.1 in
      let is : named_by names key ≡ atom = λ i. record { negative = negative; name = name_is i; args = row } in
      let done = put_key names keys key (atoms_by names keys) atom held inside is refl (has_same names keys key atom distinct held inside is) in
      let long = ap length stays in
      let more = done.1 in
      let same_keys = ap length put in
      record {
        held = (subst (λ (ns : List (List ℕ)). IsDistinct bytes_eq ns) (sym stays) distinct, (λ i. list_all (is_held (stays i)) (put i)) ∙ done.0);
        names_few = omega (arith, long);
        keys_few = omega (arith, same_keys, more);
        atoms = (λ i. atoms_by (stays i) (put i)) ∙ done.2;
      }
  | inr none ↦
      let grown : new_names ≡ names ++ name ∷ [] = named ∙ ap (λ (b : Bool). if b then names else names ++ name ∷ []) none in
      let end : number ≡ length names = at ∙ missing names name none in
      let key : Key = record { negative = negative; name = number; row = row } in
      let atom : NamedAtom = record { negative = negative; name = name; args = row } in
      let length_is = length-append names (name ∷ []) in
      let inside : number < length (names ++ name ∷ []) = omega (arith, end, length_is) in
      let name_is : get_or (names ++ name ∷ []) number [] ≡ name = ap (λ (n : ℕ). get_or (names ++ name ∷ []) n []) end ∙ get_or-append_seam names name [] [] in
      let is : named_by (names ++ name ∷ []) key ≡ atom = λ i. record { negative = negative; name = name_is i; args = row } in
      let done = put_key (names ++ name ∷ []) keys key (atoms_by names keys) atom (held_on names name keys held) inside is (atoms_stay names name keys held)
      (missing_key names keys key held end ∙ sym (missing_atom names keys atom held none)) in
      let long = ap length grown in
      let more = done.1 in
      let same_keys = ap length put in
      record {
        held = (subst (λ (ns : List (List ℕ)). IsDistinct bytes_eq ns) (sym grown) (distinct_push names name distinct none), (λ i. list_all (is_held (grown i)) (put i)) ∙ done.0);
        names_few = omega (arith, long, length_is);
        keys_few = omega (arith, same_keys, more);
        atoms = (λ i. atoms_by (grown i) (put i)) ∙ done.2;
      }
]

-- ---- names more alone change no atom
pub named_more : (names new_names : List (List ℕ)) (keys : List Key) (name : List ℕ) → list_all (is_held names) keys ≡ true → new_names ≡ insert_key bytes_eq names name → atoms_by new_names keys ≡ atoms_by names keys
named_more names new_names keys name held named = elim (cases_Bool (list_any (bytes_eq name) names)) [
  | inl some ↦ ap (λ (ns : List (List ℕ)). atoms_by ns keys) (named ∙ ap (λ (b : Bool). if b then names else names ++ name ∷ []) some)
  | inr none ↦ ap (λ (ns : List (List ℕ)). atoms_by ns keys) (named ∙ ap (λ (b : Bool). if b then names else names ++ name ∷ []) none) ∙ atoms_stay names name keys held
]

pub held_more : (names new_names : List (List ℕ)) (keys : List Key) (name : List ℕ) → IsDistinct bytes_eq names → list_all (is_held names) keys ≡ true → new_names ≡ insert_key bytes_eq names name
    → IsDistinct bytes_eq new_names × (list_all (is_held new_names) keys ≡ true) × (length new_names ≤ length names + 1)
held_more names new_names keys name distinct held named = elim (cases_Bool (list_any (bytes_eq name) names)) [
  | inl some ↦
      let stays : new_names ≡ names = named ∙ ap (λ (b : Bool). if b then names else names ++ name ∷ []) some in
      let long = ap length stays in
      (subst (λ (ns : List (List ℕ)). IsDistinct bytes_eq ns) (sym stays) distinct, ap (λ (ns : List (List ℕ)). list_all (is_held ns) keys) stays ∙ held, omega (arith, long))
  | inr none ↦
      let grown : new_names ≡ names ++ name ∷ [] = named ∙ ap (λ (b : Bool). if b then names else names ++ name ∷ []) none in
      let long = ap length grown ∙ length-append names (name ∷ []) in
      (subst (λ (ns : List (List ℕ)). IsDistinct bytes_eq ns) (sym grown) (distinct_push names name distinct none), ap (λ (ns : List (List ℕ)). list_all (is_held ns) keys) grown ∙ held_on names name keys held, omega (arith, long))
]

-- ---- where an atom is

-- its name is there, and so its key has its number
pub found_key : (names : List (List ℕ)) (keys : List Key) (negative : Bool) (name : List ℕ) (number : ℕ) (row : List Value) → IsDistinct bytes_eq names → list_all (is_held names) keys ≡ true → Some number ≡ position (bytes_eq name) names
    → position (key_eq (record { negative = negative; name = number; row = row })) keys ≡ number_of (atoms_by names keys) (record { negative = negative; name = name; args = row })
found_key names keys negative name number row distinct held there =
    let at = some_place (bytes_eq name) names number there in
    let place = at.0 in
    let inside = at.1 in
    let name_is : get_or names number [] ≡ name = ap (λ (n : ℕ). get_or names n []) place ∙ (present names name (found names name (omega (arith, place, inside)))).1 in
    found_same names keys (record { negative = negative; name = number; row = row }) (record { negative = negative; name = name; args = row }) distinct held inside (λ i. record { negative = negative; name = name_is i; args = row })

-- its name isn't there, and so it isn't
pub lost_name : (names : List (List ℕ)) (keys : List Key) (atom : NamedAtom) → list_all (is_held names) keys ≡ true → None ≡ position (bytes_eq atom.name) names → None ≡ number_of (atoms_by names keys) atom
lost_name names keys atom held none =
    let past = no_place (bytes_eq atom.name) names none in
    let absent : list_any (bytes_eq atom.name) names ≡ false = false_from_ne_true (list_any (bytes_eq atom.name) names) (λ some. let less = (present names atom.name some).0 in omega (arith, past, less)) in
    sym (nowhere (named_eq atom) (atoms_by names keys) (missing_atom names keys atom held absent))
