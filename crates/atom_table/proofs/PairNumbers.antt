-- The pairs of plain atoms and their negatives, by keys, by names and by symbols.
use Rattle.std.proofs.Common.{◌≡◌, ℕ, suc, ◌+◌, ◌<◌, Bool, true, false, not, cond, ◌&&◌, ◌==◌, List, [], ◌∷◌, ◌++◌, map, filter, length, get_or, refl, sym, ap, subst, ◌∙◌, true≢false, inl, inr, if◌then◌else◌, arith, zero-add, Option, Some, None, nat_lt, position}
use Rattle.std.specs.Bool.{beq}
use Rattle.std.specs.Cmp.{IsTotalOrder, booleans_Decides}
use Rattle.std.specs.List.{list_all, list_any, flat_map, enumerate_from, range_with_len, IsDistinct}
use Rattle.std.specs.Option.{option_to_list, option_map}
use Rattle.std.specs.Str.{bytes_eq}
use Rattle.std.specs.declared.cmp.Ordering.TheVariants.{Less, Equal}
use Rattle.std.proofs.lemmas.Bool.{and_from, and_parts, cases_Bool, false_from_ne_true, eq-eqb, eqb-true, ltb-true, or_parts, or_from}
use Rattle.std.proofs.lemmas.Cmp.{on_total, tied_itself}
use Rattle.std.proofs.lemmas.Option.{slice_get-get_or}
use Rattle.std.proofs.lemmas.Slice.Eq.{bytes_eq-Decides}
use Rattle.tel_base.proofs.Members.{In, In-list_all, In-get_or, any_found}
use Rattle.tel_term.specs.declared.terms.Term.{Term}
use Rattle.tel_term.specs.declared.terms.Term.TheVariants as terms
use Rattle.tel_term.specs.Symbols.{IsTable, place_of}
use Rattle.tel_term.proofs.Tables.{place_of-at}
use Rattle.tel_rule.specs.declared.ground.GroundAtom.{GroundAtom}
use Rattle.tel_rule.specs.Atoms.{name_bytes, name_of, is_name, symbol_of, value_in_range, values_eq, atom_cmp, atom_lt, atom_in_range, is_pair, atom_at, pairs_with, pairs_of}
use Rattle.tel_rule.specs.Rising.{rises}
use Rattle.tel_rule.proofs.RisingLaws.{less_from_below}
use Rattle.fact_table.specs.Equal.{values_one, values_itself}
use Rattle.atom_table.specs.declared.keys.Key.{Key}
use Rattle.atom_table.specs.Named.{NamedAtom, named_eq, named_cmp, number_of, named_as, negative_number, named_pair, named_pairs}
use Rattle.atom_table.specs.Keys.{named_by, atoms_by, is_held, negative_key, key_pair, key_pairs, key_eq, is_negative}
use Rattle.atom_table.specs.Sorted.{AreSorted}
use Rattle.atom_table.proofs.Agreeing.{position_same}
use Rattle.atom_table.proofs.HeldKeys.{found_same}
use Rattle.atom_table.proofs.InOrder.{named_total}
use Rattle.atom_table.proofs.Lone.{OnlyOne, filter_one, place_of_one, stands_at}
use Rattle.atom_table.proofs.Places.{bytes_itself, default_same, nowhere}

-- ---- from keys to names

abbrev pair_up : ℕ → ℕ → ℕ × ℕ
pair_up number other = (number, other)

module _ (names : List (List ℕ)) (keys : List Key) (distinct : IsDistinct bytes_eq names) (held : list_all (is_held names) keys ≡ true) where
  same_negative : (key : Key) → is_held names key ≡ true → negative_key keys key ≡ negative_number (atoms_by names keys) (named_by names key)
  same_negative key held_key =
      ap (λ (number : Option ℕ). if key.negative then None else number)
      (found_same names keys (record { negative = true; name = key.name; row = key.row }) (record { negative = true; name = get_or names key.name []; args = key.row }) distinct held (ltb-true key.name (length names) held_key) refl)

  pairs_on : (n : ℕ) (rest : List Key) → list_all (is_held names) rest ≡ true → flat_map (key_pair keys) (enumerate_from n rest) ≡ flat_map (named_pair (atoms_by names keys)) (enumerate_from n (atoms_by names rest))
  pairs_on n [] all = refl
  pairs_on n (key ∷ rest) all =
      let both = and_parts (is_held names key) (list_all (is_held names) rest) all in
      let here = same_negative key both.0 in
      let later = pairs_on (n + 1) rest both.1 in
      λ i. option_to_list (option_map (pair_up n) (here i)) ++ later i

  pub same_pairs : key_pairs keys ≡ named_pairs (atoms_by names keys)
  same_pairs = pairs_on 0 keys held

-- ---- where no atom is negative

other_signs : (negative : Key) (xs : List Key) → negative.negative ≡ true → list_any is_negative xs ≡ false → list_any (key_eq negative) xs ≡ false
other_signs negative [] is none = refl
other_signs negative (x ∷ xs) is none =
    let parts = or_parts (is_negative x) (list_any is_negative xs) none in
    or_from (key_eq negative x) (list_any (key_eq negative) xs) ((λ i. beq (is i) (parts.0 i) && ((negative.name == x.name) && values_eq negative.row x.row))) (other_signs negative xs is parts.1)

pub no_pairs : (keys : List Key) → list_any is_negative keys ≡ false → [] ≡ key_pairs keys
no_pairs keys none = sym (further 0 keys)
  where
    no_number : (key : Key) → negative_key keys key ≡ None
    no_number key = by key.negative
      where
        by : (b : Bool) → (if b then None else position (key_eq (record { negative = true; name = key.name; row = key.row })) keys) ≡ None
        by true = refl
        by false = nowhere (key_eq (record { negative = true; name = key.name; row = key.row })) keys (other_signs (record { negative = true; name = key.name; row = key.row }) keys refl none)

    further : (n : ℕ) (rest : List Key) → flat_map (key_pair keys) (enumerate_from n rest) ≡ []
    further n [] = refl
    further n (key ∷ rest) =
        let here = no_number key in
        let later = further (n + 1) rest in
        λ i. option_to_list (option_map (pair_up n) (here i)) ++ later i

-- ---- from names to symbols

pub named_one : (a b : NamedAtom) → named_eq a b ≡ true → a ≡ b
named_one a b same =
    let first = and_parts (beq a.negative b.negative) (bytes_eq a.name b.name && values_eq a.args b.args) same in
    let second = and_parts (bytes_eq a.name b.name) (values_eq a.args b.args) first.1 in
    let negative = (booleans_Decides a.negative b.negative).0 first.0 in
    let name = (bytes_eq-Decides a.name b.name).0 second.0 in
    let args = values_one a.args b.args second.1 in
    λ i. record { negative = negative i; name = name i; args = args i }

pub named_itself : (a : NamedAtom) → named_eq a a ≡ true
named_itself a = and_from (beq a.negative a.negative) (bytes_eq a.name a.name && values_eq a.args a.args) ((booleans_Decides a.negative a.negative).1 refl) (and_from (bytes_eq a.name a.name) (values_eq a.args a.args) (bytes_itself a.name) (values_itself a.args))

a_name : (term : Term) → is_name term ≡ true → term ≡ terms.Name (name_bytes term)
a_name (terms.Num n) is = absurd (true≢false (sym is))
a_name (terms.Name bytes) is = refl
a_name (terms.Str bytes) is = absurd (true≢false (sym is))

-- names have one number each
same_numbers : (symbols : List Term) (m n : ℕ) → IsTable symbols → nat_lt m (length symbols) ≡ true → nat_lt n (length symbols) ≡ true → is_name (symbol_of symbols m) ≡ true → is_name (symbol_of symbols n) ≡ true → (m == n) ≡ bytes_eq (name_bytes (symbol_of symbols m)) (name_bytes (symbol_of symbols n))
same_numbers symbols m n table in_m in_n name_m name_n = elim (cases_Bool (m == n)) [
  | inl is ↦
      let at = eqb-true m n is in
      is ∙ sym ((bytes_eq-Decides (name_bytes (symbol_of symbols m)) (name_bytes (symbol_of symbols n))).1 (ap (λ (k : ℕ). name_bytes (symbol_of symbols k)) at))
  | inr isnt ↦
      isnt
      ∙ sym (false_from_ne_true (bytes_eq (name_bytes (symbol_of symbols m)) (name_bytes (symbol_of symbols n)))
      (λ same.
      let term : symbol_of symbols m ≡ symbol_of symbols n = a_name (symbol_of symbols m) name_m ∙ ap terms.Name ((bytes_eq-Decides (name_bytes (symbol_of symbols m)) (name_bytes (symbol_of symbols n))).0 same) ∙ sym (a_name (symbol_of symbols n) name_n) in
      let place_m = place_of-at symbols (symbol_of symbols m) m table.distinct (slice_get-get_or symbols m (terms.Name []) (ltb-true m (length symbols) in_m)) in
      let place_n = place_of-at symbols (symbol_of symbols n) n table.distinct (slice_get-get_or symbols n (terms.Name []) (ltb-true n (length symbols) in_n)) in
      true≢false (sym (eq-eqb m n (sym place_m ∙ ap (place_of symbols) term ∙ place_n)) ∙ isnt)))
]

plain_or : (b : Bool) → beq true b ≡ b
plain_or true = refl
plain_or false = refl

none_from : {X : Type 0} (p : X → Bool) (xs : List X) → ((x : X) → p x ≡ false) → filter p xs ≡ []
none_from p [] none = refl
none_from p (x ∷ xs) none = ap (λ (b : Bool). cond b (x ∷ filter p xs) (filter p xs)) (none x) ∙ none_from p xs none

-- the negative of an atom
abbrev negated : List Term → GroundAtom → NamedAtom
negated symbols a = record { negative = true; name = name_of symbols a; args = a.args }

at_in : (all : List GroundAtom) (k : ℕ) → k < length all → In (atom_at all k) all
at_in all k inside = In-get_or all k (atom_at all k) inside (default_same all k inside (atom_at all k) (record { negative = false; name = 0; args = [] }))

paired : (number : ℕ) (place : Option ℕ) → map (pair_up number) (option_to_list (option_map (λ (n : ℕ). 0 + n) place)) ≡ option_to_list (option_map (pair_up number) place)
paired number None = refl
paired number (Some n) = ap (λ (m : ℕ). pair_up number m ∷ []) (zero-add n)

all_pass : (xs : List GroundAtom) → list_all (λ (x : GroundAtom). true) xs ≡ true
all_pass [] = refl
all_pass (x ∷ xs) = all_pass xs

module _ (symbols : List Term) (table : IsTable symbols) where
  pair_same : (a x : GroundAtom) → atom_in_range symbols a ≡ true → atom_in_range symbols x ≡ true → a.negative ≡ false → is_pair a x ≡ named_eq (negated symbols a) (named_as symbols x)
  pair_same a x in_a in_x plain =
      let first_a = and_parts (nat_lt a.name (length symbols)) (is_name (symbol_of symbols a.name) && list_all (value_in_range symbols) a.args) in_a in
      let first_x = and_parts (nat_lt x.name (length symbols)) (is_name (symbol_of symbols x.name) && list_all (value_in_range symbols) x.args) in_x in
      let name_a = (and_parts (is_name (symbol_of symbols a.name)) (list_all (value_in_range symbols) a.args) first_a.1).0 in
      let name_x = (and_parts (is_name (symbol_of symbols x.name)) (list_all (value_in_range symbols) x.args) first_x.1).0 in
      let names = same_numbers symbols a.name x.name table first_a.0 first_x.0 name_a name_x in
      let sign = plain_or x.negative in
      ap (λ (b : Bool). not b && (x.negative && ((a.name == x.name) && values_eq a.args x.args))) plain
      ∙ (λ i. sym sign i && (names i && values_eq a.args x.args))

  order_total : IsTotalOrder (atom_cmp symbols)
  order_total = on_total (named_as symbols) (named_total symbols)

  -- what rises is below all that comes later
  below_later : (x : GroundAtom) (xs : List GroundAtom) → rises (atom_lt symbols) (x ∷ xs) ≡ true → (y : GroundAtom) → In y xs → atom_cmp symbols x y ≡ Less
  below_later x [] up y there = absurd there
  below_later x (z ∷ zs) up y there =
      let both = and_parts (atom_lt symbols x z) (rises (atom_lt symbols) (z ∷ zs)) up in
      let less = less_from_below (atom_cmp symbols x z) both.0 in
      elim there [
        | inl same ↦ subst (λ (w : GroundAtom). atom_cmp symbols x w ≡ Less) same less
        | inr later ↦ order_total.trans x z y less (below_later z zs both.1 y later)
      ]

  tail_rises : (x : GroundAtom) (xs : List GroundAtom) → rises (atom_lt symbols) (x ∷ xs) ≡ true → rises (atom_lt symbols) xs ≡ true
  tail_rises x [] up = refl
  tail_rises x (z ∷ zs) up = (and_parts (atom_lt symbols x z) (rises (atom_lt symbols) (z ∷ zs)) up).1

  only_one : (atom : NamedAtom) (xs : List GroundAtom) → rises (atom_lt symbols) xs ≡ true → OnlyOne (λ (x : GroundAtom). named_eq atom (named_as symbols x)) xs
  only_one atom [] up = tt
  only_one atom (x ∷ xs) up = (
    λ here. false_from_ne_true (list_any (λ (x : GroundAtom). named_eq atom (named_as symbols x)) xs)
        (λ some.
        let later = any_found (λ (x : GroundAtom). named_eq atom (named_as symbols x)) xs some in
        let same : named_as symbols x ≡ named_as symbols later.0 = sym (named_one atom (named_as symbols x) here) ∙ named_one atom (named_as symbols later.0) later.2 in
        let less = below_later x xs up later.0 later.1 in
        let tied : atom_cmp symbols x later.0 ≡ Equal = ap (λ (a : NamedAtom). named_cmp symbols (named_as symbols x) a) (sym same) ∙ tied_itself (named_total symbols) (named_as symbols x) in
        cut (sym less ∙ tied)),
    only_one atom xs (tail_rises x xs up),
  )
    where
      cut : Less ≡ Equal → ⊥
      cut e = absurd (cc)

  module _ (all : List GroundAtom) (in_range : list_all (atom_in_range symbols) all ≡ true) (rise : rises (atom_lt symbols) all ≡ true) where
    numbers_same : (number : ℕ) (a : GroundAtom) → atom_in_range symbols a ≡ true → atom_at all number ≡ a → pairs_with all number ≡ named_pair (map (named_as symbols) all) (number, named_as symbols a)
    numbers_same number a in_a is = elim (cases_Bool a.negative) [
      | inl negative ↦
          let none : (other : ℕ) → is_pair (atom_at all number) (atom_at all other) ≡ false =
          λ other. ap (λ (x : GroundAtom). is_pair x (atom_at all other)) is ∙ ap (λ (b : Bool). not b && ((atom_at all other).negative && ((a.name == (atom_at all other).name) && values_eq a.args (atom_at all other).args))) negative
          in
          ap (map (pair_up number)) (none_from (λ (other : ℕ). is_pair (atom_at all number) (atom_at all other)) (range_with_len 0 (length all)) none)
          ∙ sym (ap (λ (b : Bool). option_to_list (option_map (pair_up number) (if b then None else number_of (map (named_as symbols) all) (negated symbols a)))) negative)
      | inr plain ↦
          let test : GroundAtom → Bool = λ x. named_eq (negated symbols a) (named_as symbols x) in
          let agree : (k : ℕ) → k < length all → is_pair (atom_at all number) (atom_at all (0 + k)) ≡ test (atom_at all k) =
          λ k inside.
          (λ i. is_pair (is i) (atom_at all (zero-add k i))) ∙ pair_same a (atom_at all k) in_a (In-list_all (atom_in_range symbols) (atom_at all k) all in_range (at_in all k inside)) plain
          in
          ap (map (pair_up number))
          (filter_one test (λ (other : ℕ). is_pair (atom_at all number) (atom_at all other)) (record { negative = false; name = 0; args = [] }) 0 all agree (only_one (negated symbols a) all rise))
          ∙ paired number (position test all)
          ∙ ap (λ (place : Option ℕ). option_to_list (option_map (pair_up number) place)) (position_same (named_as symbols) test (λ (x : GroundAtom). true) (named_eq (negated symbols a)) (λ x any. refl) all (all_pass all))
          ∙ sym (ap (λ (b : Bool). option_to_list (option_map (pair_up number) (if b then None else number_of (map (named_as symbols) all) (negated symbols a)))) plain)
    ]

    pairs_further : (n : ℕ) (rest : List GroundAtom) → list_all (atom_in_range symbols) rest ≡ true → ((k : ℕ) → k < length rest → atom_at all (n + k) ≡ atom_at rest k)
        → flat_map (pairs_with all) (range_with_len n (length rest)) ≡ flat_map (named_pair (map (named_as symbols) all)) (enumerate_from n (map (named_as symbols) rest))
    pairs_further n [] ranged at = refl
    pairs_further n (a ∷ rest) ranged at =
        let both = and_parts (atom_in_range symbols a) (list_all (atom_in_range symbols) rest) ranged in
        let start : n ≡ n + 0 = omega arith in
        let here = numbers_same n a both.0 (ap (atom_at all) start ∙ at 0 (omega arith)) in
        let later = pairs_further (n + 1) rest both.1 (λ k inside. ap (atom_at all) (further n k) ∙ at (suc k) (omega (arith, inside))) in
        λ i. here i ++ later i
      where
        further : (s k : ℕ) → (s + 1) + k ≡ s + suc k
        further s k = omega arith

    all_pairs : pairs_of all ≡ named_pairs (map (named_as symbols) all)
    all_pairs = pairs_further 0 all in_range (λ k inside. ap (atom_at all) (zero-add k))

-- the pairs of sorted atoms are those of their names
pub pairs_same : (symbols : List Term) (atoms : List GroundAtom) (numbered : List NamedAtom) → AreSorted symbols atoms numbered → named_pairs numbered ≡ pairs_of atoms
pairs_same symbols atoms numbered sorted = sym (all_pairs symbols sorted.table atoms sorted.in_range sorted.rise ∙ ap named_pairs sorted.stand)

-- ---- numbers, and what has them

abbrev stands_for : List Term → NamedAtom → GroundAtom → Bool
stands_for symbols atom x = named_eq atom (named_as symbols x)

number_by : (symbols : List Term) (atoms : List GroundAtom) (numbered : List NamedAtom) (atom : NamedAtom) → AreSorted symbols atoms numbered → position (stands_for symbols atom) atoms ≡ number_of numbered atom
number_by symbols atoms numbered atom sorted =
    position_same (named_as symbols) (stands_for symbols atom) (λ (x : GroundAtom). true) (named_eq atom) (λ x any. refl) atoms (all_pass atoms) ∙ ap (λ (known : List NamedAtom). number_of known atom) sorted.stand

pub number_stands : (symbols : List Term) (atoms : List GroundAtom) (numbered : List NamedAtom) (atom : NamedAtom) (number : ℕ) → AreSorted symbols atoms numbered → number_of numbered atom ≡ Some number
    → (number < length atoms) × (named_as symbols (atom_at atoms number) ≡ atom)
number_stands symbols atoms numbered atom number sorted is =
    let at = stands_at (stands_for symbols atom) atoms number (record { negative = false; name = 0; args = [] }) (number_by symbols atoms numbered atom sorted ∙ is) in
    (at.0, sym (named_one atom (named_as symbols (atom_at atoms number)) at.1))

pub stands_numbered : (symbols : List Term) (atoms : List GroundAtom) (numbered : List NamedAtom) (atom : NamedAtom) (number : ℕ) → AreSorted symbols atoms numbered → number < length atoms → named_as symbols (atom_at atoms number) ≡ atom
    → number_of numbered atom ≡ Some number
stands_numbered symbols atoms numbered atom number sorted inside is =
    sym (number_by symbols atoms numbered atom sorted)
    ∙ place_of_one (stands_for symbols atom) atoms number (record { negative = false; name = 0; args = [] }) (only_one symbols sorted.table atom atoms sorted.rise) inside
    (ap (named_eq atom) is ∙ named_itself atom)
