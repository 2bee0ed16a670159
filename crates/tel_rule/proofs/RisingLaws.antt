-- Rising lists of names: one name more keeps the order, and membership tells such a list.
use Rattle.std.proofs.Common.{◌≡◌, ℕ, ◌<◌, ◌≤◌, Bool, true, false, ◌&&◌, ◌||◌, List, [], ◌∷◌, ◌++◌, length, IsTrue, refl, sym, ap, ap₂, ◌∙◌, subst, true≢false, inl, inr, arith}
use Rattle.std.proofs.lemmas.Bool.{and_from, and_parts, cases_Bool, false_from_ne_true}
use Rattle.std.proofs.lemmas.Cmp.{nat_list_cmp_total, tied_itself}
use Rattle.std.proofs.lemmas.Map.Lookups.{exact_bytes}
use Rattle.std.proofs.lemmas.Slice.Eq.{bytes_eq-Decides}
use Rattle.std.specs.Str.{bytes_eq}
use Rattle.std.specs.Ordering.{is_lt, match_ordering, ordering_reverse}
use Rattle.std.specs.declared.cmp.Ordering.{Ordering}
use Rattle.std.specs.declared.cmp.Ordering.TheVariants.{Less, Equal, Greater}
use Rattle.tel_rule.specs.Rising.{name_cmp, name_lt, names_rise, with_name, with_names, rising_set, has_name}

-- ---- the order of names

below_from_greater : (n z : List ℕ) → name_cmp n z ≡ Greater → IsTrue (name_lt z n)
below_from_greater n z e = ap is_lt (nat_list_cmp_total.antisymm z n ∙ ap ordering_reverse e)

pub less_from_below : (r : Ordering) → is_lt r ≡ true → r ≡ Less
less_from_below Less e = refl
less_from_below Equal e = absurd (true≢false (sym e))
less_from_below Greater e = absurd (true≢false (sym e))

below_trans : (x y z : List ℕ) → IsTrue (name_lt x y) → IsTrue (name_lt y z) → IsTrue (name_lt x z)
below_trans x y z xy yz =
    ap is_lt (nat_list_cmp_total.trans x y z (less_from_below (name_cmp x y) xy) (less_from_below (name_cmp y z) yz))

not_below_itself : (x : List ℕ) → IsTrue (name_lt x x) → ⊥
not_below_itself x below = true≢false (sym below ∙ ap is_lt (tied_itself nat_list_cmp_total x))

same_itself : (x : List ℕ) → bytes_eq x x ≡ true
same_itself x = (bytes_eq-Decides x x).1 refl

apart_below : (q x : List ℕ) → IsTrue (name_lt q x) → bytes_eq q x ≡ false
apart_below q x below =
    false_from_ne_true (bytes_eq q x)
    (λ same. not_below_itself x (subst (λ (p : List ℕ). IsTrue (name_lt p x)) ((bytes_eq-Decides q x).0 same) below))

-- ---- one name more keeps the order

rises_under :
    (y n : List ℕ) (ys : List (List ℕ)) → IsTrue (names_rise (y ∷ ys)) → IsTrue (name_lt y n) → IsTrue (names_rise (y ∷ with_name n ys))
rises_under y n [] rise below = and_from (name_lt y n) true below refl
rises_under y n (z ∷ zs) rise below =
    let parts = and_parts (name_lt y z) (names_rise (z ∷ zs)) rise in
    elim (name_cmp n z)
    as (λ r. name_cmp n z ≡ r → IsTrue (names_rise (y ∷ match_ordering r (n ∷ z ∷ zs) (z ∷ zs) (z ∷ with_name n zs)))) [
      | Less ↦ λ e. and_from (name_lt y n) (name_lt n z && names_rise (z ∷ zs)) below (and_from (name_lt n z) (names_rise (z ∷ zs)) (ap is_lt e) parts.1)
      | Equal ↦ λ e. rise
      | Greater ↦ λ e. and_from (name_lt y z) (names_rise (z ∷ with_name n zs)) parts.0 (rises_under z n zs parts.1 (below_from_greater n z e))
    ]
    refl

pub rises-with_name : (n : List ℕ) (xs : List (List ℕ)) → IsTrue (names_rise xs) → IsTrue (names_rise (with_name n xs))
rises-with_name n [] rise = refl
rises-with_name n (x ∷ xs) rise =
    elim (name_cmp n x) as (λ r. name_cmp n x ≡ r → IsTrue (names_rise (match_ordering r (n ∷ x ∷ xs) (x ∷ xs) (x ∷ with_name n xs)))) [
      | Less ↦ λ e. and_from (name_lt n x) (names_rise (x ∷ xs)) (ap is_lt e) rise
      | Equal ↦ λ e. rise
      | Greater ↦ λ e. rises_under x n xs rise (below_from_greater n x e)
    ]
    refl

pub rises-with_names : (ns xs : List (List ℕ)) → IsTrue (names_rise xs) → IsTrue (names_rise (with_names ns xs))
rises-with_names [] xs rise = rise
rises-with_names (n ∷ ns) xs rise = rises-with_names ns (with_name n xs) (rises-with_name n xs rise)

-- ---- the members

or_again : (a b : Bool) → (a || b) ≡ (a || (a || b))
or_again true b = refl
or_again false b = refl

or_swap : (a b c : Bool) → (a || (b || c)) ≡ (b || (a || c))
or_swap true true c = refl
or_swap true false c = refl
or_swap false b c = refl

or_turn : (a b c : Bool) → (a || (b || c)) ≡ ((b || a) || c)
or_turn true true c = refl
or_turn true false c = refl
or_turn false true c = refl
or_turn false false c = refl

or_none : (a : Bool) → (a || false) ≡ a
or_none true = refl
or_none false = refl

pub has_name-with_name : (n : List ℕ) (xs : List (List ℕ)) (q : List ℕ) → has_name (with_name n xs) q ≡ (bytes_eq q n || has_name xs q)
has_name-with_name n [] q = refl
has_name-with_name n (x ∷ xs) q =
    elim (name_cmp n x)
    as (λ r. name_cmp n x ≡ r → has_name (match_ordering r (n ∷ x ∷ xs) (x ∷ xs) (x ∷ with_name n xs)) q ≡ (bytes_eq q n || has_name (x ∷ xs) q)) [
      | Less ↦ λ e. refl
      | Equal ↦ λ e.
          subst (λ (m : List ℕ). has_name (x ∷ xs) q ≡ (bytes_eq q m || has_name (x ∷ xs) q)) (sym (exact_bytes n x e))
          (or_again (bytes_eq q x) (has_name xs q))
      | Greater ↦ λ e.
          ap (λ (b : Bool). bytes_eq q x || b) (has_name-with_name n xs q) ∙ or_swap (bytes_eq q x) (bytes_eq q n) (has_name xs q)
    ]
    refl

pub has_name-with_names : (ns xs : List (List ℕ)) (q : List ℕ) → has_name (with_names ns xs) q ≡ (has_name ns q || has_name xs q)
has_name-with_names [] xs q = refl
has_name-with_names (n ∷ ns) xs q =
    has_name-with_names ns (with_name n xs) q
    ∙ ap (λ (b : Bool). has_name ns q || b) (has_name-with_name n xs q)
    ∙ or_turn (has_name ns q) (bytes_eq q n) (has_name xs q)

pub has_name-rising_set : (names : List (List ℕ)) (q : List ℕ) → has_name (rising_set names) q ≡ has_name names q
has_name-rising_set names q = has_name-with_names names [] q ∙ or_none (has_name names q)

-- ---- the members tell a rising list

has_head : (x : List ℕ) (xs : List (List ℕ)) → has_name (x ∷ xs) x ≡ true
has_head x xs = ap (λ (b : Bool). b || has_name xs x) (same_itself x)

absent_before : (q x : List ℕ) (xs : List (List ℕ)) → IsTrue (names_rise (x ∷ xs)) → IsTrue (name_lt q x) → has_name (x ∷ xs) q ≡ false
absent_before q x [] rise below = ap (λ (b : Bool). b || false) (apart_below q x below)
absent_before q x (y ∷ ys) rise below =
    let parts = and_parts (name_lt x y) (names_rise (y ∷ ys)) rise in
    ap (λ (b : Bool). b || has_name (y ∷ ys) q) (apart_below q x below) ∙ absent_before q y ys parts.1 (below_trans q x y below parts.0)

absent_after : (x : List ℕ) (xs : List (List ℕ)) → IsTrue (names_rise (x ∷ xs)) → has_name xs x ≡ false
absent_after x [] rise = refl
absent_after x (y ∷ ys) rise =
    let parts = and_parts (name_lt x y) (names_rise (y ∷ ys)) rise in
    absent_before x y ys parts.1 parts.0

rises-tail : (x : List ℕ) (xs : List (List ℕ)) → IsTrue (names_rise (x ∷ xs)) → IsTrue (names_rise xs)
rises-tail x [] rise = refl
rises-tail x (y ∷ ys) rise = (and_parts (name_lt x y) (names_rise (y ∷ ys)) rise).1

same_tails :
    (x y : List ℕ) (xs ys : List (List ℕ)) → x ≡ y → has_name xs x ≡ false → has_name ys y ≡ false → ((q : List ℕ) → has_name (x ∷ xs) q ≡ has_name (y ∷ ys) q) → (q : List ℕ) → has_name xs q ≡ has_name ys q
same_tails x y xs ys heads no_x no_y same q =
    elim (cases_Bool (bytes_eq q x)) [
      | inl e ↦
          let at_x : q ≡ x = (bytes_eq-Decides q x).0 e in
          ap (has_name xs) at_x ∙ no_x ∙ sym (ap (has_name ys) (at_x ∙ heads) ∙ no_y)
      | inr e ↦
          sym (ap (λ (b : Bool). b || has_name xs q) e)
          ∙ same q
          ∙ ap (λ (b : Bool). b || has_name ys q) (sym (ap (bytes_eq q) heads) ∙ e)
    ]

pub rising_lists_same :
    (a b : List (List ℕ)) → IsTrue (names_rise a) → IsTrue (names_rise b) → ((q : List ℕ) → has_name a q ≡ has_name b q) → a ≡ b
rising_lists_same [] [] rise_a rise_b same = refl
rising_lists_same [] (y ∷ ys) rise_a rise_b same = absurd (true≢false (sym (has_head y ys) ∙ sym (same y)))
rising_lists_same (x ∷ xs) [] rise_a rise_b same = absurd (true≢false (sym (has_head x xs) ∙ same x))
rising_lists_same (x ∷ xs) (y ∷ ys) rise_a rise_b same =
    elim (name_cmp x y) as (λ r. name_cmp x y ≡ r → ◌≡◌ {A = List (List ℕ)} (x ∷ xs) (y ∷ ys)) [
      | Less ↦ λ e. absurd (true≢false (sym (has_head x xs) ∙ same x ∙ absent_before x y ys rise_b (ap is_lt e)))
      | Equal ↦ λ e.
          let heads = exact_bytes x y e in
          ap₂ (λ (h : List ℕ) (t : List (List ℕ)). h ∷ t) heads
          (rising_lists_same xs ys (rises-tail x xs rise_a) (rises-tail y ys rise_b)
          (same_tails x y xs ys heads (absent_after x xs rise_a) (absent_after y ys rise_b) same))
      | Greater ↦ λ e.
          absurd (true≢false (sym (has_head y ys) ∙ sym (same y) ∙ absent_before y x xs rise_a (below_from_greater x y e)))
    ]
    refl

-- ---- the lengths

pub length-with_name : (n : List ℕ) (xs : List (List ℕ)) → length xs ≤ length (with_name n xs)
length-with_name n [] = omega arith
length-with_name n (x ∷ xs) =
    let more = length-with_name n xs in
    elim (name_cmp n x) as (λ r. length (x ∷ xs) ≤ length (match_ordering r (n ∷ x ∷ xs) (x ∷ xs) (x ∷ with_name n xs))) [
      | Less ↦ omega arith
      | Equal ↦ omega arith
      | Greater ↦ omega (arith, more)
    ]

pub some-with_name : (n : List ℕ) (xs : List (List ℕ)) → 0 < length (with_name n xs)
some-with_name n [] = omega arith
some-with_name n (x ∷ xs) =
    elim (name_cmp n x) as (λ r. 0 < length (match_ordering r (n ∷ x ∷ xs) (x ∷ xs) (x ∷ with_name n xs))) [
      | Less ↦ omega arith
      | Equal ↦ omega arith
      | Greater ↦ omega arith
    ]

pub length-with_names : (ns xs : List (List ℕ)) → length xs ≤ length (with_names ns xs)
length-with_names [] xs = omega arith
length-with_names (n ∷ ns) xs = omega (arith, length-with_name n xs, length-with_names ns (with_name n xs))

pub some-with_names : (ns xs : List (List ℕ)) → 0 < length ns → 0 < length (with_names ns xs)
some-with_names [] xs some = absurd (omega arith)
some-with_names (n ∷ ns) xs some = omega (arith, some-with_name n xs, length-with_names ns (with_name n xs))

-- a name isn't among those before it

below_later : (x q : List ℕ) (front rest : List (List ℕ)) → IsTrue (names_rise (x ∷ (front ++ q ∷ rest))) → IsTrue (name_lt x q)
below_later x q [] rest rise = (and_parts (name_lt x q) (names_rise (q ∷ rest)) rise).0
below_later x q (y ∷ front) rest rise =
    let parts = and_parts (name_lt x y) (names_rise (y ∷ (front ++ q ∷ rest))) rise in
    below_trans x y q parts.0 (below_later y q front rest parts.1)

pub new_after : (q : List ℕ) (front rest : List (List ℕ)) → IsTrue (names_rise (front ++ q ∷ rest)) → has_name front q ≡ false
new_after q [] rest rise = refl
new_after q (x ∷ front) rest rise =
    let below = below_later x q front rest rise in
    let other : bytes_eq q x ≡ false = false_from_ne_true (bytes_eq q x) (λ same. not_below_itself x (subst (λ (p : List ℕ). IsTrue (name_lt x p)) ((bytes_eq-Decides q x).0 same) below)) in
    ap (λ (b : Bool). b || has_name front q) other ∙ new_after q front rest (rises-tail x (front ++ q ∷ rest) rise)
