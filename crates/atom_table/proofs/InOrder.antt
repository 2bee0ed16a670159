-- The order of atoms: it is total, level atoms are one, and sorted keys without doubles rise.
use Rattle.std.proofs.Common.{◌≡◌, ℕ, suc, ◌+◌, Bool, true, false, ◌&&◌, ◌==◌, List, [], ◌∷◌, length, get_or, refl, sym, ap, subst, ◌∙◌, true≢false, inl, inr, arith}
use Rattle.std.specs.Bool.{beq}
use Rattle.std.specs.Cmp.{IsTotalOrder, bool_cmp_total}
use Rattle.std.specs.Cmp.Lexicographic.{slice_cmp}
use Rattle.std.specs.List.{list_all, IsDistinct}
use Rattle.std.specs.List.Sorted.{IsSorted, IsPermutation}
use Rattle.std.specs.Ordering.{nat_cmp, bool_cmp, is_lt, ordering_then, ordering_reverse}
use Rattle.std.specs.Str.{bytes_eq}
use Rattle.std.specs.declared.cmp.Ordering.{Ordering}
use Rattle.std.specs.declared.cmp.Ordering.TheVariants.{Less, Equal, Greater}
use Rattle.std.proofs.lemmas.Bool.{and_from, and_parts, ltb-true, eq-eqb}
use Rattle.std.proofs.lemmas.Cmp.{nat_cmp_total, nat_list_cmp_total, on_total, then_total, lists_total}
use Rattle.std.proofs.lemmas.List.Sorted.{Contains-permutation}
use Rattle.std.proofs.lemmas.Map.Keys.{IsDistinct-head, IsDistinct-tail}
use Rattle.std.proofs.lemmas.Map.Lookups.{exact_bytes}
use Rattle.tel_base.proofs.Members.{In, In-from_Contains, Contains-from_In}
use Rattle.tel_term.specs.declared.terms.Term.{Term}
use Rattle.tel_term.specs.declared.terms.Value.{Value}
use Rattle.tel_term.specs.Symbols.{IsTable}
use Rattle.tel_term.proofs.Ordered.{values-total, values-level}
use Rattle.tel_rule.specs.Atoms.{values_eq, value_cmp, value_in_range}
use Rattle.tel_rule.specs.Rising.{name_cmp, rises}
use Rattle.fact_table.specs.Equal.{values_itself}
use Rattle.atom_table.specs.declared.keys.Key.{Key}
use Rattle.atom_table.specs.Named.{NamedAtom, named_cmp}
use Rattle.atom_table.specs.Keys.{key_eq, named_by, is_held, is_ranged, key_cmp}
use Rattle.atom_table.proofs.Places.{one_place}

-- ---- the order is total

pub named_total : (symbols : List Term) → IsTotalOrder (named_cmp symbols)
named_total symbols =
    then_total (on_total (λ (a : NamedAtom). a.name) nat_list_cmp_total)
    (then_total (on_total (λ (a : NamedAtom). a.negative) bool_cmp_total)
    (then_total (on_total (λ (a : NamedAtom). length a.args) nat_cmp_total) (on_total (λ (a : NamedAtom). a.args) (lists_total (values-total symbols)))))

pub key_total : (symbols : List Term) (names : List (List ℕ)) → IsTotalOrder (key_cmp symbols names)
key_total symbols names = on_total (named_by names) (named_total symbols)

-- ---- what is level is one

first_level : (a b : Ordering) → ordering_then a b ≡ Equal → a ≡ Equal
first_level Less b is = is
first_level Equal b is = refl
first_level Greater b is = is

rest_level : (a b : Ordering) → ordering_then a b ≡ Equal → b ≡ Equal
rest_level Less b is = absurd (cc)
rest_level Equal b is = is
rest_level Greater b is = absurd (cc)

same_sign : (a b : Bool) → bool_cmp a b ≡ Equal → beq a b ≡ true
same_sign true true is = refl
same_sign true false is = absurd (cc)
same_sign false true is = absurd (cc)
same_sign false false is = refl

same_values : (symbols : List Term) (a b : List Value) → IsTable symbols → list_all (value_in_range symbols) a ≡ true → list_all (value_in_range symbols) b ≡ true → slice_cmp (value_cmp symbols) a b ≡ Equal → a ≡ b
same_values symbols [] [] table all_a all_b level = refl
same_values symbols [] (y ∷ ys) table all_a all_b level = absurd (cc)
same_values symbols (x ∷ xs) [] table all_a all_b level = absurd (cc)
same_values symbols (x ∷ xs) (y ∷ ys) table all_a all_b level =
    let here_a = and_parts (value_in_range symbols x) (list_all (value_in_range symbols) xs) all_a in
    let here_b = and_parts (value_in_range symbols y) (list_all (value_in_range symbols) ys) all_b in
    let head = (values-level symbols x y table here_a.0 here_b.0).0 (first_level (value_cmp symbols x y) (slice_cmp (value_cmp symbols) xs ys) level) in
    let tail = same_values symbols xs ys table here_a.1 here_b.1 (rest_level (value_cmp symbols x y) (slice_cmp (value_cmp symbols) xs ys) level) in
    λ i. head i ∷ tail i

pub same_keys : (symbols : List Term) (names : List (List ℕ)) (a b : Key) → IsTable symbols → IsDistinct bytes_eq names → is_held names a ≡ true → is_held names b ≡ true → is_ranged symbols a ≡ true → is_ranged symbols b ≡ true → key_cmp symbols names a b ≡ Equal → key_eq a b ≡ true
same_keys symbols names a b table distinct held_a held_b ranged_a ranged_b level =
    let names_cmp = name_cmp (get_or names a.name []) (get_or names b.name []) in
    let signs = bool_cmp a.negative b.negative in
    let lengths = nat_cmp (length a.row) (length b.row) in
    let rows = slice_cmp (value_cmp symbols) a.row b.row in
    let after_name = rest_level names_cmp (ordering_then signs (ordering_then lengths rows)) level in
    let after_sign = rest_level signs (ordering_then lengths rows) after_name in
    let name = exact_bytes (get_or names a.name []) (get_or names b.name []) (first_level names_cmp (ordering_then signs (ordering_then lengths rows)) level) in
    let number = one_place names a.name b.name distinct (ltb-true a.name (length names) held_a) (ltb-true b.name (length names) held_b) name in
    let row = same_values symbols a.row b.row table ranged_a ranged_b (rest_level lengths rows after_sign) in
    and_from (beq a.negative b.negative) ((a.name == b.name) && values_eq a.row b.row) (same_sign a.negative b.negative (first_level signs (ordering_then lengths rows) after_name))
    (and_from (a.name == b.name) (values_eq a.row b.row) (eq-eqb a.name b.name number) (subst (λ (r : List Value). values_eq a.row r ≡ true) row (values_itself a.row)))

-- ---- what is sorted rises

pub less_from : (o : Ordering) → is_lt (ordering_reverse o) ≡ false → (o ≡ Equal → ⊥) → is_lt o ≡ true
less_from Less h apart = refl
less_from Equal h apart = absurd (apart refl)
less_from Greater h apart = absurd (true≢false h)

module _ {X : Type 0} (R : X → X → Ordering) (eq : X → X → Bool) (total : IsTotalOrder R) where
  tail_sorted : (x : X) (xs : List X) → IsSorted R (x ∷ xs) → IsSorted R xs
  tail_sorted x xs s = λ k d low high. subst (λ (i : ℕ). is_lt (R (get_or (x ∷ xs) i d) (get_or xs k d)) ≡ false) (next k) (s (suc k) d (omega arith) (omega (arith, high)))
    where
      next : (k : ℕ) → suc k + 1 ≡ suc (k + 1)
      next k = omega arith

  pub sorted_rises : (xs : List X) → ((x y : X) → In x xs → In y xs → R x y ≡ Equal → eq x y ≡ true) → IsSorted R xs → IsDistinct eq xs → rises (λ x y. is_lt (R x y)) xs ≡ true
  sorted_rises [] level s distinct = refl
  sorted_rises (x ∷ []) level s distinct = refl
  sorted_rises (x ∷ y ∷ xs) level s distinct =
      let below : is_lt (R y x) ≡ false = s 0 x (omega arith) (omega arith) in
      let apart : eq x y ≡ false = (IsDistinct-head eq x (y ∷ xs) distinct).0 in
      and_from (is_lt (R x y)) (rises (λ a b. is_lt (R a b)) (y ∷ xs))
      (less_from (R x y) (ap is_lt (sym (total.antisymm y x)) ∙ below) (λ e. true≢false (sym (level x y (inl refl) (inr (inl refl)) e) ∙ apart)))
      (sorted_rises (y ∷ xs) (λ a b in_a in_b. level a b (inr in_a) (inr in_b)) (tail_sorted x (y ∷ xs) s) (IsDistinct-tail eq x (y ∷ xs) distinct))

-- ---- what is moved

pub moved_in : {X : Type 0} (xs ys : List X) (x : X) → IsPermutation xs ys → In x xs → In x ys
moved_in xs ys x moved there = In-from_Contains ys x (Contains-permutation xs ys x moved (Contains-from_In xs x there))
