-- Ranks of symbols are read off their numbers in order, and atoms stand by them as by their bytes.
use Rattle.std.proofs.Common.{◌≡◌, ℕ, zero, suc, ◌+◌, ◌<◌, Bool, true, false, List, [], ◌∷◌, length, get_or, slice_index_or, ℤ, pos, Contains, refl, sym, ap, subst, ◌∙◌, inl, inr, arith}
use Rattle.std.specs.Cmp.{IsTotalOrder, IsStrictWeakOrder, bool_cmp_total}
use Rattle.std.specs.Cmp.Lexicographic.{slice_cmp}
use Rattle.std.specs.List.{list_all}
use Rattle.std.specs.List.Sorted.{IsSorted, IsSortedBy, IsPermutation}
use Rattle.std.specs.Ordering.{nat_cmp, int_cmp, bool_cmp, is_lt, ordering_then, ordering_reverse}
use Rattle.std.specs.declared.cmp.Ordering.{Ordering}
use Rattle.std.specs.declared.cmp.Ordering.TheVariants.{Less, Equal, Greater}
use Rattle.std.proofs.lemmas.Bool.{and_parts, cases_order, ltb-true}
use Rattle.std.proofs.lemmas.Cmp.{on_total, then_total, nat_cmp_total, int_cmp_total, lists_total, tied_itself}
use Rattle.std.proofs.lemmas.List.Sorted.{Contains-permutation, IsPermutation-sym, ranks_by}
use Rattle.std.proofs.lemmas.Option.{slice_get-get_or, slice_get_within}
use Rattle.tel_base.proofs.Members.{In, In-get_or, In-list_all, Contains-from_In}
use Rattle.tel_term.specs.declared.terms.Term.{Term}
use Rattle.tel_term.specs.declared.terms.Term.TheVariants as terms
use Rattle.tel_term.specs.declared.terms.Value.{Value}
use Rattle.tel_term.specs.declared.terms.Value.TheVariants as values
use Rattle.tel_term.specs.Symbols.{IsTable, is_symbol, place_of}
use Rattle.tel_term.specs.Order.{term_cmp, symbol_of, value_cmp, value_in_range}
use Rattle.tel_term.proofs.Ordered.{terms-total, terms-level}
use Rattle.tel_term.proofs.Tables.{place_of-at}
use Rattle.tel_rule.proofs.RisingLaws.{less_from_below}
use Rattle.atom_table.specs.declared.keys.Key.{Key}
use Rattle.atom_table.specs.Keys.{is_held, is_ranged, key_cmp, rank_cmp, name_rank, key_rank_cmp}
use Rattle.atom_table.specs.Ranks.{symbol_cmp, AreRanks, AreBelow, IsRanked}
use Rattle.atom_table.specs.Sorted.{AreNames}
use Rattle.atom_table.proofs.Arranged.{name_there, name_is}
use Rattle.atom_table.proofs.Ends.{cmp_less, cmp_equal, cmp_greater}
use Rattle.atom_table.proofs.InOrder.{less_from, moved_in}
use Rattle.atom_table.proofs.Places.{default_same}

-- ---- the numbers of symbols in order

pub symbol_total : (symbols : List Term) → IsTotalOrder (symbol_cmp symbols)
symbol_total symbols = on_total (symbol_of symbols) terms-total

pub has_all : (count : ℕ) (old new : List ℕ) → AreBelow count old → IsPermutation old new → (number : ℕ) → number < count → Contains new number
has_all count old new below moved number inside =
    let long = below.long in
    let in_old : number < length old = omega (arith, inside, long) in
    Contains-permutation old new number moved (number, in_old, default_same old number in_old number 0 ∙ below.at number inside)

pub stay_below : (count : ℕ) (old new : List ℕ) → AreBelow count old → IsPermutation old new → (place : ℕ) → place < length new → slice_index_or new place 0 < count
stay_below count old new below moved place inside =
    let number = get_or new place 0 in
    let there = In-get_or new place number inside (default_same new place inside number 0) in
    let was = Contains-from_In old number (moved_in new old number (IsPermutation-sym old new moved) there) in
    let at = was.0 in
    let long = below.long in
    let in_old = was.1 in
    let less : at < count = omega (arith, in_old, long) in
    let same : at ≡ number = sym (below.at at less) ∙ default_same old at in_old 0 number ∙ was.2 in
    subst (λ (n : ℕ). n < count) same less

-- what is sorted is so at any distance
far : {X : Type 0} (lt : X → X → Bool) (xs : List X) → IsStrictWeakOrder lt → IsSortedBy lt xs → (i j : ℕ) (d : X) → i < j → j < length xs → lt (get_or xs j d) (get_or xs i d) ≡ false
far lt xs weak sorted i zero d less inside = absurd (omega (arith, less))
far {X} lt xs weak sorted i (suc j) d less inside =
    let next : (k : ℕ) → k + 1 ≡ suc k = λ k. omega arith in
    let here : (k : ℕ) → suc k < length xs → lt (get_or xs (suc k) d) (get_or xs k d) ≡ false = λ k within. subst (λ (n : ℕ). lt (get_or xs n d) (get_or xs k d) ≡ false) (next k) (sorted k d (omega arith) (omega (arith, within))) in
    elim (cases_order i j) [
      | inl same ↦ subst (λ (n : ℕ). lt (get_or xs (suc j) d) (get_or xs n d) ≡ false) (sym same) (here j inside)
      | inr apart ↦ elim apart [
        | inl below ↦ weak.chain (get_or xs (suc j) d) (get_or xs j d) (get_or xs i d) (here j inside) (far lt xs weak sorted i j d below (omega (arith, inside)))
        | inr above ↦ absurd (omega (arith, less, above))
      ]
    ]

module _ (symbols : List Term) (order ranks : List ℕ) (table : IsTable symbols) (sorted : IsSorted (symbol_cmp symbols) order) (all : (number : ℕ) → number < length symbols → Contains order number)
    (ranked : (place : ℕ) → place < length order → IsRanked order ranks (length order) (slice_index_or order place 0)) where
  at_rank : (n : ℕ) → n < length symbols → IsRanked order ranks (length order) n
  at_rank n inside =
      let there = all n inside in
      subst (IsRanked order ranks (length order)) (default_same order there.0 there.1 0 n ∙ there.2) (ranked there.0 there.1)

  one_symbol : (m n : ℕ) → m < length symbols → n < length symbols → symbol_cmp symbols m n ≡ Equal → m ≡ n
  one_symbol m n in_m in_n level =
      let same = (terms-level (symbol_of symbols m) (symbol_of symbols n)).0 level in
      sym (place_of-at symbols (symbol_of symbols m) m table.distinct (slice_get-get_or symbols m (terms.Name []) in_m)) ∙ ap (place_of symbols) same
      ∙ place_of-at symbols (symbol_of symbols n) n table.distinct (slice_get-get_or symbols n (terms.Name []) in_n)

  below_rank : (m n : ℕ) → m < length symbols → n < length symbols → get_or ranks m 0 < get_or ranks n 0 → symbol_cmp symbols m n ≡ Less
  below_rank m n in_m in_n less =
      let total = symbol_total symbols in
      let rank_m = at_rank m in_m in
      let rank_n = at_rank n in_n in
      let not_less = far (λ x y. is_lt (symbol_cmp symbols x y)) order (ranks_by total (λ x. x)) sorted (get_or ranks m 0) (get_or ranks n 0) 0 less rank_n.below in
      let stand_m = rank_m.stands in
      let stand_n = rank_n.stands in
      less_from_below (symbol_cmp symbols m n)
      (less_from (symbol_cmp symbols m n) (ap is_lt (sym (total.antisymm n m)) ∙ (λ i. is_lt (symbol_cmp symbols (sym stand_n i) (sym stand_m i))) ∙ not_less)
      (λ level. let same = ap (λ (k : ℕ). get_or ranks k 0) (one_symbol m n in_m in_n level) in omega (arith, less, same)))

  pub are_ranks : AreRanks symbols ranks
  are_ranks m n in_m in_n = elim (cases_order (get_or ranks m 0) (get_or ranks n 0)) [
    | inl same ↦
        let one : m ≡ n = sym (at_rank m in_m).stands ∙ ap (λ (k : ℕ). get_or order k 0) same ∙ (at_rank n in_n).stands in
        cmp_equal (get_or ranks m 0) (get_or ranks n 0) same ∙ sym (ap (symbol_cmp symbols m) (sym one) ∙ tied_itself (symbol_total symbols) m)
    | inr apart ↦ elim apart [
      | inl less ↦ cmp_less (get_or ranks m 0) (get_or ranks n 0) less ∙ sym (below_rank m n in_m in_n less)
      | inr more ↦ cmp_greater (get_or ranks m 0) (get_or ranks n 0) more ∙ sym ((symbol_total symbols).antisymm m n ∙ ap ordering_reverse (below_rank n m in_n in_m more))
    ]
  ]

-- ---- the order by ranks is total

abbrev kind : Value → ℕ
kind (values.Num n) = 0
kind (values.Sym n) = 1

abbrev number : Value → ℤ
number (values.Num n) = n
number (values.Sym n) = pos 0

abbrev rank : List ℕ → Value → ℕ
rank ranks (values.Num n) = 0
rank ranks (values.Sym n) = get_or ranks n 0

abbrev by_parts : List ℕ → Value → Value → Ordering
by_parts ranks a b = ordering_then (nat_cmp (kind a) (kind b)) (ordering_then (int_cmp (number a) (number b)) (nat_cmp (rank ranks a) (rank ranks b)))

then_equal : (o : Ordering) → ordering_then o Equal ≡ o
then_equal Less = refl
then_equal Equal = refl
then_equal Greater = refl

same_order : (ranks : List ℕ) (a b : Value) → by_parts ranks a b ≡ rank_cmp ranks a b
same_order ranks (values.Num m) (values.Num n) = then_equal (int_cmp m n)
same_order ranks (values.Num m) (values.Sym n) = refl
same_order ranks (values.Sym m) (values.Num n) = refl
same_order ranks (values.Sym m) (values.Sym n) = refl

rank_total : (ranks : List ℕ) → IsTotalOrder (rank_cmp ranks)
rank_total ranks =
    let parts : IsTotalOrder (by_parts ranks) = then_total (on_total kind nat_cmp_total) (then_total (on_total number int_cmp_total) (on_total (rank ranks) nat_cmp_total)) in
    let same = same_order ranks in record {
      antisymm = λ x y. sym (same x y) ∙ parts.antisymm x y ∙ ap ordering_reverse (same y x);
      trans = λ x y z p q. sym (same x z) ∙ parts.trans x y z (same x y ∙ p) (same y z ∙ q);
      congr = λ x y z p. sym (same x z) ∙ parts.congr x y z (same x y ∙ p) ∙ same y z;
    }

pub key_rank_total : (ranks numbers : List ℕ) → IsTotalOrder (key_rank_cmp ranks numbers)
key_rank_total ranks numbers =
    then_total (on_total (name_rank ranks numbers) nat_cmp_total)
    (then_total (on_total (λ (a : Key). a.negative) bool_cmp_total)
    (then_total (on_total (λ (a : Key). length a.row) nat_cmp_total) (on_total (λ (a : Key). a.row) (lists_total (rank_total ranks)))))

-- ---- and it is that of atoms

number_first : (n : ℤ) (term : Term) → is_symbol term ≡ true → Less ≡ term_cmp (terms.Num n) term
number_first n (terms.Num m) is = absurd (cc)
number_first n (terms.Name bytes) is = refl
number_first n (terms.Str bytes) is = refl

number_later : (n : ℤ) (term : Term) → is_symbol term ≡ true → Greater ≡ term_cmp term (terms.Num n)
number_later n (terms.Num m) is = absurd (cc)
number_later n (terms.Name bytes) is = refl
number_later n (terms.Str bytes) is = refl

module _ (symbols : List Term) (ranks : List ℕ) (table : IsTable symbols) (are : AreRanks symbols ranks) where
  a_symbol : (n : ℕ) → n < length symbols → is_symbol (symbol_of symbols n) ≡ true
  a_symbol n inside = In-list_all is_symbol (symbol_of symbols n) symbols table.symbols (In-get_or symbols n (symbol_of symbols n) inside (default_same symbols n inside (symbol_of symbols n) (terms.Name [])))

  values_agree : (a b : Value) → value_in_range symbols a ≡ true → value_in_range symbols b ≡ true → rank_cmp ranks a b ≡ value_cmp symbols a b
  values_agree (values.Num m) (values.Num n) in_a in_b = refl
  values_agree (values.Num m) (values.Sym n) in_a in_b = number_first m (symbol_of symbols n) (a_symbol n (ltb-true n (length symbols) in_b))
  values_agree (values.Sym m) (values.Num n) in_a in_b = number_later n (symbol_of symbols m) (a_symbol m (ltb-true m (length symbols) in_a))
  values_agree (values.Sym m) (values.Sym n) in_a in_b = are m n (ltb-true m (length symbols) in_a) (ltb-true n (length symbols) in_b)

  rows_agree : (a b : List Value) → list_all (value_in_range symbols) a ≡ true → list_all (value_in_range symbols) b ≡ true → slice_cmp (rank_cmp ranks) a b ≡ slice_cmp (value_cmp symbols) a b
  rows_agree [] [] in_a in_b = refl
  rows_agree [] (y ∷ b) in_a in_b = refl
  rows_agree (x ∷ a) [] in_a in_b = refl
  rows_agree (x ∷ a) (y ∷ b) in_a in_b =
      let both_a = and_parts (value_in_range symbols x) (list_all (value_in_range symbols) a) in_a in
      let both_b = and_parts (value_in_range symbols y) (list_all (value_in_range symbols) b) in_b in
      let here = values_agree x y both_a.0 both_b.0 in
      let rest = rows_agree a b both_a.1 both_b.1 in
      λ i. ordering_then (here i) (rest i)

  pub keys_agree : (names : List (List ℕ)) (numbers : List ℕ) → AreNames symbols names numbers → (a b : Key) → is_held names a ≡ true → is_held names b ≡ true → is_ranged symbols a ≡ true → is_ranged symbols b ≡ true
      → key_rank_cmp ranks numbers a b ≡ key_cmp symbols names a b
  keys_agree names numbers named a b held_a held_b ranged_a ranged_b =
      let at_a = get_or numbers a.name 0 in
      let at_b = get_or numbers b.name 0 in
      let in_a = slice_get_within symbols at_a (terms.Name (get_or names a.name [])) (name_there symbols names numbers named a held_a) in
      let in_b = slice_get_within symbols at_b (terms.Name (get_or names b.name [])) (name_there symbols names numbers named b held_b) in
      let is_a = name_is symbols names numbers named a held_a in
      let is_b = name_is symbols names numbers named b held_b in
      let name = are at_a at_b in_a in_b ∙ (λ i. term_cmp (is_a i) (is_b i)) in
      let row = rows_agree a.row b.row ranged_a ranged_b in
      λ i. ordering_then (name i) (ordering_then (bool_cmp a.negative b.negative) (ordering_then (nat_cmp (length a.row) (length b.row)) (row i)))

-- what is sorted by one order is so by another that agrees on it
pub sorted_again : {X : Type 0} (R S : X → X → Ordering) (xs : List X) → ((x y : X) → In x xs → In y xs → R x y ≡ S x y) → IsSorted R xs → IsSorted S xs
sorted_again R S xs agree sorted k d low high =
    let second = get_or xs (k + 1) d in
    let first = get_or xs k d in
    let in_first : k < length xs = omega (arith, high) in
    ap is_lt (sym (agree second first (In-get_or xs (k + 1) second high (default_same xs (k + 1) high second d)) (In-get_or xs k first in_first (default_same xs k in_first first d)))) ∙ sorted k d low high
