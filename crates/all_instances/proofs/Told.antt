-- What listed traces tell, and the listed trace of the atoms that are true in a trace.
use Rattle.std.proofs.Common.{◌≡◌, ℕ, zero, suc, ◌+◌, ◌<◌, ◌≤◌, Bool, true, false, ◌&&◌, List, [], ◌∷◌, length, refl, sym, ap, ap₂, ◌∙◌, subst, ⊎_elim, inl, inr, arith}
use Rattle.std.specs.Prelude.{◌==◌, nat_lt, slice_index_or}
use Rattle.std.specs.List.{list_all, range_with_len}
use Rattle.std.specs.Ordering.{nat_cmp, is_lt}
use Rattle.std.specs.Cmp.{nat_cmp_is}
use Rattle.std.specs.declared.cmp.Ordering.TheVariants.{Less}
use Rattle.std.proofs.lemmas.Bool.{and_parts, and_from, cases_Bool, eq-eqb, eqb-true, ltb-true, ltb-false, false≢true}
use Rattle.std.proofs.lemmas.Cmp.{nat_cmp_total}
use Rattle.std.proofs.lemmas.List.{get_or-replicate}
use Rattle.tel_base.specs.Members.{In}
use Rattle.tel_base.proofs.Members.{In-list_all, any_found, any_from}
use Rattle.tel_rule.specs.Rising.{rises, numbers_rise}
use Rattle.tel_semantics.specs.Traces.{is_member, test_of, is_state}
use Rattle.tel_semantics.specs.Lists.{all_traces, full_trace}
use Rattle.tel_semantics.proofs.Below.{Under-traces_below, Under-full}
use Rattle.tel_semantics.proofs.Minimal.{part_of, test_of-part_of}
use Rattle.live_instances.proofs.OneList.{rising_one}
use Rattle.theory_lists.specs.Atoms.{TermAtom, term_atom_lt, same_atom, atom_at}
use Rattle.theory_lists.specs.Lists.{told}
use Rattle.theory_lists.proofs.AtomOrder.{atoms-one, same_place}
use Rattle.all_instances.specs.Traces.{Trace, AreSame}

pub same_test : (a b : Bool) → (a ≡ true → b ≡ true) → (b ≡ true → a ≡ true) → a ≡ b
same_test true b to from = sym (to refl)
same_test false true to from = from refl
same_test false false to from = refl

-- ---- places in states

in_state : (state : List ℕ) (place : ℕ) → is_member state place ≡ true → In place state
in_state state place is =
    let found = any_found (λ (x : ℕ). x == place) state is in
    subst (λ (x : ℕ). In x state) (eqb-true found.0 place found.2) found.1

member_of : (state : List ℕ) (place : ℕ) → In place state → is_member state place ≡ true
member_of state place there = any_from (λ (x : ℕ). x == place) state place there (eq-eqb place place refl)

-- the atom of some true place
pub record IsTold (atoms : List TermAtom) (trace : List (List ℕ)) (k : ℕ) (atom : TermAtom) : Type 0 where
  pub place : ℕ
  pub there : test_of trace k place ≡ true
  pub is : atom_at atoms place ≡ atom

pub told_from : (atoms : List TermAtom) (trace : List (List ℕ)) (k : ℕ) (atom : TermAtom) → told atoms trace k atom ≡ true → IsTold atoms trace k atom
told_from atoms trace k atom on =
    let state = slice_index_or trace k [] in
    let found = any_found (λ (place : ℕ). same_atom (atom_at atoms place) atom) state on in
    record { place = found.0; there = member_of state found.0 found.1; is = (atoms-one (atom_at atoms found.0) atom).0 found.2 }

pub told_to : (atoms : List TermAtom) (trace : List (List ℕ)) (k place : ℕ) (atom : TermAtom) → test_of trace k place ≡ true → atom_at atoms place ≡ atom → told atoms trace k atom ≡ true
told_to atoms trace k place atom there is =
    let state = slice_index_or trace k [] in
    any_from (λ (p : ℕ). same_atom (atom_at atoms p) atom) state place (in_state state place there) ((atoms-one (atom_at atoms place) atom).1 is)

-- ---- the part of a listed trace that is true in a trace

abbrev pub at_places : List TermAtom → Trace → ℕ → ℕ → Bool
at_places atoms H k place = H k (atom_at atoms place)

part_says : (atoms : List TermAtom) (H : Trace) (trace : List (List ℕ)) (k place : ℕ) → test_of (part_of (at_places atoms H) 0 trace) k place ≡ (H k (atom_at atoms place) && test_of trace k place)
part_says atoms H trace k place =
    test_of-part_of (at_places atoms H) 0 trace k place ∙ ap (λ (i : ℕ). H i (atom_at atoms place) && test_of trace k place) (omega arith)

pub part_tells : (atoms : List TermAtom) (H : Trace) (trace : List (List ℕ)) (k : ℕ) (atom : TermAtom) → (H k atom ≡ true → told atoms trace k atom ≡ true) → told atoms (part_of (at_places atoms H) 0 trace) k atom ≡ H k atom
part_tells atoms H trace k atom given =
    let part = part_of (at_places atoms H) 0 trace in
    same_test (told atoms part k atom) (H k atom)
    (λ on.
    let p = told_from atoms part k atom on in
    let both = and_parts (H k (atom_at atoms p.place)) (test_of trace k p.place) (sym (part_says atoms H trace k p.place) ∙ p.there) in
    subst (λ (a : TermAtom). H k a ≡ true) p.is both.0)
    (λ on.
    let p = told_from atoms trace k atom (given on) in
    let here : H k (atom_at atoms p.place) ≡ true = subst (λ (a : TermAtom). H k a ≡ true) (sym p.is) on in
    told_to atoms part k p.place atom (part_says atoms H trace k p.place ∙ and_from (H k (atom_at atoms p.place)) (test_of trace k p.place) here p.there) p.is)

-- ---- the trace in which all is true

pub record HasPlace {X : Type 0} (xs : List X) (x none : X) : Type 0 where
  pub place : ℕ
  pub below : place < length xs
  pub is : slice_index_or xs place none ≡ x

placed : {X : Type 0} (xs : List X) (x none : X) → In x xs → HasPlace xs x none
placed [] x none there = absurd there
placed (first ∷ more) x none there =
    ⊎_elim (λ (same : first ≡ x). record { place = 0; below = omega arith; is = same })
    (λ (found : In x more). let rest = placed more x none found in record { place = suc rest.place; below = omega (arith, rest.below); is = rest.is }) there

in_range : (count low x : ℕ) → low ≤ x → x < low + count → In x (range_with_len low count)
in_range zero low x l m = absurd (omega (arith, l, m))
in_range (suc count) low x l m =
    ⊎_elim (λ (above : nat_lt low x ≡ true). inr (in_range count (low + 1) x (omega (arith, ltb-true low x above)) (omega (arith, m))))
    (λ (level : nat_lt low x ≡ false). inl (omega (arith, l, ltb-false low x level)))
    (cases_Bool (nat_lt low x))

pub full_tells : (atoms : List TermAtom) (n k : ℕ) (atom : TermAtom) → k < n → In atom atoms → told atoms (full_trace (length atoms) n) k atom ≡ true
full_tells atoms n k atom l there =
    let p = placed atoms atom (record { negative = false; name = []; args = [] }) there in
    let state = range_with_len 0 (length atoms) in
    let here : test_of (full_trace (length atoms) n) k p.place ≡ true = ap (λ (s : List ℕ). is_member s p.place) (get_or-replicate n k state [] l) ∙ member_of state p.place (in_range (length atoms) 0 p.place (omega arith) (omega (arith, p.below))) in
    told_to atoms (full_trace (length atoms) n) k p.place atom here p.is

-- ---- places are below the count, and different ones have different atoms

state_below : (count : ℕ) (trace : List (List ℕ)) → list_all (is_state count) trace ≡ true → (k place : ℕ) → test_of trace k place ≡ true → place < count
state_below count [] all k place there = absurd (false≢true there)
state_below count (state ∷ trace) all zero place there =
    let both = and_parts (is_state count state) (list_all (is_state count) trace) all in
    let here = and_parts (numbers_rise state) (list_all (λ atom. nat_lt atom count) state) both.0 in
    ltb-true place count (In-list_all (λ (atom : ℕ). nat_lt atom count) place state here.1 (in_state state place there))
state_below count (state ∷ trace) all (suc k) place there =
    state_below count trace (and_parts (is_state count state) (list_all (is_state count) trace) all).1 k place there

pub listed_below : (count n : ℕ) (trace : List (List ℕ)) → In trace (all_traces count n) → (k place : ℕ) → test_of trace k place ≡ true → place < count
listed_below count n trace listed = state_below count trace (Under-full count n trace (Under-traces_below trace (full_trace count n) listed)).1

-- what is told of the atom at a place is that the place is in the state
pub told_place : (atoms : List TermAtom) (trace : List (List ℕ)) (k place : ℕ) → rises term_atom_lt atoms ≡ true → ((j p : ℕ) → test_of trace j p ≡ true → p < length atoms) → place < length atoms
    → told atoms trace k (atom_at atoms place) ≡ true → test_of trace k place ≡ true
told_place atoms trace k place up below l on =
    let p = told_from atoms trace k (atom_at atoms place) on in
    let one : p.place ≡ place = eqb-true p.place place (sym (same_place atoms p.place place up (below k p.place p.there) l) ∙ (atoms-one (atom_at atoms p.place) (atom_at atoms place)).1 p.is) in
    subst (λ (x : ℕ). test_of trace k x ≡ true) one p.there

-- ---- traces with the same places are one

numbers_up : (xs : List ℕ) → numbers_rise xs ≡ true → rises (λ a b. is_lt (nat_cmp a b)) xs ≡ true
numbers_up [] up = refl
numbers_up (x ∷ []) up = refl
numbers_up (x ∷ y ∷ more) up =
    let both = and_parts (nat_lt x y) (numbers_rise (y ∷ more)) up in
    and_from (is_lt (nat_cmp x y)) (rises (λ a b. is_lt (nat_cmp a b)) (y ∷ more)) (ap is_lt (sym (nat_cmp_is x y Less (ltb-true x y both.0)))) (numbers_up (y ∷ more) both.1)

one_state : (count : ℕ) (a b : List ℕ) → is_state count a ≡ true → is_state count b ≡ true → ((place : ℕ) → is_member a place ≡ is_member b place) → a ≡ b
one_state count a b of_a of_b same =
    let up_a = (and_parts (numbers_rise a) (list_all (λ atom. nat_lt atom count) a) of_a).0 in
    let up_b = (and_parts (numbers_rise b) (list_all (λ atom. nat_lt atom count) b) of_b).0 in
    rising_one nat_cmp nat_cmp_total a b (numbers_up a up_a) (numbers_up b up_b)
    (λ x. (λ found. in_state b x (sym (same x) ∙ member_of a x found), λ found. in_state a x (same x ∙ member_of b x found)))

one_trace : (count n : ℕ) (a b : List (List ℕ)) → length a ≡ n → length b ≡ n → list_all (is_state count) a ≡ true → list_all (is_state count) b ≡ true
    → ((k place : ℕ) → k < n → test_of a k place ≡ test_of b k place) → a ≡ b
one_trace count n [] [] long_a long_b of_a of_b same = refl
one_trace count n [] (t ∷ b) long_a long_b of_a of_b same = absurd (omega (arith, long_a, long_b))
one_trace count n (s ∷ a) [] long_a long_b of_a of_b same = absurd (omega (arith, long_a, long_b))
one_trace count zero (s ∷ a) (t ∷ b) long_a long_b of_a of_b same = absurd (omega (arith, long_a))
one_trace count (suc n) (s ∷ a) (t ∷ b) long_a long_b of_a of_b same =
    let here_a = and_parts (is_state count s) (list_all (is_state count) a) of_a in
    let here_b = and_parts (is_state count t) (list_all (is_state count) b) of_b in
    ap₂ (λ (first : List ℕ) (rest : List (List ℕ)). first ∷ rest)
    (one_state count s t here_a.0 here_b.0 (λ place. same 0 place (omega arith)))
    (one_trace count n a b (omega (arith, long_a)) (omega (arith, long_b)) here_a.1 here_b.1 (λ k place l. same (suc k) place (omega (arith, l))))

-- listed traces that tell the same are one
pub one_listed : (atoms : List TermAtom) (n : ℕ) (T : Trace) (a b : List (List ℕ)) → rises term_atom_lt atoms ≡ true → In a (all_traces (length atoms) n) → In b (all_traces (length atoms) n)
    → AreSame n (told atoms a) T → AreSame n (told atoms b) T → a ≡ b
one_listed atoms n T a b up listed_a listed_b tells_a tells_b =
    let count = length atoms in
    let of_a = Under-full count n a (Under-traces_below a (full_trace count n) listed_a) in
    let of_b = Under-full count n b (Under-traces_below b (full_trace count n) listed_b) in
    let below_a = listed_below count n a listed_a in
    let below_b = listed_below count n b listed_b in
    one_trace count n a b of_a.0 of_b.0 of_a.1 of_b.1 (λ k place l. same_test (test_of a k place) (test_of b k place)
    (λ on. told_place atoms b k place up below_b (below_a k place on) (tells_b k (atom_at atoms place) l ∙ sym (tells_a k (atom_at atoms place) l) ∙ told_to atoms a k place (atom_at atoms place) on refl))
    (λ on. told_place atoms a k place up below_a (below_b k place on) (tells_a k (atom_at atoms place) l ∙ sym (tells_b k (atom_at atoms place) l) ∙ told_to atoms b k place (atom_at atoms place) on refl)))
