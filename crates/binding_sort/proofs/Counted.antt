-- Lists with the same elements, by how often each stands there.
use Rattle.std.proofs.Common.{◌≡◌, inl, inr, ℕ, zero, suc, ◌+◌, ◌<◌, ◌≤◌, Bool, true, false, List, [], ◌∷◌, refl, sym, subst, ⊎_elim, true≢false, arith}
use Rattle.std.specs.Prelude.{if◌then◌else◌}
use Rattle.std.specs.List.{sum_by}
use Rattle.std.specs.List.Sorted.{IsPermutation}
use Rattle.std.proofs.lemmas.Bool.{and_parts, and_from, cases_Bool}
use Rattle.std.proofs.lemmas.List.Sums.{sum_by-cons}
use Rattle.std.proofs.lemmas.List.Sorted.{sum_by-IsPermutation}
use Rattle.tel_base.specs.Members.{In}
use Rattle.tel_term.specs.declared.terms.Value.{Value}
use Rattle.tel_rule.specs.Atoms.{value_eq, values_eq}
use Rattle.join_plans.specs.Once.{IsOnce}
use Rattle.join_plans.proofs.Exact.{value_eq-Decides}

same_from : (xs ys : List Value) → values_eq xs ys ≡ true → xs ≡ ys
same_from [] [] is = refl
same_from [] (y ∷ ys) is = absurd (true≢false (sym is))
same_from (x ∷ xs) [] is = absurd (true≢false (sym is))
same_from (x ∷ xs) (y ∷ ys) is =
    let both = and_parts (value_eq x y) (values_eq xs ys) is in
    let first = (value_eq-Decides x y).0 both.0 in
    let rest = same_from xs ys both.1 in
    λ i. first i ∷ rest i

same_itself : (xs : List Value) → values_eq xs xs ≡ true
same_itself [] = refl
same_itself (x ∷ xs) = and_from (value_eq x x) (values_eq xs xs) ((value_eq-Decides x x).1 refl) (same_itself xs)

abbrev one_for : List Value → List Value → ℕ
one_for b x = if values_eq b x then 1 else 0

abbrev pub count : List Value → List (List Value) → ℕ
count b xs = sum_by (one_for b) xs

count_more : (b x : List Value) (xs : List (List Value)) → count b (x ∷ xs) ≡ one_for b x + count b xs
count_more b x xs = sum_by-cons (one_for b) x xs

if_true : (t : Bool) → t ≡ true → ◌≡◌ {A = ℕ} (if t then 1 else 0) 1
if_true true e = refl
if_true false e = absurd (true≢false (sym e))

if_false : (t : Bool) → t ≡ false → ◌≡◌ {A = ℕ} (if t then 1 else 0) 0
if_false true e = absurd (true≢false e)
if_false false e = refl

counted : (b : List Value) (xs : List (List Value)) → In b xs → 0 < count b xs
counted b [] there = absurd there
counted b (x ∷ xs) there =
    ⊎_elim (λ (e : x ≡ b). let one = if_true (values_eq b x) (subst (λ (y : List Value). values_eq b y ≡ true) (sym e) (same_itself b)) in omega (arith, one, count_more b x xs)) (λ later. omega (arith, counted b xs later, count_more b x xs)) there

found : (b : List Value) (xs : List (List Value)) → 0 < count b xs → In b xs
found b [] some = absurd (omega (arith, some))
found b (x ∷ xs) some = elim (cases_Bool (values_eq b x)) [
  | inl is ↦ inl (sym (same_from b x is))
  | inr isnt ↦ let none = if_false (values_eq b x) isnt in inr (found b xs (omega (arith, some, none, count_more b x xs)))
]

few : (n : ℕ) → (0 < n → ⊥) → n ≤ 0
few zero none = omega arith
few (suc n) none = absurd (none (omega arith))

once_counted : (b : List Value) (xs : List (List Value)) → IsOnce xs → count b xs ≤ 1
once_counted b [] once = omega arith
once_counted b (x ∷ xs) once = elim (cases_Bool (values_eq b x)) [
  | inl is ↦
      let one = if_true (values_eq b x) is in
      let same = same_from b x is in
      let none : count b xs ≤ 0 = few (count b xs) (λ some. once.0 (subst (λ (y : List Value). In y xs) same (found b xs some))) in
      omega (arith, one, none, count_more b x xs)
  | inr isnt ↦ let zeros = if_false (values_eq b x) isnt in omega (arith, zeros, once_counted b xs once.1, count_more b x xs)
]

counted_once : (xs : List (List Value)) → ((b : List Value) → count b xs ≤ 1) → IsOnce xs
counted_once [] one = tt
counted_once (x ∷ xs) one =
    let here = if_true (values_eq x x) (same_itself x) in
    ((λ there. let some = counted x xs there in let most = one x in absurd (omega (arith, here, some, most, count_more x x xs))), counted_once xs (λ b. omega (arith, one b, count_more b x xs)))

pub permuted_members : (xs ys : List (List Value)) → IsPermutation xs ys → (b : List Value) → In b xs → In b ys
permuted_members xs ys moved b there = found b ys (omega (arith, counted b xs there, sum_by-IsPermutation (one_for b) xs ys moved))

pub permuted_once : (xs ys : List (List Value)) → IsPermutation xs ys → IsOnce xs → IsOnce ys
permuted_once xs ys moved once = counted_once ys (λ b. omega (arith, once_counted b xs once, sum_by-IsPermutation (one_for b) xs ys moved))
