-- Each clause that is not absorbed leaves fewer that can come, and none leaves more.
use Rattle.std.proofs.Common.{◌≡◌, ℕ, zero, suc, ◌+◌, ◌^◌, ◌≤◌, Bool, true, false, cond, ◌||◌, List, [], ◌∷◌, ◌++◌, map, refl, sym, ap, subst, ◌∙◌, inl, arith}
use Rattle.std.specs.Prelude.{◌==◌}
use Rattle.std.specs.List.{list_any}
use Rattle.tel_base.proofs.Members.{In, In-append_left, In-append_right, In-map_from}
use Rattle.clause_store.specs.Closure.{Clause}
use Rattle.clause_store.specs.Counts.{code, unused, left_over, IsBelow}
use Rattle.clause_store.proofs.Counting.{fewer_left, at_most_left}
use Rattle.search_laws.specs.Origins.{Kept, lits_of}
use Rattle.search_laws.specs.Counted.{Counted, none, passed, counted, AtMostCounted}

or_swap : (a b c : Bool) → (a || (b || c)) ≡ (b || (a || c))
or_swap true true c = refl
or_swap true false c = refl
or_swap false true c = refl
or_swap false false c = refl

any_end : (p : ℕ → Bool) (xs : List ℕ) (c : ℕ) → list_any p (xs ++ c ∷ []) ≡ list_any p (c ∷ xs)
any_end p [] c = refl
any_end p (x ∷ xs) c = ap (λ (b : Bool). p x || b) (any_end p xs c) ∙ or_swap (p x) (p c) (list_any p xs)

unused_end : (codes : List ℕ) (c k : ℕ) → unused (codes ++ c ∷ []) k ≡ unused (c ∷ codes) k
unused_end codes c zero = refl
unused_end codes c (suc k) = λ i. unused_end codes c k i + cond (any_end (λ (x : ℕ). x == k) codes c i) 0 1

-- one more of the numbers may be used
step_less : (a b : Bool) (x y : ℕ) → x ≤ y → x + cond (a || b) 0 1 ≤ y + cond b 0 1
step_less true true x y l = omega (arith, l)
step_less true false x y l = omega (arith, l)
step_less false true x y l = omega (arith, l)
step_less false false x y l = omega (arith, l)

unused_less : (codes : List ℕ) (c k : ℕ) → unused (c ∷ codes) k ≤ unused codes k
unused_less codes c zero = omega arith
unused_less codes c (suc k) = step_less (c == k) (list_any (λ (x : ℕ). x == k) codes) (unused (c ∷ codes) k) (unused codes k) (unused_less codes c k)

codes_end : (v : ℕ) (before : List Kept) (one : Kept) → map (code v) (lits_of (before ++ one ∷ [])) ≡ map (code v) (lits_of before) ++ code v one.lits ∷ []
codes_end v [] one = refl
codes_end v (first ∷ before) one = ap (λ (codes : List ℕ). code v first.lits ∷ codes) (codes_end v before one)

-- a clause at the end is as one at the front
left_end : (v : ℕ) (before : List Kept) (one : Kept) → left_over v (lits_of (before ++ one ∷ [])) ≡ left_over v (one.lits ∷ lits_of before)
left_end v before one =
    let most = 3 ^ v in
    ap (λ (codes : List ℕ). unused codes most) (codes_end v before one) ∙ unused_end (map (code v) (lits_of before)) (code v one.lits) most

left_less : (v : ℕ) (clauses : List Clause) (clause : Clause) → left_over v (clause ∷ clauses) ≤ left_over v clauses
left_less v clauses clause = unused_less (map (code v) clauses) (code v clause) (3 ^ v)

below_before : (v : ℕ) (held before : List Kept) (last : Kept) → held ≡ before ++ last ∷ [] → ((one : Kept) → In one held → IsBelow v one.lits) → (one : Kept) → In one before → IsBelow v one.lits
below_before v held before last whole below one i = below one (subst (λ (hs : List Kept). In one hs) (sym whole) (In-append_left one before (last ∷ []) i))

counted_left : (v most : ℕ) → ((clauses : List Clause) → left_over v clauses ≤ most) → (held : List Kept) (count : ℕ) → ((one : Kept) → In one held → IsBelow v one.lits) → Counted held count → count + left_over v (lits_of held) ≤ most
counted_left v most bound held count below (none _ _ empty is) = let l = bound (lits_of held) in omega (arith, is, l)
counted_left v most bound held count below (passed _ before one _ whole rest) =
    let l = counted_left v most bound before count (below_before v held before one whole below) rest in
    let e = ap (λ (hs : List Kept). left_over v (lits_of hs)) whole ∙ left_end v before one in
    let s = left_less v (lits_of before) one.lits in
    omega (arith, l, e, s)
counted_left v most bound held count below (counted _ before one _ less whole is rest free) =
    let older = below_before v held before one whole below in
    let l = counted_left v most bound before less older rest in
    let e = ap (λ (hs : List Kept). left_over v (lits_of hs)) whole ∙ left_end v before one in
    let last = below one (subst (λ (hs : List Kept). In one hs) (sym whole) (In-append_right one before (one ∷ []) (inl refl))) in
    let s = fewer_left v (lits_of before) one.lits (λ clause i. let w = In-map_from (λ (h : Kept). h.lits) clause before i in subst (λ (c : Clause). IsBelow v c) w.2 (older w.0 w.1)) last free in
    omega (arith, l, e, s, is)

pub at_most_counted : AtMostCounted
at_most_counted v held count below counts =
    let most = 3 ^ v in
    let l = counted_left v most (at_most_left v) held count below counts in
    omega (arith, l)
