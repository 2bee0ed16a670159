-- Literals in order: the list of a clause is the one rising list of its literals.
use Rattle.std.proofs.Common.{◌≡◌, ℕ, zero, suc, ◌+◌, ◌<◌, ◌≤◌, ◌==◌, Bool, true, false, ◌||◌, List, [], ◌∷◌, length, get_or, drop, refl, sym, ap, subst, ◌∙◌, ◌⊎◌, inl, inr, ⊎_elim, arith}
use Rattle.std.specs.Prelude.{nat_lt}
use Rattle.std.specs.List.Sorted.{IsNonDecreasingBy, IsPermutation}
use Rattle.std.proofs.lemmas.Bool.{cases_Bool, cond-true, cond-false, ltb-true, ltb-false, eqb-true, eqb-false, eq-eqb}
use Rattle.std.proofs.lemmas.List.{drop_all, length-drop, get_or_default}
use Rattle.std.proofs.Math.Seq.{drop-cons, get_or-drop}
use Rattle.std.proofs.lemmas.List.Sorted.{Contains-permutation, IsPermutation-sym}
use Rattle.tel_base.specs.declared.literals.Lit.{Lit}
use Rattle.tel_base.proofs.Members.{In, In-from_Contains, Contains-from_In}
use Rattle.normal_program.specs.ModuleClauses.{rank, put_lit, in_order, has_both}

twice_less : (m n : ℕ) → m + m + 1 ≡ n + n → ⊥
twice_less m n e = omega (arith, e)

-- literals at one place are equal
pub rank_one : (a b : Lit) → rank a ≡ rank b → a ≡ b
rank_one a b e = one a.var b.var a.positive b.positive e
  where
    lit : ℕ → Bool → Lit
    lit v p = record { var = v; positive = p }

    one : (v w : ℕ) (p q : Bool) → rank (lit v p) ≡ rank (lit w q) → lit v p ≡ lit w q
    one v w true true e = ap (λ n. lit n true) (omega (arith, e))
    one v w false false e = ap (λ n. lit n false) (omega (arith, e))
    one v w true false e = absurd (omega (arith, e))
    one v w false true e = absurd (omega (arith, e))

-- ---- rising lists

abbrev pub Rises : List Lit → Type 0
Rises [] = Unit {0}
Rises (x ∷ xs) = ((y : Lit) → In y xs → rank x < rank y) × Rises xs

-- two rising lists with the same members are one
pub rising_one : (xs ys : List Lit) → Rises xs → Rises ys → ((x : Lit) → In x xs → In x ys) → ((y : Lit) → In y ys → In y xs) → xs ≡ ys
rising_one [] [] rx ry into from = refl
rising_one [] (y ∷ ys) rx ry into from = absurd (from y (inl refl))
rising_one (x ∷ xs) [] rx ry into from = absurd (into x (inl refl))
rising_one (x ∷ xs) (y ∷ ys) rx ry into from =
    let least : (a : Lit) (more : List Lit) → Rises (a ∷ more) → (z : Lit) → In z (a ∷ more) → rank a ≤ rank z =
    λ a more r z i. ⊎_elim (λ e. let same : rank a ≡ rank z = ap rank e in omega (arith, same)) (λ m. let less = r.0 z m in omega (arith, less)) i in
    let up = least y ys ry x (into x (inl refl)) in
    let down = least x xs rx y (from y (inl refl)) in
    let same : x ≡ y = rank_one x y (omega (arith, up, down)) in
    let inside : (z : Lit) → In z xs → In z ys =
    λ z m. ⊎_elim (λ (e : y ≡ z). let less = rx.0 z m in let equal : rank x ≡ rank z = ap rank (same ∙ e) in absurd (omega (arith, less, equal))) (λ n. n) (into z (inr m)) in
    let outside : (z : Lit) → In z ys → In z xs =
    λ z m. ⊎_elim (λ (e : x ≡ z). let less = ry.0 z m in let equal : rank y ≡ rank z = ap rank (sym same ∙ e) in absurd (omega (arith, less, equal))) (λ n. n) (from z (inr m)) in
    λ i. same i ∷ rising_one xs ys rx.1 ry.1 inside outside i

-- ---- the list of a clause

into_put : (lit y : Lit) (xs : List Lit) → In y (put_lit lit xs) → (lit ≡ y) ⊎ In y xs
unfolding put_lit
into_put lit y [] h = ⊎_elim (λ e. inl e) (λ n. absurd n) h
into_put lit y (x ∷ xs) h =
    ⊎_elim
    (λ (less : nat_lt (rank lit) (rank x) ≡ true). ⊎_elim (λ e. inl e) (λ m. inr m) (subst (λ ys. In y ys) (cond-true (nat_lt (rank lit) (rank x)) _ _ less) h))
    (λ (more : nat_lt (rank lit) (rank x) ≡ false).
    let h2 = subst (λ ys. In y ys) (cond-false (nat_lt (rank lit) (rank x)) _ _ more) h in
    ⊎_elim
    (λ (same : (rank lit == rank x) ≡ true). inr (subst (λ ys. In y ys) (cond-true (rank lit == rank x) _ _ same) h2))
    (λ (other : (rank lit == rank x) ≡ false).
    ⊎_elim (λ e. inr (inl e)) (λ m. ⊎_elim (λ e. inl e) (λ n. inr (inr n)) (into_put lit y xs m)) (subst (λ ys. In y ys) (cond-false (rank lit == rank x) _ _ other) h2))
    (cases_Bool (rank lit == rank x)))
    (cases_Bool (nat_lt (rank lit) (rank x)))

put_has : (lit y : Lit) (xs : List Lit) → (lit ≡ y) ⊎ In y xs → In y (put_lit lit xs)
unfolding put_lit
put_has lit y [] h = ⊎_elim (λ e. inl e) (λ n. absurd n) h
put_has lit y (x ∷ xs) h =
    ⊎_elim
    (λ (less : nat_lt (rank lit) (rank x) ≡ true). subst (λ ys. In y ys) (sym (cond-true (nat_lt (rank lit) (rank x)) _ _ less)) h)
    (λ (more : nat_lt (rank lit) (rank x) ≡ false).
    subst (λ ys. In y ys) (sym (cond-false (nat_lt (rank lit) (rank x)) _ _ more))
    (⊎_elim
    (λ (same : (rank lit == rank x) ≡ true).
    let equal : lit ≡ x = rank_one lit x (eqb-true (rank lit) (rank x) same) in
    subst (λ ys. In y ys) (sym (cond-true (rank lit == rank x) _ _ same)) (⊎_elim (λ e. inl (sym equal ∙ e)) (λ m. m) h))
    (λ (other : (rank lit == rank x) ≡ false).
    subst (λ ys. In y ys) (sym (cond-false (rank lit == rank x) _ _ other))
    (⊎_elim (λ e. inr (put_has lit y xs (inl e))) (λ m. ⊎_elim (λ e. inl e) (λ n. inr (put_has lit y xs (inr n))) m) h))
    (cases_Bool (rank lit == rank x))))
    (cases_Bool (nat_lt (rank lit) (rank x)))

least_or_same : (m n : ℕ) → m ≤ n → (m < n) ⊎ (m ≡ n)
least_or_same m n le = ⊎_elim (λ (less : nat_lt m n ≡ true). inl (ltb-true m n less)) (λ (not_less : nat_lt m n ≡ false). let up = ltb-false m n not_less in inr (omega (arith, le, up))) (cases_Bool (nat_lt m n))

put_rises : (lit : Lit) (xs : List Lit) → Rises xs → Rises (put_lit lit xs)
unfolding put_lit
put_rises lit [] r = ((λ y n. absurd n), tt)
put_rises lit (x ∷ xs) r =
    ⊎_elim
    (λ (less : nat_lt (rank lit) (rank x) ≡ true).
    let below = ltb-true (rank lit) (rank x) less in
    subst Rises (sym (cond-true (nat_lt (rank lit) (rank x)) (lit ∷ x ∷ xs) _ less))
    ((λ y i. ⊎_elim (λ (e : x ≡ y). subst (λ z. rank lit < rank z) e below) (λ m. let up = r.0 y m in omega (arith, below, up)) i), r))
    (λ (more : nat_lt (rank lit) (rank x) ≡ false).
    let above = ltb-false (rank lit) (rank x) more in
    subst Rises (sym (cond-false (nat_lt (rank lit) (rank x)) (lit ∷ x ∷ xs) _ more))
    (⊎_elim
    (λ (same : (rank lit == rank x) ≡ true). subst Rises (sym (cond-true (rank lit == rank x) (x ∷ xs) _ same)) r)
    (λ (other : (rank lit == rank x) ≡ false).
    let apart = eqb-false (rank lit) (rank x) other in
    let below : rank x < rank lit = ⊎_elim (λ l. l) (λ e. absurd (apart (sym e))) (least_or_same (rank x) (rank lit) above) in
    subst Rises (sym (cond-false (rank lit == rank x) (x ∷ xs) (x ∷ put_lit lit xs) other))
    ((λ y i. ⊎_elim (λ (e : lit ≡ y). subst (λ z. rank x < rank z) e below) (λ m. r.0 y m) (into_put lit y xs i)), put_rises lit xs r.1))
    (cases_Bool (rank lit == rank x))))
    (cases_Bool (nat_lt (rank lit) (rank x)))

pub in_order_rises : (xs : List Lit) → Rises (in_order xs)
unfolding in_order
in_order_rises [] = tt
in_order_rises (x ∷ xs) = put_rises x (in_order xs) (in_order_rises xs)

pub into_order : (y : Lit) (xs : List Lit) → In y xs → In y (in_order xs)
unfolding in_order
into_order y [] h = absurd h
into_order y (x ∷ xs) h = put_has x y (in_order xs) (⊎_elim (λ e. inl e) (λ m. inr (into_order y xs m)) h)

pub from_order : (y : Lit) (xs : List Lit) → In y (in_order xs) → In y xs
unfolding in_order
from_order y [] h = absurd h
from_order y (x ∷ xs) h = ⊎_elim (λ e. inl e) (λ m. inr (from_order y xs m)) (into_put x y (in_order xs) h)

-- lists with the same members have one order
pub order_one : (xs ys : List Lit) → ((x : Lit) → In x xs → In x ys) → ((y : Lit) → In y ys → In y xs) → in_order xs ≡ in_order ys
order_one xs ys into from =
    rising_one (in_order xs) (in_order ys) (in_order_rises xs) (in_order_rises ys)
    (λ x i. into_order x ys (into x (from_order x xs i)))
    (λ y i. into_order y xs (from y (from_order y ys i)))

pub permuted_order : (xs ys : List Lit) → IsPermutation xs ys → in_order xs ≡ in_order ys
permuted_order xs ys forth =
    order_one xs ys
    (λ x i. In-from_Contains ys x (Contains-permutation xs ys x forth (Contains-from_In xs x i)))
    (λ y i. In-from_Contains xs y (Contains-permutation ys xs y (IsPermutation-sym xs ys forth) (Contains-from_In ys y i)))

-- ---- literals one behind another

behind : (xs : List Lit) (i : ℕ) (d : Lit) → suc i < length xs → drop i xs ≡ get_or xs i d ∷ get_or xs (suc i) d ∷ drop (suc (suc i)) xs
behind xs i d within = drop-cons xs i d (omega (arith, within)) ∙ ap (λ (rest : List Lit). get_or xs i d ∷ rest) (drop-cons xs (suc i) d within)

both_of : (x y : Lit) (more : List Lit) → has_both (x ∷ y ∷ more) ≡ ((x.var == y.var) || has_both (y ∷ more))
unfolding has_both
both_of x y more = refl

pub both_here : (xs : List Lit) (i : ℕ) (d : Lit) → suc i < length xs → (get_or xs i d).var ≡ (get_or xs (suc i) d).var → has_both (drop i xs) ≡ true
both_here xs i d within same =
    let x = get_or xs i d in
    let y = get_or xs (suc i) d in
    let more = drop (suc (suc i)) xs in
    ap has_both (behind xs i d within) ∙ both_of x y more ∙ ap (λ (b : Bool). b || has_both (y ∷ more)) (eq-eqb x.var y.var same)

pub both_next : (xs : List Lit) (i : ℕ) (d : Lit) → suc i < length xs → ((get_or xs i d).var == (get_or xs (suc i) d).var) ≡ false → has_both (drop i xs) ≡ has_both (drop (suc i) xs)
both_next xs i d within apart =
    let x = get_or xs i d in
    let y = get_or xs (suc i) d in
    let more = drop (suc (suc i)) xs in
    ap has_both (behind xs i d within) ∙ both_of x y more ∙ ap (λ (b : Bool). b || has_both (y ∷ more)) apart ∙ ap has_both (sym (drop-cons xs (suc i) d within))

pub both_end : (xs : List Lit) (i : ℕ) → length xs ≤ suc i → has_both (drop i xs) ≡ false
unfolding has_both
both_end [] i end = ap has_both (drop_all i [] (omega arith))
both_end (x ∷ []) zero end = refl
both_end (x ∷ y ∷ more) zero end = absurd (omega (arith, end))
both_end (x ∷ xs) (suc i) end = both_end xs i (omega (arith, end))

-- ---- a list whose places don't fall

far : (xs : List Lit) (i : ℕ) (d : Lit) → IsNonDecreasingBy rank xs → (y : Lit) → In y (drop i xs) → rank (get_or xs i d) ≤ rank y
far xs i d rise y m =
    let found = Contains-from_In (drop i xs) y m in
    let k = found.0 in
    let at : get_or xs (i + k) y ≡ y = sym (get_or-drop i xs k y) ∙ found.2 in
    let within : i + k < length xs = omega (arith, found.1, length-drop i xs) in
    let here : get_or xs i d ≡ get_or xs i y = get_or_default xs i d y (omega (arith, within)) in
    subst (λ (z : Lit). rank z ≤ rank y) (sym here) (subst (λ (z : Lit). rank (get_or xs i y) ≤ rank z) at (rise i (i + k) y (omega arith) within))

order_of : (x : Lit) (more : List Lit) → in_order (x ∷ more) ≡ put_lit x (in_order more)
unfolding in_order
order_of x more = refl

-- a literal that is less than those behind it comes first
order_first : (x : Lit) (more : List Lit) → ((y : Lit) → In y more → rank x < rank y) → in_order (x ∷ more) ≡ x ∷ in_order more
order_first x more below =
    rising_one (in_order (x ∷ more)) (x ∷ in_order more) (in_order_rises (x ∷ more)) ((λ y m. below y (from_order y more m)), in_order_rises more)
    (λ y m. ⊎_elim (λ e. inl e) (λ n. inr (into_order y more n)) (from_order y (x ∷ more) m))
    (λ y m. into_order y (x ∷ more) (⊎_elim (λ e. inl e) (λ n. inr (from_order y more n)) m))

pub last_order : (xs : List Lit) (i : ℕ) → IsNonDecreasingBy rank xs → i < length xs → length xs ≤ suc i → (d : Lit) → in_order (drop i xs) ≡ get_or xs i d ∷ in_order (drop (suc i) xs)
last_order xs i rise within end d =
    let none : drop (suc i) xs ≡ [] = drop_all (suc i) xs end in
    ap in_order (drop-cons xs i d within) ∙ order_first (get_or xs i d) (drop (suc i) xs) (λ y m. absurd (subst (λ ys. In y ys) none m))

pub less_order : (xs : List Lit) (i : ℕ) (next : Lit) → IsNonDecreasingBy rank xs → suc i < length xs → get_or xs (suc i) next ≡ next → (d : Lit) → (rank (get_or xs i d) ≡ rank next → ⊥) → in_order (drop i xs) ≡ get_or xs i d ∷ in_order (drop (suc i) xs)
less_order xs i next rise within is d apart =
    let x = get_or xs i d in
    let up : rank x ≤ rank next =
    subst (λ (z : Lit). rank z ≤ rank next) (get_or_default xs i next d (omega (arith, within))) (subst (λ (z : Lit). rank (get_or xs i next) ≤ rank z) is (rise i (suc i) next (omega arith) within)) in
    let less : rank x < rank next = ⊎_elim (λ l. l) (λ e. absurd (apart e)) (least_or_same (rank x) (rank next) up) in
    ap in_order (drop-cons xs i d (omega (arith, within)))
    ∙ order_first x (drop (suc i) xs) (λ y m. let more = far xs (suc i) next rise y m in let next_up : rank next ≤ rank y = subst (λ (z : Lit). rank z ≤ rank y) is more in omega (arith, less, next_up))

pub again_order : (xs : List Lit) (i : ℕ) (next : Lit) → suc i < length xs → get_or xs (suc i) next ≡ next → rank (get_or xs i next) ≡ rank next → in_order (drop i xs) ≡ in_order (drop (suc i) xs)
again_order xs i next within is same =
    let x = get_or xs i next in
    let more = drop (suc (suc i)) xs in
    let equal : x ≡ next = rank_one x next same in
    let rest : drop (suc i) xs ≡ next ∷ more = drop-cons xs (suc i) next within ∙ ap (λ (z : Lit). z ∷ more) is in
    ap in_order (drop-cons xs i next (omega (arith, within)))
    ∙ order_one (x ∷ drop (suc i) xs) (drop (suc i) xs)
    (λ y m. ⊎_elim (λ (e : x ≡ y). subst (λ ys. In y ys) (sym rest) (inl (sym equal ∙ e))) (λ n. n) m)
    (λ y m. inr m)

pub order_none : in_order [] ≡ []
unfolding in_order
order_none = refl
