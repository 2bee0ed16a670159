-- Literals of different variables that are sorted by variable are in order.
use Rattle.std.proofs.Common.{◌≡◌, ℕ, zero, suc, ◌+◌, ◌<◌, ◌≤◌, ◌==◌, Bool, true, false, not, ◌&&◌, List, [], ◌∷◌, length, refl, sym, ap, subst, ◌∙◌, ◌⊎◌, inl, inr, ⊎_elim, arith}
use Rattle.std.specs.Prelude.{if◌then◌else◌, IsTrue}
use Rattle.std.specs.List.{sum_by}
use Rattle.std.specs.List.Sorted.{IsNonDecreasingBy, IsPermutation}
use Rattle.std.proofs.lemmas.Bool.{cases_Bool, cond-true, cond-false, eqb-true, eqb-false, eq-eqb, and_parts}
use Rattle.std.proofs.lemmas.List.Sums.{sum_by-cons}
use Rattle.std.proofs.lemmas.List.Sorted.{sum_by-IsPermutation, IsPermutation-sym}
use Rattle.tel_base.specs.declared.literals.Lit.{Lit}
use Rattle.tel_base.proofs.Members.{In, Contains-from_In}
use Rattle.clause_store.specs.Held.{lacks, are_distinct, is_clause}
use Rattle.normal_program.specs.ModuleClauses.{rank, in_order}
use Rattle.completion.proofs.Orders.{Rises, rising_one, in_order_rises, into_order, from_order, permuted_order}

-- ---- how often a variable occurs

abbrev is_at : ℕ → Lit → ℕ
is_at v lit = if lit.var == v then 1 else 0

here : (v : ℕ) (lit : Lit) → lit.var ≡ v → is_at v lit ≡ 1
here v lit is = cond-true {A = ℕ} (lit.var == v) 1 0 (eq-eqb lit.var v is)

at_most : (v : ℕ) (lit : Lit) → is_at v lit ≤ 1
at_most v lit = ⊎_elim (λ (y : (lit.var == v) ≡ true). let e = cond-true {A = ℕ} (lit.var == v) 1 0 y in omega (arith, e)) (λ (n : (lit.var == v) ≡ false). let e = cond-false {A = ℕ} (lit.var == v) 1 0 n in omega (arith, e)) (cases_Bool (lit.var == v))

lacks_none : (v : ℕ) (lits : List Lit) → lacks v lits ≡ true → sum_by (is_at v) lits ≡ 0
lacks_none v [] h = refl
lacks_none v (lit ∷ more) h =
    let both = and_parts (not (lit.var == v)) (lacks v more) h in
    let other : (lit.var == v) ≡ false = ⊎_elim (λ (y : (lit.var == v) ≡ true). absurd (let e : false ≡ true = sym (ap not y) ∙ both.0 in cc)) (λ (n : (lit.var == v) ≡ false). n) (cases_Bool (lit.var == v)) in
    let none = cond-false {A = ℕ} (lit.var == v) 1 0 other in
    omega (arith, sum_by-cons (is_at v) lit more, none, lacks_none v more both.1)

distinct_once : (vars v : ℕ) (lits : List Lit) → are_distinct vars lits ≡ true → sum_by (is_at v) lits ≤ 1
distinct_once vars v [] d = omega arith
distinct_once vars v (lit ∷ more) d =
    let rest = and_parts (lacks lit.var more) (are_distinct vars more) (and_parts _ (lacks lit.var more && are_distinct vars more) d).1 in
    let whole = sum_by-cons (is_at v) lit more in
    ⊎_elim
    (λ (y : (lit.var == v) ≡ true).
    let same : lit.var ≡ v = eqb-true lit.var v y in
    let none : sum_by (is_at v) more ≡ 0 = lacks_none v more (subst (λ (w : ℕ). lacks w more ≡ true) same rest.0) in
    omega (arith, whole, none, at_most v lit))
    (λ (n : (lit.var == v) ≡ false). let none = cond-false {A = ℕ} (lit.var == v) 1 0 n in omega (arith, whole, none, distinct_once vars v more rest.1))
    (cases_Bool (lit.var == v))

found_some : (v : ℕ) (lit : Lit) (lits : List Lit) → In lit lits → lit.var ≡ v → 1 ≤ sum_by (is_at v) lits
found_some v lit [] i e = absurd i
found_some v lit (first ∷ more) i e =
    let whole = sum_by-cons (is_at v) first more in
    ⊎_elim
    (λ (s : first ≡ lit). let one = here v first (ap (λ (l : Lit). l.var) s ∙ e) in omega (arith, whole, one))
    (λ (m : In lit more). let rest = found_some v lit more m e in omega (arith, whole, rest))
    i

-- ---- sorted literals

abbrev var_of : Lit → ℕ
var_of lit = lit.var

rank_below : (a b : Lit) → a.var < b.var → rank a < rank b
rank_below a b less = below a.positive b.positive
  where
    lit : ℕ → Bool → Lit
    lit v p = record { var = v; positive = p }

    below : (p q : Bool) → rank (lit a.var p) < rank (lit b.var q)
    below true true = omega (arith, less)
    below true false = omega (arith, less)
    below false true = omega (arith, less)
    below false false = omega (arith, less)

rises_once : (lits : List Lit) → IsNonDecreasingBy var_of lits → ((v : ℕ) → sum_by (is_at v) lits ≤ 1) → Rises lits
rises_once [] rise once = tt
rises_once (x ∷ xs) rise once =
    let whole : (v : ℕ) → sum_by (is_at v) (x ∷ xs) ≡ is_at v x + sum_by (is_at v) xs = λ v. sum_by-cons (is_at v) x xs in
    let rest : IsNonDecreasingBy var_of xs = λ i j d le within. rise (suc i) (suc j) d (omega (arith, le)) (omega (arith, within)) in
    let least : (y : Lit) → In y xs → rank x < rank y =
    λ y m.
    let found = Contains-from_In xs y m in
    let up = rise 0 (suc found.0) y (omega arith) (omega (arith, found.1)) in
    let above : x.var ≤ y.var = subst (λ (z : Lit). x.var ≤ z.var) found.2 up in
    let apart : x.var ≡ y.var → ⊥ =
    λ e. let some = found_some x.var y xs m (sym e) in let one = here x.var x refl in let few = once x.var in let all = whole x.var in omega (arith, some, one, few, all) in
    let less : x.var < y.var = ⊎_elim (λ l. l) (λ e. absurd (apart e)) (less_or_same x.var y.var above) in
    rank_below x y less in
    (least, rises_once xs rest (λ v. let few = once v in let all = whole v in omega (arith, few, all)))
  where
    less_or_same : (m n : ℕ) → m ≤ n → (m < n) ⊎ (m ≡ n)
    less_or_same zero zero le = inr refl
    less_or_same zero (suc n) le = inl (omega arith)
    less_or_same (suc m) zero le = absurd (omega (arith, le))
    less_or_same (suc m) (suc n) le = ⊎_elim (λ (l : m < n). inl (omega (arith, l))) (λ (e : m ≡ n). inr (ap suc e)) (less_or_same m n (omega (arith, le)))

-- a rising list is in order
pub rising_order : (lits : List Lit) → Rises lits → in_order lits ≡ lits
rising_order lits rise = rising_one (in_order lits) lits (in_order_rises lits) rise (λ x i. from_order x lits i) (λ y i. into_order y lits i)

pub sorted_order : (vars : ℕ) (clause sorted : List Lit) → is_clause vars clause ≡ true → IsPermutation clause sorted → IsNonDecreasingBy (λ (lit : Lit). lit.var) sorted → sorted ≡ in_order clause
sorted_order vars clause sorted is moved rise =
    let distinct = (and_parts _ (are_distinct vars clause) is).1 in
    let once : (v : ℕ) → sum_by (is_at v) sorted ≤ 1 = λ v. let same = sum_by-IsPermutation (is_at v) clause sorted moved in let few = distinct_once vars v clause distinct in omega (arith, same, few) in
    sym (rising_order sorted (rises_once sorted rise once)) ∙ sym (permuted_order clause sorted moved)
