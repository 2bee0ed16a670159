-- Each clause that is not absorbed leaves fewer.
use Rattle.std.proofs.Common.{◌≡◌, ℕ, zero, suc, ◌+◌, ◌*◌, ◌^◌, ◌≤◌, ◌<◌, Bool, true, false, cond, ◌||◌, List, ◌∷◌, map, refl, sym, subst, ◌∙◌, ⊎_elim, arith}
use Rattle.std.specs.Prelude.{◌==◌}
use Rattle.std.specs.List.{list_any}
use Rattle.std.proofs.lemmas.Bool.{cases_Bool, cond-true, cond-false, eq-eqb, eqb-true, cases_order, or_left}
use Rattle.std.proofs.Math.Nat.{pow-succ'}
use Rattle.tel_base.specs.declared.literals.Lit.{Lit}
use Rattle.tel_base.specs.Literals.{lit_of, negate}
use Rattle.clause_store.specs.Closure.{In, Clause, same_lit, Absorbed}
use Rattle.clause_store.specs.Counts.{has_lit, digit, code, unused, left_over, IsBelow}
use Rattle.tel_base.proofs.Members.{In-map_from, any_found, any_from}
use Rattle.clause_store.proofs.Closures.{same_lit-true, same_lit-self}
use Rattle.clause_store.proofs.Free.{held_is_absorbed}

then_is : (b : Bool) (x y : ℕ) → b ≡ true → cond b x y ≡ x
then_is b x y t = cond-true b x y t

else_is : (b : Bool) (x y : ℕ) → b ≡ false → cond b x y ≡ y
else_is b x y f = cond-false b x y f

digit_small : (v : ℕ) (clause : Clause) → digit v clause < 3
digit_small v clause =
    let inner : ℕ = cond (has_lit (negate (lit_of v)) clause) 2 0 in
    ⊎_elim (λ (a : has_lit (lit_of v) clause ≡ true). omega (arith, then_is (has_lit (lit_of v) clause) 1 inner a)) (λ (a : has_lit (lit_of v) clause ≡ false).
    ⊎_elim (λ (b : has_lit (negate (lit_of v)) clause ≡ true). omega (arith, else_is (has_lit (lit_of v) clause) 1 inner a, then_is (has_lit (negate (lit_of v)) clause) 2 0 b)) (λ (b : has_lit (negate (lit_of v)) clause ≡ false). omega (arith, else_is (has_lit (lit_of v) clause) 1 inner a, else_is (has_lit (negate (lit_of v)) clause) 2 0 b)) (cases_Bool (has_lit (negate (lit_of v)) clause))) (cases_Bool (has_lit (lit_of v) clause))

step_down : (a b x y : ℕ) → x < 3 → y < 3 → 3 * a + x ≡ 3 * b + y → (a ≡ b) × (x ≡ y)
step_down a b x y l m e = (omega (arith, l, m, e), omega (arith, l, m, e))

same_digits : (v : ℕ) (c d : Clause) → code v c ≡ code v d → (u : ℕ) → u < v → digit u c ≡ digit u d
same_digits zero c d e u l = absurd (omega (arith, l))
same_digits (suc v) c d e u l =
    let p = step_down (code v c) (code v d) (digit v c) (digit v d) (digit_small v c) (digit_small v d) e in
    ⊎_elim (λ (s : u ≡ v). subst (λ (w : ℕ). digit w c ≡ digit w d) (sym s) p.1) (λ apart. ⊎_elim (λ (m : u < v). same_digits v c d p.0 u m) (λ (m : v < u). absurd (omega (arith, m, l))) apart) (cases_order u v)

code_small : (v : ℕ) (c : Clause) → code v c < 3 ^ v
code_small zero c = omega arith
code_small (suc v) c =
    let h = code_small v c in
    let d = digit_small v c in
    let p : 3 ^ suc v ≡ 3 * 3 ^ v = pow-succ' 3 v in
    omega (arith, h, d, p)

-- the literals of a clause, by its digits
has_from : (lit : Lit) (clause : Clause) → In lit clause → has_lit lit clause ≡ true
has_from lit clause i = any_from (same_lit lit) clause lit i (same_lit-self lit)

from_has : (lit : Lit) (clause : Clause) → has_lit lit clause ≡ true → In lit clause
from_has lit clause h = let w = any_found (same_lit lit) clause h in subst (λ (k : Lit). In k clause) (sym (same_lit-true lit w.0 w.2)) w.1

digit_yes : (v : ℕ) (clause : Clause) → has_lit (lit_of v) clause ≡ true → digit v clause ≡ 1
digit_yes v clause h = then_is (has_lit (lit_of v) clause) 1 (cond (has_lit (negate (lit_of v)) clause) 2 0) h

digit_no : (v : ℕ) (clause : Clause) → has_lit (lit_of v) clause ≡ false → has_lit (negate (lit_of v)) clause ≡ true → digit v clause ≡ 2
digit_no v clause f h = else_is (has_lit (lit_of v) clause) 1 (cond (has_lit (negate (lit_of v)) clause) 2 0) f ∙ then_is (has_lit (negate (lit_of v)) clause) 2 0 h

digit_none : (v : ℕ) (clause : Clause) → has_lit (lit_of v) clause ≡ false → has_lit (negate (lit_of v)) clause ≡ false → digit v clause ≡ 0
digit_none v clause f h = else_is (has_lit (lit_of v) clause) 1 (cond (has_lit (negate (lit_of v)) clause) 2 0) f ∙ else_is (has_lit (negate (lit_of v)) clause) 2 0 h

one_yes : (v : ℕ) (clause : Clause) → digit v clause ≡ 1 → has_lit (lit_of v) clause ≡ true
one_yes v clause e =
    ⊎_elim (λ (a : has_lit (lit_of v) clause ≡ true). a) (λ (a : has_lit (lit_of v) clause ≡ false). ⊎_elim (λ (b : has_lit (negate (lit_of v)) clause ≡ true). absurd (omega (arith, e, digit_no v clause a b))) (λ (b : has_lit (negate (lit_of v)) clause ≡ false). absurd (omega (arith, e, digit_none v clause a b))) (cases_Bool (has_lit (negate (lit_of v)) clause))) (cases_Bool (has_lit (lit_of v) clause))

two_no : (v : ℕ) (clause : Clause) → digit v clause ≡ 2 → has_lit (negate (lit_of v)) clause ≡ true
two_no v clause e =
    ⊎_elim (λ (a : has_lit (lit_of v) clause ≡ true). absurd (omega (arith, e, digit_yes v clause a))) (λ (a : has_lit (lit_of v) clause ≡ false). ⊎_elim (λ (b : has_lit (negate (lit_of v)) clause ≡ true). b) (λ (b : has_lit (negate (lit_of v)) clause ≡ false). absurd (omega (arith, e, digit_none v clause a b))) (cases_Bool (has_lit (negate (lit_of v)) clause))) (cases_Bool (has_lit (lit_of v) clause))

sign_same : (c d : Clause) (v : ℕ) (positive : Bool) → ((lit : Lit) → In lit c → In (negate lit) c → ⊥) → digit v c ≡ digit v d → In (record { var = v; positive = positive }) c → In (record { var = v; positive = positive }) d
sign_same c d v true apart e i = from_has (lit_of v) d (one_yes v d (sym e ∙ digit_yes v c (has_from (lit_of v) c i)))
sign_same c d v false apart e i =
    let none : has_lit (lit_of v) c ≡ false = ⊎_elim (λ (t : has_lit (lit_of v) c ≡ true). absurd (apart (lit_of v) (from_has (lit_of v) c t) i)) (λ f. f) (cases_Bool (has_lit (lit_of v) c)) in
    from_has (negate (lit_of v)) d (two_no v d (sym e ∙ digit_no v c none (has_from (negate (lit_of v)) c i)))

pub code_same : (v : ℕ) (c d : Clause) → IsBelow v c → code v c ≡ code v d → (lit : Lit) → In lit c → In lit d
code_same v c d is e lit i = sign_same c d lit.var lit.positive is.apart (same_digits v c d e lit.var (is.below lit i)) i

-- one number more in the list
unused_same : (codes : List ℕ) (c k : ℕ) → k ≤ c → unused (c ∷ codes) k ≡ unused codes k
unused_same codes c zero l = refl
unused_same codes c (suc k) l =
    let other : (c == k) ≡ false = ⊎_elim (λ (e : (c == k) ≡ true). absurd (omega (arith, eqb-true c k e, l))) (λ f. f) (cases_Bool (c == k)) in
    let rest = unused_same codes c k (omega (arith, l)) in
    λ i. rest i + cond (other i || list_any (λ x. x == k) codes) 0 1

unused_fewer : (codes : List ℕ) (c k : ℕ) → c < k → list_any (λ x. x == c) codes ≡ false → unused (c ∷ codes) k < unused codes k
unused_fewer codes c zero l fresh = absurd (omega (arith, l))
unused_fewer codes c (suc k) l fresh =
    ⊎_elim (λ (e : c ≡ k).
    let same = unused_same codes c k (omega (arith, e)) in
    let old : cond {A = ℕ} (list_any (λ x. x == k) codes) 0 1 ≡ 1 = else_is (list_any (λ x. x == k) codes) 0 1 (subst (λ (u : ℕ). list_any (λ x. x == u) codes ≡ false) e fresh) in
    let new : cond {A = ℕ} ((c == k) || list_any (λ x. x == k) codes) 0 1 ≡ 0 = then_is ((c == k) || list_any (λ x. x == k) codes) 0 1 (or_left (c == k) (list_any (λ x. x == k) codes) (eq-eqb c k e)) in
    omega (arith, same, old, new)) (λ apart.
    let other : (c == k) ≡ false = ⊎_elim (λ (t : (c == k) ≡ true). absurd (⊎_elim (λ (m : c < k). omega (arith, m, eqb-true c k t)) (λ (m : k < c). omega (arith, m, eqb-true c k t)) apart)) (λ f. f) (cases_Bool (c == k)) in
    let less : c < k = ⊎_elim (λ (m : c < k). m) (λ (m : k < c). absurd (omega (arith, m, l))) apart in
    let rest = unused_fewer codes c k less fresh in
    let same : cond {A = ℕ} ((c == k) || list_any (λ x. x == k) codes) 0 1 ≡ cond {A = ℕ} (list_any (λ x. x == k) codes) 0 1 = λ i. cond (other i || list_any (λ x. x == k) codes) 0 1 in
    omega (arith, rest, same)) (cases_order c k)

unused_most : (codes : List ℕ) (k : ℕ) → unused codes k ≤ k
unused_most codes zero = omega arith
unused_most codes (suc k) =
    let rest = unused_most codes k in
    let any = list_any (λ x. x == k) codes in
    ⊎_elim (λ (t : any ≡ true). omega (arith, rest, then_is any 0 1 t)) (λ (f : any ≡ false). omega (arith, rest, else_is any 0 1 f)) (cases_Bool any)

pub at_most_left : (v : ℕ) (clauses : List Clause) → left_over v clauses ≤ 3 ^ v
at_most_left v clauses = unused_most (map (code v) clauses) (3 ^ v)

pub fewer_left : (v : ℕ) (clauses : List Clause) (clause : Clause) → ((held : Clause) → In held clauses → IsBelow v held) → IsBelow v clause → (Absorbed clauses clause → ⊥) → left_over v (clause ∷ clauses) < left_over v clauses
fewer_left v clauses clause all is free =
    let codes = map (code v) clauses in
    unused_fewer codes (code v clause) (3 ^ v) (code_small v clause) (⊎_elim (λ (t : list_any (λ x. x == code v clause) codes ≡ true).
    let w = any_found (λ x. x == code v clause) codes t in
    let h = In-map_from (code v) w.0 clauses w.1 in
    let e : code v h.0 ≡ code v clause = h.2 ∙ eqb-true w.0 (code v clause) w.2 in
    absurd (free (held_is_absorbed clauses h.0 clause h.1 (code_same v h.0 clause (all h.0 h.1) e) (code_same v clause h.0 is (sym e))))) (λ f. f) (cases_Bool (list_any (λ x. x == code v clause) codes)))
