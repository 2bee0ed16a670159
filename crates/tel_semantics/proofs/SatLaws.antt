-- Laws of satisfaction: it looks only at what is in range, it persists from (H, T) to (T, T), and a negation is judged in (T, T).
use Rattle.std.proofs.Common.{◌≡◌, ℕ, ◌+◌, ◌-◌, ◌<◌, Bool, true, false, not, ◌&&◌, ◌||◌, refl, ap, ⊎_elim, arith}
use Rattle.std.specs.Prelude.{nat_lt, nat_le, IsTrue}
use Rattle.std.proofs.lemmas.Bool.{and_parts, and_from, or_cases, or_left, or_right, ltb-true, false≢true}
use Rattle.tel_semantics.specs.Traces.{Test, each_below, some_below, Agree, IsBelow}
use Rattle.tel_semantics.specs.Formula.{Formula, True, False, Atom, And, Or, Arrow, Previous, Since, Trigger, Next, Until, Release, atoms_below, negation}
use Rattle.tel_semantics.specs.Satisfaction.{sat}
use Rattle.tel_semantics.proofs.Quantifiers.{each_below-same, some_below-same, each_below-weaker, some_below-weaker}

-- what stands behind a test that passes may be replaced by what is equal wherever it passes
guarded_same : (b x y : Bool) → (b ≡ true → x ≡ y) → (b && x) ≡ (b && y)
guarded_same true x y h = h refl
guarded_same false x y h = refl

unless_same : (b x y : Bool) → (b ≡ true → x ≡ y) → (not b || x) ≡ (not b || y)
unless_same true x y h = h refl
unless_same false x y h = refl

pub sat-agree : (f : Formula) (n count : ℕ) (H T S U : Test) → IsTrue (atoms_below count f) → Agree n count H S → Agree n count T U → (k : ℕ) → k < n → sat f n H T k ≡ sat f n S U k
sat-agree True n count H T S U a d e k l = refl
sat-agree False n count H T S U a d e k l = refl
sat-agree (Atom atom) n count H T S U a d e k l = d k atom l (ltb-true atom count a)
sat-agree (And f g) n count H T S U a d e k l =
    let both = and_parts (atoms_below count f) (atoms_below count g) a in
    let of_f = sat-agree f n count H T S U both.0 d e k l in
    let of_g = sat-agree g n count H T S U both.1 d e k l in
    cc
sat-agree (Or f g) n count H T S U a d e k l =
    let both = and_parts (atoms_below count f) (atoms_below count g) a in
    let of_f = sat-agree f n count H T S U both.0 d e k l in
    let of_g = sat-agree g n count H T S U both.1 d e k l in
    cc
sat-agree (Arrow f g) n count H T S U a d e k l =
    let both = and_parts (atoms_below count f) (atoms_below count g) a in
    let f_here = sat-agree f n count H T S U both.0 d e k l in
    let g_here = sat-agree g n count H T S U both.1 d e k l in
    let f_there = sat-agree f n count T T U U both.0 e e k l in
    let g_there = sat-agree g n count T T U U both.1 e e k l in
    cc
sat-agree (Previous f) n count H T S U a d e k l =
    guarded_same (nat_lt 0 k) (sat f n H T (k - 1)) (sat f n S U (k - 1)) (λ _. sat-agree f n count H T S U a d e (k - 1) (omega arith))
sat-agree (Since f g) n count H T S U a d e k l =
    let both = and_parts (atoms_below count f) (atoms_below count g) a in
    some_below-same (k + 1) (λ j. sat g n H T j && each_below (k + 1) (λ i. not (nat_lt j i) || sat f n H T i)) (λ j. sat g n S U j && each_below (k + 1) (λ i. not (nat_lt j i) || sat f n S U i)) (λ j below.
    let of_g = sat-agree g n count H T S U both.1 d e j (omega arith) in
    let of_f = each_below-same (k + 1) (λ i. not (nat_lt j i) || sat f n H T i) (λ i. not (nat_lt j i) || sat f n S U i) (λ i up. ap (λ (b : Bool). not (nat_lt j i) || b) (sat-agree f n count H T S U both.0 d e i (omega arith))) in
    cc)
sat-agree (Trigger f g) n count H T S U a d e k l =
    let both = and_parts (atoms_below count f) (atoms_below count g) a in
    each_below-same (k + 1) (λ j. sat g n H T j || some_below (k + 1) (λ i. nat_lt j i && sat f n H T i)) (λ j. sat g n S U j || some_below (k + 1) (λ i. nat_lt j i && sat f n S U i)) (λ j below.
    let of_g = sat-agree g n count H T S U both.1 d e j (omega arith) in
    let of_f = some_below-same (k + 1) (λ i. nat_lt j i && sat f n H T i) (λ i. nat_lt j i && sat f n S U i) (λ i up. ap (λ (b : Bool). nat_lt j i && b) (sat-agree f n count H T S U both.0 d e i (omega arith))) in
    cc)
sat-agree (Next f) n count H T S U a d e k l =
    guarded_same (nat_lt (k + 1) n) (sat f n H T (k + 1)) (sat f n S U (k + 1)) (λ h. sat-agree f n count H T S U a d e (k + 1) (ltb-true (k + 1) n h))
sat-agree (Until f g) n count H T S U a d e k l =
    let both = and_parts (atoms_below count f) (atoms_below count g) a in
    some_below-same n (λ j. nat_le k j && (sat g n H T j && each_below j (λ i. not (nat_le k i) || sat f n H T i))) (λ j. nat_le k j && (sat g n S U j && each_below j (λ i. not (nat_le k i) || sat f n S U i))) (λ j below.
    let of_g = sat-agree g n count H T S U both.1 d e j below in
    let of_f = each_below-same j (λ i. not (nat_le k i) || sat f n H T i) (λ i. not (nat_le k i) || sat f n S U i) (λ i up. ap (λ (b : Bool). not (nat_le k i) || b) (sat-agree f n count H T S U both.0 d e i (omega arith))) in
    cc)
sat-agree (Release f g) n count H T S U a d e k l =
    let both = and_parts (atoms_below count f) (atoms_below count g) a in
    each_below-same n (λ j. not (nat_le k j) || (sat g n H T j || some_below j (λ i. nat_le k i && sat f n H T i))) (λ j. not (nat_le k j) || (sat g n S U j || some_below j (λ i. nat_le k i && sat f n S U i))) (λ j below.
    let of_g = sat-agree g n count H T S U both.1 d e j below in
    let of_f = some_below-same j (λ i. nat_le k i && sat f n H T i) (λ i. nat_le k i && sat f n S U i) (λ i up. ap (λ (b : Bool). nat_le k i && b) (sat-agree f n count H T S U both.0 d e i (omega arith))) in
    cc)

-- a weaker answer behind the same test, and in a pair
and_weaker : (a b x y : Bool) → (a ≡ true → x ≡ true) → (b ≡ true → y ≡ true) → (a && b) ≡ true → (x && y) ≡ true
and_weaker a b x y h i both = let p = and_parts a b both in and_from x y (h p.0) (i p.1)

or_weaker : (a b x y : Bool) → (a ≡ true → x ≡ true) → (b ≡ true → y ≡ true) → (a || b) ≡ true → (x || y) ≡ true
or_weaker a b x y h i either = ⊎_elim (λ p. or_left x y (h p)) (λ p. or_right x y (i p)) (or_cases a b either)

pub sat-persists : (f : Formula) (n count : ℕ) (H T : Test) → IsTrue (atoms_below count f) → IsBelow n count H T → (k : ℕ) → k < n → IsTrue (sat f n H T k) → IsTrue (sat f n T T k)
sat-persists True n count H T a d k l h = refl
sat-persists False n count H T a d k l h = h
sat-persists (Atom atom) n count H T a d k l h = d k atom l (ltb-true atom count a) h
sat-persists (And f g) n count H T a d k l h =
    let both = and_parts (atoms_below count f) (atoms_below count g) a in
    and_weaker (sat f n H T k) (sat g n H T k) (sat f n T T k) (sat g n T T k) (sat-persists f n count H T both.0 d k l) (sat-persists g n count H T both.1 d k l) h
sat-persists (Or f g) n count H T a d k l h =
    let both = and_parts (atoms_below count f) (atoms_below count g) a in
    or_weaker (sat f n H T k) (sat g n H T k) (sat f n T T k) (sat g n T T k) (sat-persists f n count H T both.0 d k l) (sat-persists g n count H T both.1 d k l) h
sat-persists (Arrow f g) n count H T a d k l h =
    let there = and_parts (not (sat f n H T k) || sat g n H T k) (not (sat f n T T k) || sat g n T T k) h in
    and_from (not (sat f n T T k) || sat g n T T k) (not (sat f n T T k) || sat g n T T k) there.1 there.1
sat-persists (Previous f) n count H T a d k l h =
    and_weaker (nat_lt 0 k) (sat f n H T (k - 1)) (nat_lt 0 k) (sat f n T T (k - 1)) (λ p. p) (sat-persists f n count H T a d (k - 1) (omega arith)) h
sat-persists (Since f g) n count H T a d k l h =
    let both = and_parts (atoms_below count f) (atoms_below count g) a in
    some_below-weaker (k + 1) (λ j. sat g n H T j && each_below (k + 1) (λ i. not (nat_lt j i) || sat f n H T i)) (λ j. sat g n T T j && each_below (k + 1) (λ i. not (nat_lt j i) || sat f n T T i)) (λ j below. and_weaker _ _ _ _ (sat-persists g n count H T both.1 d j (omega arith)) (each_below-weaker (k + 1) _ _ (λ i up. or_weaker (not (nat_lt j i)) (sat f n H T i) (not (nat_lt j i)) (sat f n T T i) (λ p. p) (sat-persists f n count H T both.0 d i (omega arith))))) h
sat-persists (Trigger f g) n count H T a d k l h =
    let both = and_parts (atoms_below count f) (atoms_below count g) a in
    each_below-weaker (k + 1) (λ j. sat g n H T j || some_below (k + 1) (λ i. nat_lt j i && sat f n H T i)) (λ j. sat g n T T j || some_below (k + 1) (λ i. nat_lt j i && sat f n T T i)) (λ j below. or_weaker _ _ _ _ (sat-persists g n count H T both.1 d j (omega arith)) (some_below-weaker (k + 1) _ _ (λ i up. and_weaker (nat_lt j i) (sat f n H T i) (nat_lt j i) (sat f n T T i) (λ p. p) (sat-persists f n count H T both.0 d i (omega arith))))) h
sat-persists (Next f) n count H T a d k l h =
    let parts = and_parts (nat_lt (k + 1) n) (sat f n H T (k + 1)) h in
    and_from (nat_lt (k + 1) n) (sat f n T T (k + 1)) parts.0 (sat-persists f n count H T a d (k + 1) (ltb-true (k + 1) n parts.0) parts.1)
sat-persists (Until f g) n count H T a d k l h =
    let both = and_parts (atoms_below count f) (atoms_below count g) a in
    some_below-weaker n (λ j. nat_le k j && (sat g n H T j && each_below j (λ i. not (nat_le k i) || sat f n H T i))) (λ j. nat_le k j && (sat g n T T j && each_below j (λ i. not (nat_le k i) || sat f n T T i))) (λ j below. and_weaker (nat_le k j) _ (nat_le k j) _ (λ p. p) (and_weaker _ _ _ _ (sat-persists g n count H T both.1 d j below) (each_below-weaker j _ _ (λ i up. or_weaker (not (nat_le k i)) (sat f n H T i) (not (nat_le k i)) (sat f n T T i) (λ p. p) (sat-persists f n count H T both.0 d i (omega arith)))))) h
sat-persists (Release f g) n count H T a d k l h =
    let both = and_parts (atoms_below count f) (atoms_below count g) a in
    each_below-weaker n (λ j. not (nat_le k j) || (sat g n H T j || some_below j (λ i. nat_le k i && sat f n H T i))) (λ j. not (nat_le k j) || (sat g n T T j || some_below j (λ i. nat_le k i && sat f n T T i))) (λ j below. or_weaker (not (nat_le k j)) _ (not (nat_le k j)) _ (λ p. p) (or_weaker _ _ _ _ (sat-persists g n count H T both.1 d j below) (some_below-weaker j _ _ (λ i up. and_weaker (nat_le k i) (sat f n H T i) (nat_le k i) (sat f n T T i) (λ p. p) (sat-persists f n count H T both.0 d i (omega arith)))))) h

-- with here below there, a negation is the same in both
negated_same : (here there : Bool) → (here ≡ true → there ≡ true) → ((not here || false) && (not there || false)) ≡ ((not there || false) && (not there || false))
negated_same true true h = refl
negated_same true false h = absurd (false≢true (h refl))
negated_same false true h = refl
negated_same false false h = refl

pub sat-negation : (f : Formula) (n count : ℕ) (H T : Test) → IsTrue (atoms_below count f) → IsBelow n count H T → (k : ℕ) → k < n → sat (negation f) n H T k ≡ sat (negation f) n T T k
sat-negation f n count H T a d k l = negated_same (sat f n H T k) (sat f n T T k) (sat-persists f n count H T a d k l)
