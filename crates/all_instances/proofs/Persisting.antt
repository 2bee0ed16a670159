-- Satisfaction over atoms of any kind: what (H, T) satisfies with H below T, (T, T) satisfies, and it looks only at instants below the length.
use Rattle.std.proofs.Common.{◌≡◌, ℕ, ◌+◌, ◌-◌, ◌<◌, Bool, true, false, not, ◌&&◌, ◌||◌, refl, ap, ap₂, ⊎_elim, arith}
use Rattle.std.specs.Prelude.{nat_lt, nat_le, IsTrue}
use Rattle.std.proofs.lemmas.Bool.{and_parts, and_from, or_cases, or_left, or_right, ltb-true, false≢true}
use Rattle.tel_semantics.specs.Traces.{each_below, some_below}
use Rattle.tel_semantics.specs.Formula.{FormulaOver, True, False, Atom, And, Or, Arrow, Previous, Since, Trigger, Next, Until, Release, negation}
use Rattle.tel_semantics.specs.Satisfaction.{sat}
use Rattle.tel_semantics.specs.Theory.{DemandOver, is_demanded, meets}
use Rattle.tel_semantics.proofs.Quantifiers.{each_below-at, each_below-all, each_below-same, some_below-same, each_below-weaker, some_below-weaker}

-- ---- persistence

abbrev pub Under : {X : Type 0} → ℕ → (ℕ → X → Bool) → (ℕ → X → Bool) → Type 0
Under {X} n H T = (k : ℕ) (a : X) → k < n → IsTrue (H k a) → IsTrue (T k a)

and_weaker : (a b x y : Bool) → (a ≡ true → x ≡ true) → (b ≡ true → y ≡ true) → (a && b) ≡ true → (x && y) ≡ true
and_weaker a b x y h i both = let p = and_parts a b both in and_from x y (h p.0) (i p.1)

or_weaker : (a b x y : Bool) → (a ≡ true → x ≡ true) → (b ≡ true → y ≡ true) → (a || b) ≡ true → (x || y) ≡ true
or_weaker a b x y h i either = ⊎_elim (λ p. or_left x y (h p)) (λ p. or_right x y (i p)) (or_cases a b either)

pub persists : {X : Type 0} (f : FormulaOver X) (n : ℕ) (H T : ℕ → X → Bool) → Under n H T → (k : ℕ) → k < n → IsTrue (sat f n H T k) → IsTrue (sat f n T T k)
persists True n H T d k l h = refl
persists False n H T d k l h = h
persists (Atom atom) n H T d k l h = d k atom l h
persists (And f g) n H T d k l h =
    and_weaker (sat f n H T k) (sat g n H T k) (sat f n T T k) (sat g n T T k) (persists f n H T d k l) (persists g n H T d k l) h
persists (Or f g) n H T d k l h =
    or_weaker (sat f n H T k) (sat g n H T k) (sat f n T T k) (sat g n T T k) (persists f n H T d k l) (persists g n H T d k l) h
persists (Arrow f g) n H T d k l h =
    let there = and_parts (not (sat f n H T k) || sat g n H T k) (not (sat f n T T k) || sat g n T T k) h in
    and_from (not (sat f n T T k) || sat g n T T k) (not (sat f n T T k) || sat g n T T k) there.1 there.1
persists (Previous f) n H T d k l h =
    and_weaker (nat_lt 0 k) (sat f n H T (k - 1)) (nat_lt 0 k) (sat f n T T (k - 1)) (λ p. p) (persists f n H T d (k - 1) (omega arith)) h
persists (Since f g) n H T d k l h =
    some_below-weaker (k + 1) (λ j. sat g n H T j && each_below (k + 1) (λ i. not (nat_lt j i) || sat f n H T i)) (λ j. sat g n T T j && each_below (k + 1) (λ i. not (nat_lt j i) || sat f n T T i)) (λ j below. and_weaker _ _ _ _ (persists g n H T d j (omega arith)) (each_below-weaker (k + 1) _ _ (λ i up. or_weaker (not (nat_lt j i)) (sat f n H T i) (not (nat_lt j i)) (sat f n T T i) (λ p. p) (persists f n H T d i (omega arith))))) h
persists (Trigger f g) n H T d k l h =
    each_below-weaker (k + 1) (λ j. sat g n H T j || some_below (k + 1) (λ i. nat_lt j i && sat f n H T i)) (λ j. sat g n T T j || some_below (k + 1) (λ i. nat_lt j i && sat f n T T i)) (λ j below. or_weaker _ _ _ _ (persists g n H T d j (omega arith)) (some_below-weaker (k + 1) _ _ (λ i up. and_weaker (nat_lt j i) (sat f n H T i) (nat_lt j i) (sat f n T T i) (λ p. p) (persists f n H T d i (omega arith))))) h
persists (Next f) n H T d k l h =
    let parts = and_parts (nat_lt (k + 1) n) (sat f n H T (k + 1)) h in
    and_from (nat_lt (k + 1) n) (sat f n T T (k + 1)) parts.0 (persists f n H T d (k + 1) (ltb-true (k + 1) n parts.0) parts.1)
persists (Until f g) n H T d k l h =
    some_below-weaker n (λ j. nat_le k j && (sat g n H T j && each_below j (λ i. not (nat_le k i) || sat f n H T i))) (λ j. nat_le k j && (sat g n T T j && each_below j (λ i. not (nat_le k i) || sat f n T T i))) (λ j below. and_weaker (nat_le k j) _ (nat_le k j) _ (λ p. p) (and_weaker _ _ _ _ (persists g n H T d j below) (each_below-weaker j _ _ (λ i up. or_weaker (not (nat_le k i)) (sat f n H T i) (not (nat_le k i)) (sat f n T T i) (λ p. p) (persists f n H T d i (omega arith)))))) h
persists (Release f g) n H T d k l h =
    each_below-weaker n (λ j. not (nat_le k j) || (sat g n H T j || some_below j (λ i. nat_le k i && sat f n H T i))) (λ j. not (nat_le k j) || (sat g n T T j || some_below j (λ i. nat_le k i && sat f n T T i))) (λ j below. or_weaker (not (nat_le k j)) _ (not (nat_le k j)) _ (λ p. p) (or_weaker _ _ _ _ (persists g n H T d j below) (some_below-weaker j _ _ (λ i up. and_weaker (nat_le k i) (sat f n H T i) (nat_le k i) (sat f n T T i) (λ p. p) (persists f n H T d i (omega arith)))))) h

negated_same : (here there : Bool) → (here ≡ true → there ≡ true) → ((not here || false) && (not there || false)) ≡ ((not there || false) && (not there || false))
negated_same true true h = refl
negated_same true false h = absurd (false≢true (h refl))
negated_same false true h = refl
negated_same false false h = refl

pub negation_there : {X : Type 0} (f : FormulaOver X) (n : ℕ) (H T : ℕ → X → Bool) → Under n H T → (k : ℕ) → k < n → sat (negation f) n H T k ≡ sat (negation f) n T T k
negation_there f n H T d k l = negated_same (sat f n H T k) (sat f n T T k) (persists f n H T d k l)

-- ---- instants below the length

abbrev pub Same : {X : Type 0} → ℕ → (ℕ → X → Bool) → (ℕ → X → Bool) → Type 0
Same {X} n S T = (k : ℕ) (a : X) → k < n → S k a ≡ T k a

guarded_same : (b x y : Bool) → (b ≡ true → x ≡ y) → (b && x) ≡ (b && y)
guarded_same true x y h = h refl
guarded_same false x y h = refl

pub sat-same : {X : Type 0} (f : FormulaOver X) (n : ℕ) (H T S U : ℕ → X → Bool) → Same n H S → Same n T U → (k : ℕ) → k < n → sat f n H T k ≡ sat f n S U k
sat-same True n H T S U d e k l = refl
sat-same False n H T S U d e k l = refl
sat-same (Atom atom) n H T S U d e k l = d k atom l
sat-same (And f g) n H T S U d e k l = ap₂ (λ a b. a && b) (sat-same f n H T S U d e k l) (sat-same g n H T S U d e k l)
sat-same (Or f g) n H T S U d e k l = ap₂ (λ a b. a || b) (sat-same f n H T S U d e k l) (sat-same g n H T S U d e k l)
sat-same (Arrow f g) n H T S U d e k l =
    ap₂ (λ a b. a && b) (ap₂ (λ a b. not a || b) (sat-same f n H T S U d e k l) (sat-same g n H T S U d e k l)) (ap₂ (λ a b. not a || b) (sat-same f n T T U U e e k l) (sat-same g n T T U U e e k l))
sat-same (Previous f) n H T S U d e k l =
    guarded_same (nat_lt 0 k) (sat f n H T (k - 1)) (sat f n S U (k - 1)) (λ _. sat-same f n H T S U d e (k - 1) (omega arith))
sat-same (Since f g) n H T S U d e k l =
    some_below-same (k + 1) _ _ (λ j below. ap₂ (λ a b. a && b) (sat-same g n H T S U d e j (omega arith)) (each_below-same (k + 1) _ _ (λ i up. ap (λ b. not (nat_lt j i) || b) (sat-same f n H T S U d e i (omega arith)))))
sat-same (Trigger f g) n H T S U d e k l =
    each_below-same (k + 1) _ _ (λ j below. ap₂ (λ a b. a || b) (sat-same g n H T S U d e j (omega arith)) (some_below-same (k + 1) _ _ (λ i up. ap (λ b. nat_lt j i && b) (sat-same f n H T S U d e i (omega arith)))))
sat-same (Next f) n H T S U d e k l =
    guarded_same (nat_lt (k + 1) n) (sat f n H T (k + 1)) (sat f n S U (k + 1)) (λ h. sat-same f n H T S U d e (k + 1) (ltb-true (k + 1) n h))
sat-same (Until f g) n H T S U d e k l =
    some_below-same n _ _ (λ j below. ap (λ b. nat_le k j && b) (ap₂ (λ a b. a && b) (sat-same g n H T S U d e j below) (each_below-same j _ _ (λ i up. ap (λ b. not (nat_le k i) || b) (sat-same f n H T S U d e i (omega arith))))))
sat-same (Release f g) n H T S U d e k l =
    each_below-same n _ _ (λ j below. ap (λ b. not (nat_le k j) || b) (ap₂ (λ a b. a || b) (sat-same g n H T S U d e j below) (some_below-same j _ _ (λ i up. ap (λ b. nat_le k i && b) (sat-same f n H T S U d e i (omega arith))))))

-- ---- demands

unless : (b c : Bool) → (b ≡ true → c ≡ true) → (not b || c) ≡ true
unless true c h = h refl
unless false c h = refl

unless_at : (b c : Bool) → (not b || c) ≡ true → b ≡ true → c ≡ true
unless_at true c h t = h
unless_at false c h t = absurd (false≢true t)

pub meets-at : {X : Type 0} (n : ℕ) (H T : ℕ → X → Bool) (demand : DemandOver X) → IsTrue (meets n H T demand) → (k : ℕ) → k < n → IsTrue (is_demanded demand.part n k) → IsTrue (sat demand.formula n H T k)
meets-at n H T demand met k l is =
    unless_at (is_demanded demand.part n k) (sat demand.formula n H T k) (each_below-at n (λ j. not (is_demanded demand.part n j) || sat demand.formula n H T j) met k l) is

pub meets-from : {X : Type 0} (n : ℕ) (H T : ℕ → X → Bool) (demand : DemandOver X) → ((k : ℕ) → k < n → IsTrue (is_demanded demand.part n k) → IsTrue (sat demand.formula n H T k)) → IsTrue (meets n H T demand)
meets-from n H T demand all =
    each_below-all n (λ j. not (is_demanded demand.part n j) || sat demand.formula n H T j) (λ k l. unless (is_demanded demand.part n k) (sat demand.formula n H T k) (all k l))

pub meets-same : {X : Type 0} (n : ℕ) (H T S U : ℕ → X → Bool) (demand : DemandOver X) → Same n H S → Same n T U → meets n H T demand ≡ meets n S U demand
meets-same n H T S U demand d e =
    each_below-same n (λ j. not (is_demanded demand.part n j) || sat demand.formula n H T j) (λ j. not (is_demanded demand.part n j) || sat demand.formula n S U j)
    (λ k l. ap (λ b. not (is_demanded demand.part n k) || b) (sat-same demand.formula n H T S U d e k l))
