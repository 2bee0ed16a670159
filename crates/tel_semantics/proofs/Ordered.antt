-- The list of a length strictly rises in the order of traces.
use Rattle.std.proofs.Common.{◌≡◌, ℕ, ◌+◌, ◌<◌, ◌≤◌, zero, suc, Bool, true, false, ◌||◌, cond, List, [], ◌∷◌, ◌++◌, length, get_or, map, refl, sym, ap, subst, ◌∙◌, inl, inr, ⊎_elim, arith}
use Rattle.std.specs.Prelude.{◌==◌}
use Rattle.std.specs.List.{filter, flat_map, range_with_len, AllPairs}
use Rattle.std.proofs.lemmas.Bool.{or_cases, eq-eqb, ne_eqb, eqb-true, or_left, false_from_ne_true}
use Rattle.tel_rule.specs.Ground.{Ground}
use Rattle.tel_semantics.specs.Traces.{is_member, test_of}
use Rattle.tel_semantics.specs.Lists.{subsets, all_traces}
use Rattle.tel_semantics.specs.Equilibrium.{tem, list_of}
use Rattle.tel_semantics.specs.Order.{Precedes}
use Rattle.tel_base.proofs.Members.{In, In-append_cases, In-map_from, In-flat_map_from, In-filter_from}
use Rattle.tel_semantics.proofs.Below.{RisesWithin, RisesWithin-subsets, list_of-suc}

-- R holds of each element and each later one
abbrev pub Ordered : {X : Type 0} → (X → X → Type 0) → List X → Type 0
Ordered R [] = Unit {0}
Ordered {X} R (x ∷ xs) = ((y : X) → In y xs → R x y) × Ordered R xs

Ordered-append : {X : Type 0} (R : X → X → Type 0) (xs ys : List X) → Ordered R xs → Ordered R ys → ((x y : X) → In x xs → In y ys → R x y) → Ordered R (xs ++ ys)
Ordered-append R [] ys o p h = p
Ordered-append R (x ∷ xs) ys o p h =
    (λ y i. ⊎_elim (λ l. o.0 y l) (λ r. h x y (inl refl) r) (In-append_cases y xs ys i), Ordered-append R xs ys o.1 p (λ a b i j. h a b (inr i) j))

Ordered-map : {X Y : Type 0} (R : X → X → Type 0) (S : Y → Y → Type 0) (f : X → Y) (xs : List X) → ((x y : X) → In x xs → In y xs → R x y → S (f x) (f y)) → Ordered R xs → Ordered S (map f xs)
Ordered-map R S f [] h o = tt
Ordered-map R S f (x ∷ xs) h o =
    (λ y i. let w = In-map_from f y xs i in subst (λ z. S (f x) z) w.2 (h x w.0 (inl refl) (inr w.1) (o.0 w.0 w.1)), Ordered-map R S f xs (λ a b i j. h a b (inr i) (inr j)) o.1)

Ordered-flat_map : {X Y : Type 0} (R : X → X → Type 0) (S : Y → Y → Type 0) (f : X → List Y) (xs : List X) → Ordered R xs → ((x : X) → Ordered S (f x)) → ((x y : X) (a b : Y) → R x y → In a (f x) → In b (f y) → S a b) → Ordered S (flat_map f xs)
Ordered-flat_map R S f [] o each across = tt
Ordered-flat_map R S f (x ∷ xs) o each across =
    Ordered-append S (f x) (flat_map f xs) (each x) (Ordered-flat_map R S f xs o.1 each across) (λ a b i j. let w = In-flat_map_from f b xs j in across x w.0 a b (o.0 w.0 w.1) i w.2)

Ordered-filter : {X : Type 0} (R : X → X → Type 0) (p : X → Bool) (xs : List X) → Ordered R xs → Ordered R (filter p xs)
Ordered-filter R p [] o = tt
Ordered-filter R p (x ∷ xs) o =
    let rest = Ordered-filter R p xs o.1 in
    elim (p x) as (λ b. Ordered R (cond b (x ∷ filter p xs) (filter p xs))) [ true ↦ (λ y i. o.0 y (In-filter_from p y xs i).0, rest) | false ↦ rest ]

In-at : {X : Type 0} (xs : List X) (i : ℕ) (d : X) → i < length xs → In (get_or xs i d) xs
In-at [] i d l = absurd (omega arith)
In-at (x ∷ xs) zero d l = inl refl
In-at (x ∷ xs) (suc i) d l = inr (In-at xs i d (omega arith))

pairs_from_Ordered : {X : Type 0} (R : X → X → Type 0) (xs : List X) → Ordered R xs → (i j : ℕ) (d : X) → i < j → j < length xs → R (get_or xs i d) (get_or xs j d)
pairs_from_Ordered R [] o i j d l m = absurd (omega arith)
pairs_from_Ordered R (x ∷ xs) o i zero d l m = absurd (omega arith)
pairs_from_Ordered R (x ∷ xs) o zero (suc j) d l m = o.0 (get_or xs j d) (In-at xs j d (omega arith))
pairs_from_Ordered R (x ∷ xs) o (suc i) (suc j) d l m = pairs_from_Ordered R xs o.1 i j d (omega arith) (omega arith)

-- one state comes before another: at the first atom where they differ it is false in the first and true in the second
record StateBefore (first second : List ℕ) (atom : ℕ) : Type 0 where
  is_false : is_member first atom ≡ false
  is_true : is_member second atom ≡ true
  same : (earlier : ℕ) → earlier < atom → is_member first earlier ≡ is_member second earlier

abbrev Earlier : List ℕ → List ℕ → Type 0
Earlier first second = (atom : ℕ) × StateBefore first second atom

member_within : (low high : ℕ) (xs : List ℕ) (atom : ℕ) → RisesWithin low high xs → is_member xs atom ≡ true → low ≤ atom
member_within low high [] atom h m = absurd (cc)
member_within low high (x ∷ xs) atom h m =
    ⊎_elim (λ e. let same = eqb-true x atom e in omega (arith, h.0)) (λ r. let more = member_within (x + 1) high xs atom h.2 r in omega (arith, h.0)) (or_cases (x == atom) (is_member xs atom) m)

not_within : (low high : ℕ) (xs : List ℕ) (atom : ℕ) → RisesWithin low high xs → atom < low → is_member xs atom ≡ false
not_within low high xs atom h l =
    false_from_ne_true (is_member xs atom) (λ m. let above = member_within low high xs atom h m in absurd (omega arith))

subsets_ordered : (n low : ℕ) → Ordered Earlier (subsets (range_with_len low n))
subsets_ordered zero low = (λ y i. absurd i, tt)
subsets_ordered (suc n) low =
    let more = subsets (range_with_len (low + 1) n) in
    let rest = subsets_ordered n (low + 1) in
    let high = low + 1 + n in
    let within = λ (s : List ℕ) (i : In s more). RisesWithin-subsets n (low + 1) high s refl i in
    let second = Ordered-map Earlier Earlier (λ (s : List ℕ). low ∷ s) more (λ s t i j e. let above = member_within (low + 1) high t e.0 (within t j) e.1.is_true in let other : (low == e.0) ≡ false = ne_eqb low e.0 (λ same. absurd (omega arith)) in (e.0, record { is_false = ap (λ (b : Bool). b || is_member s e.0) other ∙ e.1.is_false; is_true = ap (λ (b : Bool). b || is_member t e.0) other ∙ e.1.is_true; same = λ earlier l. ap (λ (b : Bool). (low == earlier) || b) (e.1.same earlier l) })) rest in
    Ordered-append Earlier more (map (λ (s : List ℕ). low ∷ s) more) rest second (λ s t i j. let w = In-map_from (λ (u : List ℕ). low ∷ u) t more j in subst (λ (u : List ℕ). Earlier s u) w.2 (low, record { is_false = not_within (low + 1) high s low (within s i) (omega arith); is_true = or_left (low == low) (is_member w.0 low) (eq-eqb low low refl); same = λ earlier l. not_within (low + 1) high s earlier (within s i) (omega arith) ∙ sym (ap (λ (b : Bool). b || is_member w.0 earlier) (ne_eqb low earlier (λ same. absurd (omega arith))) ∙ not_within (low + 1) high w.0 earlier (within w.0 w.1) (omega arith)) }))

-- one more equal state in front moves the place of the difference on
before_or_same : (state : List ℕ) (first second : List (List ℕ)) (k : ℕ) → ((earlier : ℕ) → earlier < k → (other : ℕ) → test_of first earlier other ≡ test_of second earlier other) → (earlier : ℕ) → earlier < suc k → (other : ℕ) → test_of (state ∷ first) earlier other ≡ test_of (state ∷ second) earlier other
before_or_same state first second k h zero l other = refl
before_or_same state first second k h (suc earlier) l other = h earlier (omega arith) other

Precedes-cons : (state : List ℕ) (first second : List (List ℕ)) → Precedes first second → Precedes (state ∷ first) (state ∷ second)
Precedes-cons state first second p =
    (suc p.0, p.1, record { is_false = p.2.is_false; is_true = p.2.is_true; same_state = p.2.same_state; same_before = before_or_same state first second p.0 p.2.same_before })

Precedes-first : (s t : List ℕ) (first second : List (List ℕ)) → Earlier s t → Precedes (s ∷ first) (t ∷ second)
Precedes-first s t first second e =
    (0, e.0, record { is_false = e.1.is_false; is_true = e.1.is_true; same_state = e.1.same; same_before = λ earlier l other. absurd (omega arith) })

all_traces_ordered : (count n : ℕ) → Ordered Precedes (all_traces count n)
all_traces_ordered count zero = (λ y i. absurd i, tt)
all_traces_ordered count (suc n) =
    let rest = all_traces count n in
    let more = all_traces_ordered count n in
    Ordered-flat_map Earlier Precedes (λ (s : List ℕ). map (λ (trace : List (List ℕ)). s ∷ trace) rest) (subsets (range_with_len 0 count)) (subsets_ordered count 0) (λ s. Ordered-map Precedes Precedes (λ (trace : List (List ℕ)). s ∷ trace) rest (λ t u i j p. Precedes-cons s t u p) more) (λ s t a b e i j. let v = In-map_from (λ (trace : List (List ℕ)). s ∷ trace) a rest i in let w = In-map_from (λ (trace : List (List ℕ)). t ∷ trace) b rest j in subst (λ (x : List (List ℕ)). Precedes x b) v.2 (subst (λ (y : List (List ℕ)). Precedes (s ∷ v.0) y) w.2 (Precedes-first s t v.0 w.0 e)))

list_of_ordered : (program : Ground) (n : ℕ) → Ordered Precedes (list_of program n)
list_of_ordered program zero = tt
list_of_ordered program (suc n) =
    subst (λ (traces : List (List (List ℕ))). Ordered Precedes traces) (sym (list_of-suc program n)) (Ordered-filter Precedes (tem program (suc n)) (all_traces (length program.atoms) (suc n)) (all_traces_ordered (length program.atoms) (suc n)))

pub list_of-rises : (program : Ground) (n : ℕ) → AllPairs Precedes (list_of program n)
list_of-rises program n = pairs_from_Ordered Precedes (list_of program n) (list_of_ordered program n)
