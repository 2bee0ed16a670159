-- What is in the list of the subsets of a state, and in the list of the traces below a trace.
use Rattle.std.proofs.Common.{◌≡◌, ℕ, ◌+◌, ◌<◌, ◌≤◌, zero, suc, true, List, [], ◌∷◌, length, map, refl, sym, ap, subst, inl, ⊎_elim, arith}
use Rattle.std.specs.Prelude.{nat_lt, ◌==◌}
use Rattle.std.specs.List.{filter, list_all, range_with_len}
use Rattle.std.proofs.lemmas.Bool.{cond-false, ne_eqb, and_parts, and_from, cases_order, ltb-true, lt-ltb}
use Rattle.tel_rule.specs.Ground.{Ground}
use Rattle.tel_semantics.specs.Equilibrium.{tem, list_of}
use Rattle.tel_rule.specs.Rising.{numbers_rise}
use Rattle.tel_semantics.specs.Traces.{is_state}
use Rattle.tel_semantics.specs.Lists.{subsets, traces_below, full_trace, all_traces}
use Rattle.tel_base.proofs.Members.{In, In-append_left, In-append_right, In-append_cases, In-map, In-map_from, In-flat_map, In-flat_map_from}

-- a list that rises strictly from `low` on and stays below `high`
abbrev pub RisesWithin : ℕ → ℕ → List ℕ → Type 0
RisesWithin low high [] = Unit {0}
RisesWithin low high (x ∷ xs) = (low ≤ x) × (x < high) × RisesWithin (x + 1) high xs

pub RisesWithin-lower : (low lower high : ℕ) (xs : List ℕ) → lower ≤ low → RisesWithin low high xs → RisesWithin lower high xs
RisesWithin-lower low lower high [] l h = tt
RisesWithin-lower low lower high (x ∷ xs) l h = (omega (arith, h.0), h.1, h.2)

pub RisesWithin-rise : (low high : ℕ) (xs : List ℕ) → RisesWithin low high xs → numbers_rise xs ≡ true
RisesWithin-rise low high [] h = refl
RisesWithin-rise low high (x ∷ []) h = refl
RisesWithin-rise low high (x ∷ y ∷ xs) h =
    and_from (nat_lt x y) (numbers_rise (y ∷ xs)) (lt-ltb x y (omega (arith, h.2.0))) (RisesWithin-rise (x + 1) high (y ∷ xs) h.2)

pub RisesWithin-all : (low high : ℕ) (xs : List ℕ) → RisesWithin low high xs → list_all (λ atom. nat_lt atom high) xs ≡ true
RisesWithin-all low high [] h = refl
RisesWithin-all low high (x ∷ xs) h =
    and_from (nat_lt x high) (list_all (λ atom. nat_lt atom high) xs) (lt-ltb x high h.1) (RisesWithin-all (x + 1) high xs h.2)

rises_from : (x high : ℕ) (xs : List ℕ) → numbers_rise (x ∷ xs) ≡ true → list_all (λ atom. nat_lt atom high) (x ∷ xs) ≡ true → RisesWithin x high (x ∷ xs)
rises_from x high [] r a =
    let both = and_parts (nat_lt x high) true a in
    (omega arith, ltb-true x high both.0, tt)
rises_from x high (y ∷ xs) r a =
    let below = and_parts (nat_lt x high) (list_all (λ atom. nat_lt atom high) (y ∷ xs)) a in
    let rise = and_parts (nat_lt x y) (numbers_rise (y ∷ xs)) r in
    let more = rises_from y high xs rise.1 below.1 in
    (omega arith, ltb-true x high below.0, RisesWithin-lower y (x + 1) high (y ∷ xs) (omega (arith, ltb-true x y rise.0)) more)

pub RisesWithin-state : (count : ℕ) (state : List ℕ) → is_state count state ≡ true → RisesWithin 0 count state
RisesWithin-state count [] h = tt
RisesWithin-state count (x ∷ xs) h =
    let both = and_parts (numbers_rise (x ∷ xs)) (list_all (λ atom. nat_lt atom count) (x ∷ xs)) h in
    RisesWithin-lower x 0 count (x ∷ xs) (omega arith) (rises_from x count xs both.0 both.1)

pub state-from_RisesWithin : (count : ℕ) (state : List ℕ) → RisesWithin 0 count state → is_state count state ≡ true
state-from_RisesWithin count state h =
    and_from (numbers_rise state) (list_all (λ atom. nat_lt atom count) state) (RisesWithin-rise 0 count state h) (RisesWithin-all 0 count state h)

-- the subsets of the numbers from `low` on are the lists that rise within them
pub RisesWithin-subsets : (n low high : ℕ) (state : List ℕ) → high ≡ low + n → In state (subsets (range_with_len low n)) → RisesWithin low high state
RisesWithin-subsets zero low high state e h = ⊎_elim (λ s. subst (λ (xs : List ℕ). RisesWithin low high xs) s tt) (λ f. absurd f) h
RisesWithin-subsets (suc n) low high state e h =
    let more = subsets (range_with_len (low + 1) n) in
    ⊎_elim (λ l. RisesWithin-lower (low + 1) low high state (omega arith) (RisesWithin-subsets n (low + 1) high state (omega arith) l)) (λ r. let w = In-map_from (λ (xs : List ℕ). low ∷ xs) state more r in let rest : RisesWithin (low + 1) high w.0 = RisesWithin-subsets n (low + 1) high w.0 (omega arith) w.1 in subst (λ (xs : List ℕ). RisesWithin low high xs) w.2 (omega arith, omega arith, rest)) (In-append_cases state more (map (λ (xs : List ℕ). low ∷ xs) more) h)

pub subsets-RisesWithin : (n low high : ℕ) (state : List ℕ) → high ≡ low + n → RisesWithin low high state → In state (subsets (range_with_len low n))
subsets-RisesWithin zero low high [] e h = inl refl
subsets-RisesWithin zero low high (x ∷ xs) e h = absurd (omega (arith, h.0, h.1))
subsets-RisesWithin (suc n) low high [] e h =
    let more = subsets (range_with_len (low + 1) n) in
    In-append_left [] more (map (λ (xs : List ℕ). low ∷ xs) more) (subsets-RisesWithin n (low + 1) high [] (omega arith) tt)
subsets-RisesWithin (suc n) low high (x ∷ xs) e h =
    let more = subsets (range_with_len (low + 1) n) in
    ⊎_elim (λ same. let rest : RisesWithin (low + 1) high xs = subst (λ (y : ℕ). RisesWithin (y + 1) high xs) same h.2 in In-append_right (x ∷ xs) more (map (λ (ys : List ℕ). low ∷ ys) more) (subst (λ (y : ℕ). In (y ∷ xs) (map (λ (ys : List ℕ). low ∷ ys) more)) (sym same) (In-map (λ (ys : List ℕ). low ∷ ys) xs more (subsets-RisesWithin n (low + 1) high xs (omega arith) rest)))) (λ other. ⊎_elim (λ less. absurd (omega (arith, h.0))) (λ above. In-append_left (x ∷ xs) more (map (λ (ys : List ℕ). low ∷ ys) more) (subsets-RisesWithin n (low + 1) high (x ∷ xs) (omega arith) (omega arith, h.1, h.2))) other) (cases_order x low)

-- a trace whose states are subsets of the states of another, one by one
abbrev pub Under : List (List ℕ) → List (List ℕ) → Type 0
Under [] [] = Unit {0}
Under [] (state ∷ more) = ⊥
Under (subset ∷ trace) [] = ⊥
Under (subset ∷ trace) (state ∷ more) = In subset (subsets state) × Under trace more

pub Under-traces_below : (trace large : List (List ℕ)) → In trace (traces_below large) → Under trace large
Under-traces_below trace [] h = ⊎_elim (λ e. subst (λ (t : List (List ℕ)). Under t []) e tt) (λ f. absurd f) h
Under-traces_below trace (state ∷ more) h =
    let w = In-flat_map_from (λ (subset : List ℕ). map (λ (t : List (List ℕ)). subset ∷ t) (traces_below more)) trace (subsets state) h in
    let v = In-map_from (λ (t : List (List ℕ)). w.0 ∷ t) trace (traces_below more) w.2 in
    subst (λ (t : List (List ℕ)). Under t (state ∷ more)) v.2 (w.1, Under-traces_below v.0 more v.1)

pub traces_below-Under : (trace large : List (List ℕ)) → Under trace large → In trace (traces_below large)
traces_below-Under [] [] h = inl refl
traces_below-Under [] (state ∷ more) h = absurd h
traces_below-Under (subset ∷ trace) [] h = absurd h
traces_below-Under (subset ∷ trace) (state ∷ more) h =
    In-flat_map (λ (s : List ℕ). map (λ (t : List (List ℕ)). s ∷ t) (traces_below more)) subset (subset ∷ trace) (subsets state) h.0 (In-map (λ (t : List (List ℕ)). subset ∷ t) trace (traces_below more) (traces_below-Under trace more h.1))

-- the traces of a length over the atoms below the count
pub Under-full : (count n : ℕ) (trace : List (List ℕ)) → Under trace (full_trace count n) → (length trace ≡ n) × (list_all (is_state count) trace ≡ true)
Under-full count zero [] h = (refl, refl)
Under-full count zero (state ∷ trace) h = absurd h
Under-full count (suc n) [] h = absurd h
Under-full count (suc n) (state ∷ trace) h =
    let rest = Under-full count n trace h.1 in
    (ap suc rest.0, and_from (is_state count state) (list_all (is_state count) trace) (state-from_RisesWithin count state (RisesWithin-subsets count 0 count state (omega arith) h.0)) rest.1)

pub full-Under : (count n : ℕ) (trace : List (List ℕ)) → length trace ≡ n → list_all (is_state count) trace ≡ true → Under trace (full_trace count n)
full-Under count zero [] l h = tt
full-Under count zero (state ∷ trace) l h = absurd (omega arith)
full-Under count (suc n) [] l h = absurd (omega arith)
full-Under count (suc n) (state ∷ trace) l h =
    let both = and_parts (is_state count state) (list_all (is_state count) trace) h in
    (subsets-RisesWithin count 0 count state (omega arith) (RisesWithin-state count state both.0), full-Under count n trace (omega arith) both.1)

-- each trace that the enumeration gives has rising states
states_rise : (count : ℕ) (trace : List (List ℕ)) → list_all (is_state count) trace ≡ true → list_all numbers_rise trace ≡ true
states_rise count [] h = refl
states_rise count (state ∷ trace) h =
    let both = and_parts (is_state count state) (list_all (is_state count) trace) h in
    let first = and_parts (numbers_rise state) (list_all (λ atom. nat_lt atom count) state) both.0 in
    and_from (numbers_rise state) (list_all numbers_rise trace) first.0 (states_rise count trace both.1)

pub all_traces-rise : (count n : ℕ) (trace : List (List ℕ)) → In trace (all_traces count n) → list_all numbers_rise trace ≡ true
all_traces-rise count n trace h = states_rise count trace (Under-full count n trace (Under-traces_below trace (full_trace count n) h)).1

-- the list of a length other than 0
pub list_of-suc : (program : Ground) (n : ℕ) → list_of program (suc n) ≡ filter (tem program (suc n)) (all_traces (length program.atoms) (suc n))
list_of-suc program n =
    cond-false (suc n == 0) [] (filter (tem program (suc n)) (all_traces (length program.atoms) (suc n))) (ne_eqb (suc n) 0 (λ e. absurd (omega arith)))
