-- Traces and HT-traces (Cabalar, Kaminski, Schaub and Schuhmann, "Temporal answer set programming on finite traces", 2018).
-- A trace of length n is a list of n states, each the set of the atoms that are true there. Atoms are numbers from 0.
use Rattle.std.specs.Prelude.{◌≡◌, ℕ, ◌<◌, Bool, true, false, not, ◌&&◌, ◌||◌, zero, suc, List, [], length, slice_index_or, nat_lt, ◌==◌, IsTrue}
use Rattle.std.specs.List.{list_any, list_all}
use Rattle.tel_rule.specs.Rising.{numbers_rise}

-- whether the test passes at each number below n
abbrev pub each_below : ℕ → (ℕ → Bool) → Bool
each_below zero test = true
each_below (suc n) test = test n && each_below n test

-- whether the test passes at some number below n
abbrev pub some_below : ℕ → (ℕ → Bool) → Bool
some_below zero test = false
some_below (suc n) test = test n || some_below n test

-- a trace as a test: whether at an instant an atom is true. An HT-trace is a pair of them, H and T
abbrev pub Test : Type 0
Test = ℕ → ℕ → Bool

-- whether an atom is in a state
abbrev pub is_member : List ℕ → ℕ → Bool
is_member state atom = list_any (λ x. x == atom) state

-- the test of a listed trace; past its end no atom is true
abbrev pub test_of : List (List ℕ) → Test
test_of trace k atom = is_member (slice_index_or trace k []) atom

-- a state lists atoms below the count, each once, rising
abbrev pub is_state : ℕ → List ℕ → Bool
is_state count state = numbers_rise state && list_all (λ atom. nat_lt atom count) state

-- a listed trace of length n over the atoms below the count
abbrev pub IsTrace : ℕ → ℕ → List (List ℕ) → Type 0
IsTrace n count trace = (length trace ≡ n) × IsTrue (list_all (is_state count) trace)

-- H is below T: at each instant what is true in H is true in T
abbrev pub IsBelow : ℕ → ℕ → Test → Test → Type 0
IsBelow n count H T = (k atom : ℕ) → k < n → atom < count → IsTrue (H k atom) → IsTrue (T k atom)

-- the same as a test
abbrev pub is_below : ℕ → ℕ → Test → Test → Bool
is_below n count H T = each_below n (λ k. each_below count (λ atom. not (H k atom) || T k atom))

-- two tests agree at each instant below n, on each atom below the count
abbrev pub Agree : ℕ → ℕ → Test → Test → Type 0
Agree n count S T = (k atom : ℕ) → k < n → atom < count → S k atom ≡ T k atom

-- two tests differ at some instant below n, on some atom below the count
abbrev pub Differ : ℕ → ℕ → Test → Test → Type 0
Differ n count S T = (k : ℕ) × (atom : ℕ) × (k < n) × (atom < count) × (S k atom ≡ T k atom → ⊥)
