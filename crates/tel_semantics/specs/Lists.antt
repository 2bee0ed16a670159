-- Lists of states and of traces, in the order of traces: state 0 counts first, within a state the atoms count in their order,
-- and false comes before true.
use Rattle.std.specs.Prelude.{ℕ, List, [], ◌∷◌, ◌++◌, map, replicate}
use Rattle.std.specs.List.{flat_map, range_with_len}

-- the subsets of a list of atoms, those without the first atom first
abbrev pub subsets : List ℕ → List (List ℕ)
subsets [] = [] ∷ []
subsets (atom ∷ more) = subsets more ++ map (λ state. atom ∷ state) (subsets more)

-- the traces below a trace: each state is a subset of its state, and the first state is outermost
abbrev pub traces_below : List (List ℕ) → List (List (List ℕ))
traces_below [] = [] ∷ []
traces_below (state ∷ more) = flat_map (λ subset. map (λ trace. subset ∷ trace) (traces_below more)) (subsets state)

-- the trace of length n in which each atom below the count is true at each instant
abbrev pub full_trace : ℕ → ℕ → List (List ℕ)
full_trace count n = replicate n (range_with_len 0 count)

-- the traces of length n over the atoms below the count
abbrev pub all_traces : ℕ → ℕ → List (List (List ℕ))
all_traces count n = traces_below (full_trace count n)
