-- Temporal equilibrium models (Cabalar, Kaminski, Schaub and Schuhmann 2018), and the list of those of a length.
use Rattle.std.specs.Prelude.{ℕ, Bool, not, ◌&&◌, ◌||◌, List, [], length, ◌==◌, if◌then◌else◌}
use Rattle.std.specs.List.{filter, list_all}
use Rattle.tel_rule.specs.Ground.{Ground}
use Rattle.tel_semantics.specs.Traces.{test_of, is_below}
use Rattle.tel_semantics.specs.Theory.{theory, is_model}
use Rattle.tel_semantics.specs.Lists.{traces_below, all_traces}

-- whether each H below the listed T that is a model with it has all of T
abbrev pub is_minimal : Ground → ℕ → List (List ℕ) → Bool
is_minimal program n trace =
    list_all (λ smaller. not (is_model (theory program) n (test_of smaller) (test_of trace)) || is_below n (length program.atoms) (test_of trace) (test_of smaller)) (traces_below trace)

-- T is a temporal equilibrium model: (T, T) is a model, and no (H, T) with H below T and other than T is one
abbrev pub tem : Ground → ℕ → List (List ℕ) → Bool
tem program n trace = is_model (theory program) n (test_of trace) (test_of trace) && is_minimal program n trace

-- the temporal equilibrium models of length n, in the order of traces; there is none of length 0
abbrev pub list_of : Ground → ℕ → List (List (List ℕ))
list_of program n = if n == 0 then [] else filter (tem program n) (all_traces (length program.atoms) n)
