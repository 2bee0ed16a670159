-- Which states can be printed.
use Rattle.std.specs.Prelude.{ℕ, Bool, List, nat_lt}
use Rattle.std.specs.List.{list_all}

-- each atom of a state is one of this many
abbrev pub are_below : ℕ → List ℕ → Bool
are_below count state = list_all (λ atom. nat_lt atom count) state
