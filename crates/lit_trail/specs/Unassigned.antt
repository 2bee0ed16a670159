-- The first visible variable without a value.
use Rattle.std.specs.Prelude.{ℕ, ◌+◌, min, Bool, not, List, map, Option, is_some}
use Rattle.std.specs.List.{find, flat_map, range_with_len}
use Rattle.atom_space.specs.Numbers.{Counts, Space, visible}
use Rattle.lit_trail.specs.declared.assignment.Entry.{Entry}
use Rattle.lit_trail.specs.Entries.{spot_in}

-- the variable has no value
abbrev pub is_open : List Entry → ℕ → Bool
is_open entries v = not (is_some (spot_in entries v))

-- the visible variables of a state, by atom
abbrev pub visible_at : Counts → ℕ → List ℕ
visible_at counts t = map (λ (atom : ℕ). visible counts atom t) (range_with_len 0 counts.atoms)

-- those of the first n states, by state
abbrev pub visible_below : Counts → ℕ → List ℕ
visible_below counts n = flat_map (visible_at counts) (range_with_len 0 n)

-- the first without a value of the states below n that there are
abbrev pub first_open : List Entry → Space → ℕ → Option ℕ
first_open entries space n = find (is_open entries) (visible_below space.counts (min n (space.greatest + 1)))
