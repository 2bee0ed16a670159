-- The table of a trail is kept in step with its order.
use Rattle.std.specs.Prelude.{◌≡◌, ℕ, suc, ◌+◌, ◌<◌, List, [], ◌∷◌, reverse, length, slice_index_or, Option, Some, None, is_some, IsTrue}
use Rattle.tel_base.specs.declared.literals.Lit.{Lit}
use Rattle.lit_trail.specs.declared.assignment.Spot.{Spot}
use Rattle.lit_trail.specs.declared.assignment.Entry.{Entry}
use Rattle.lit_trail.specs.Entries.{Assigned, spot_in, spot_reason, Apart}

abbrev pub level_or : Option Spot → ℕ
level_or None = 0
level_or (Some spot) = spot.level

abbrev pub entry_with : Lit → Option Spot → Entry
entry_with lit spot = record { lit = lit; level = level_or spot; reason = spot_reason spot }

abbrev pub entries_of : List (Option Spot) → List Lit → List Entry
entries_of table [] = []
entries_of table (lit ∷ older) = entry_with lit (slice_index_or table lit.var None) ∷ entries_of table older

abbrev pub assigned_of : List (Option Spot) → List Lit → Assigned
assigned_of table order = record { entries = entries_of table (reverse order); vars = length table }

-- how many variables have no value
abbrev pub free_in : List (Option Spot) → ℕ
free_in [] = 0
free_in (None ∷ more) = suc (free_in more)
free_in (Some spot ∷ more) = free_in more

pub record InStep (table : List (Option Spot)) (order : List Lit) : Type 0 where
  pub said : (v : ℕ) → slice_index_or table v None ≡ spot_in (entries_of table (reverse order)) v
  pub apart : Apart (entries_of table (reverse order))
  pub room : length order + free_in table ≡ length table

-- each variable below the number has a value
abbrev pub IsSettled : List (Option Spot) → ℕ → Type 0
IsSettled table count = (v : ℕ) → v < count → IsTrue (is_some (slice_index_or table v None))
