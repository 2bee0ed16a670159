-- What contracts see of a scratch: how many variables it has grown to.
use Rattle.std.specs.Prelude.{◌≡◌, ℕ, ◌≤◌, false, List, Bool, length, slice_index_or}

pub record Room : Type 0 where
  pub vars : ℕ

abbrev pub marked_at : List Bool → ℕ → Bool
marked_at marks v = slice_index_or marks v false

abbrev pub AreClear : List Bool → Type 0
AreClear marks = (v : ℕ) → marked_at marks v ≡ false

-- no variable is marked, and there is room for a literal of each
pub record IsScratch (marks : List Bool) (capacity : ℕ) : Type 0 where
  pub clear : AreClear marks
  pub room : length marks ≤ capacity
