-- Sets of numbers, and their least ones.
use Rattle.std.specs.Prelude.{◌≡◌, ℕ, ◌<◌, ◌≤◌, Bool, not, ◌&&◌, ◌==◌, IsTrue}
use Rattle.std.specs.Ordering.{nat_cmp}
use Rattle.std.specs.BTreeSet.{BTreeSet, contains, btree_set_len}

abbrev pub is_in : BTreeSet ℕ → ℕ → Bool
is_in numbers i = contains nat_cmp numbers i

-- the least number of a set was taken away
pub record IsLeast (old new : BTreeSet ℕ) (number : ℕ) : Type 0 where
  pub was : IsTrue (is_in old number)
  pub least : (i : ℕ) → IsTrue (is_in old i) → number ≤ i
  pub others : (i : ℕ) → is_in new i ≡ (not (number == i) && is_in old i)
  pub fewer : btree_set_len new < btree_set_len old
