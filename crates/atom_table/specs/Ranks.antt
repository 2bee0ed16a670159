-- Ranks of symbols: numbers that stand to one another as their terms.
use Rattle.std.specs.Prelude.{◌≡◌, ℕ, ◌<◌, List, length, slice_index_or}
use Rattle.std.specs.Ordering.{nat_cmp}
use Rattle.std.specs.declared.cmp.Ordering.{Ordering}
use Rattle.tel_term.specs.declared.terms.Term.{Term}
use Rattle.tel_term.specs.Order.{term_cmp, symbol_of}

-- symbols stand as their terms
abbrev pub symbol_cmp : List Term → ℕ → ℕ → Ordering
symbol_cmp symbols m n = term_cmp (symbol_of symbols m) (symbol_of symbols n)

abbrev pub AreRanks : List Term → List ℕ → Type 0
AreRanks symbols ranks =
    (m n : ℕ) → m < length symbols → n < length symbols → nat_cmp (slice_index_or ranks m 0) (slice_index_or ranks n 0) ≡ symbol_cmp symbols m n

-- the numbers below a count, each at its place
pub record AreBelow (count : ℕ) (numbers : List ℕ) : Type 0 where
  pub long : length numbers ≡ count
  pub at : (number : ℕ) → number < count → slice_index_or numbers number 0 ≡ number

-- a number stands at its rank in an order, below an end
pub record IsRanked (order ranks : List ℕ) (end number : ℕ) : Type 0 where
  pub below : slice_index_or ranks number 0 < end
  pub stands : slice_index_or order (slice_index_or ranks number 0) 0 ≡ number
