-- Counts of failed calls. A count is held to 64 bits: at its last value it stays, so it tells of a
-- further fault there as little as a clock that has stopped.
use Rattle.std.specs.Prelude.{◌≡◌, ℕ, ◌+◌, ◌-◌, ◌^◌, ◌<◌, ◌≤◌, min, Result, OnOk, OnErr}

-- the last value of a count, 18446744073709551615
abbrev pub last_count : ℕ
last_count = 2 ^ 64 - 1

-- the next value of a count, which stays at the last one
abbrev pub counted : ℕ → ℕ
counted count = min (count + 1) last_count

-- a call failed between the two counts, as far as a count can tell: it rose, or it is at its last value
abbrev pub Rose : ℕ → ℕ → Type 0
Rose before now = min (before + 1) last_count ≤ now

-- no call failed between the two counts, and the count can tell
abbrev pub Stands : ℕ → ℕ → Type 0
Stands before now = (now ≡ before) × (before < last_count)

-- a failed call is told by the count, which else stays
pub record HasCause {T E : Type 0} (before now : ℕ) (result : Result T E) : Type 0 where
  pub falls_never : before ≤ now
  pub stands : OnOk result (now ≡ before)
  pub rose : OnErr result (Rose before now)
