-- Bytes that are taken into memory, and which calls for them fail.
use Rattle.std.specs.Prelude.{ℕ, ◌-◌, Bool, ◌&&◌, ◌||◌, List, Option, ◌++◌, nat_lt, nat_le, length, take, min, if◌then◌else◌}
use Rattle.tel_base.specs.Counts.{counted}
use Rattle.tel_base.specs.Given.{is_listed}

-- the bytes that were taken, for how many there is room, how many one call takes at most, the numbers
-- of the calls that fail, how many calls there were, and how many of them failed
pub record Taken : Type 0 where
  pub bytes : List ℕ
  pub room : ℕ
  pub most : ℕ
  pub fails : List ℕ
  pub calls : ℕ
  pub faults : ℕ

-- the bytes that a stream holds, where it tells them, and how many calls with it failed
pub record Outgoing : Type 0 where
  pub held : Option (List ℕ)
  pub faults : ℕ

-- a file was made, the bytes that it holds, where it tells them, and how many calls with it failed
pub record Written : Type 0 where
  pub made : Bool
  pub held : Option (List ℕ)
  pub faults : ℕ

-- the next call with this piece fails: its number is listed, or there is a byte and no room for it
abbrev pub write_fails : Taken → List ℕ → Bool
write_fails taken piece =
    is_listed (counted taken.calls) taken.fails || (nat_lt 0 (length piece) && nat_le taken.room (length taken.bytes))

-- how many bytes of this piece the next call takes, where it doesn't fail
abbrev pub accepted : Taken → List ℕ → ℕ
accepted taken piece = min (length piece) (min taken.most (taken.room - length taken.bytes))

-- what stands after a call with this piece
abbrev pub after_write : Taken → List ℕ → Taken
after_write taken piece =
    if write_fails taken piece
    then record taken { calls = counted taken.calls; faults = counted taken.faults }
    else record taken { calls = counted taken.calls; bytes = taken.bytes ++ take (accepted taken piece) piece }
