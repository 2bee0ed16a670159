-- What a call that writes has done, where bytes wait to be written together.
use Rattle.std.specs.Prelude.{◌≡◌, ℕ, List, ◌++◌, Option, Result, OnOk, OnErr}
use Rattle.tel_base.specs.Bytes.{Appends, AppendsFront}
use Rattle.tel_base.specs.Counts.{HasCause}

-- a front of the bytes was added to the sink, and the rest of them waits
abbrev pub Moved : Option (List ℕ) → Option (List ℕ) → List ℕ → List ℕ → Type 0
Moved old new bytes waits = (front : List ℕ) × (bytes ≡ front ++ waits) × Appends old new front

-- a piece was put behind the bytes that waited: then all of them are in the sink or wait; or a front
-- of them was written, and the sink has counted its fault
pub record Puts {T E : Type 0} (result : Result T E) (piece : List ℕ) (old new : Option (List ℕ)) (waited waits : List ℕ) (before now : ℕ) : Type 0 where
  pub ok : OnOk result (Moved old new (waited ++ piece) waits)
  pub err : OnErr result (AppendsFront old new (waited ++ piece))
  pub cause : HasCause before now result

-- a piece was written whole; or a front of it was, and the sink has counted its fault
pub record Writes {T E : Type 0} (result : Result T E) (piece : List ℕ) (old new : Option (List ℕ)) (before now : ℕ) : Type 0 where
  pub ok : OnOk result (Appends old new piece)
  pub err : OnErr result (AppendsFront old new piece)
  pub cause : HasCause before now result
