-- What a call adds to bytes that may be told or not.
use Rattle.std.specs.Prelude.{◌≡◌, ℕ, ◌≤◌, List, ◌++◌, Option, take, length}
use Rattle.std.specs.Option.{option_map}

-- the new bytes are the old ones and then the piece; where the old ones aren't told, neither are the new
abbrev pub Appends : Option (List ℕ) → Option (List ℕ) → List ℕ → Type 0
Appends old new piece = new ≡ option_map (λ bytes. bytes ++ piece) old

-- some front of the piece was added
abbrev pub AppendsFront : Option (List ℕ) → Option (List ℕ) → List ℕ → Type 0
AppendsFront old new piece = (count : ℕ) × (count ≤ length piece) × Appends old new (take count piece)
