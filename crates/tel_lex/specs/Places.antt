-- Where something stands in the texts.
use Rattle.std.specs.Prelude.{ℕ, ◌+◌, ◌==◌, List, [], ◌∷◌, if◌then◌else◌}
use Rattle.tel_base.specs.declared.places.Place.{Place}

-- where a file begins
abbrev pub start_of : ℕ → Place
start_of file = record { file = file; line = 1; at = 1 }

-- the place behind a byte: byte 10 ends a line
abbrev pub place_behind : Place → ℕ → Place
place_behind place byte = if byte == 10 then record place { line = place.line + 1; at = 1 } else record place { at = place.at + 1 }

-- the place behind bytes that begin at a place
abbrev pub place_after : Place → List ℕ → Place
place_after place [] = place
place_after place (byte ∷ bytes) = place_after (place_behind place byte) bytes
