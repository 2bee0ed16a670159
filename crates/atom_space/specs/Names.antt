-- The names of variables.
use Rattle.std.specs.Prelude.{ℕ, Bool, ◌&&◌, Option, Some, None, nat_lt, nat_le, if◌then◌else◌}
use Rattle.atom_space.specs.declared.space.VarName.{VarName}
use Rattle.atom_space.specs.declared.space.VarName.TheVariants as names
use Rattle.atom_space.specs.Numbers.{Counts, Space, visible, part, body_at, end_at}

-- the number of a name
abbrev pub number_of : Counts → VarName → ℕ
number_of counts (names.Visible atom t) = visible counts atom t
number_of counts (names.Part node t) = part counts node t
number_of counts (names.Body instance t) = body_at counts instance t
number_of counts (names.End t) = end_at counts t

-- whether there is what it names, and the state isn't above the greatest
abbrev pub is_named : Space → VarName → Bool
is_named space (names.Visible atom t) = nat_lt atom space.counts.atoms && nat_le t space.greatest
is_named space (names.Part node t) = nat_lt node space.counts.nodes && nat_le t space.greatest
is_named space (names.Body instance t) = nat_lt instance space.counts.bodies && nat_le t space.greatest
is_named space (names.End t) = nat_le t space.greatest

-- the variable with a name
abbrev pub var_of : Space → VarName → Option ℕ
var_of space name = if is_named space name then Some (number_of space.counts name) else None
