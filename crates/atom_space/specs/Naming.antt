-- How the name of a variable is found.
use Rattle.std.specs.Prelude.{ℕ, ◌+◌, ◌-◌, nat_lt, if◌then◌else◌}
use Rattle.atom_space.specs.declared.space.VarName.{VarName}
use Rattle.atom_space.specs.declared.space.VarName.TheVariants as names
use Rattle.atom_space.specs.Numbers.{Counts}

-- the name of the variable at a place of a state
abbrev pub name_at : Counts → ℕ → ℕ → VarName
name_at counts place t =
    if nat_lt place counts.atoms then names.Visible place t
    else if nat_lt place (counts.atoms + counts.nodes) then names.Part (place - counts.atoms) t
    else if nat_lt place (counts.atoms + counts.nodes + counts.bodies) then names.Body (place - (counts.atoms + counts.nodes)) t
    else names.End t
