-- The numbering is one to one.
use Rattle.std.specs.Prelude.{◌≡◌, ℕ, ◌<◌, Some}
use Rattle.atom_space.specs.declared.space.VarName.{VarName}
use Rattle.atom_space.specs.Numbers.{Space, size}
use Rattle.atom_space.specs.Names.{var_of}

-- two names have two variables
abbrev pub NamesApart : Type 0
NamesApart = (space : Space) (name other : VarName) (var : ℕ) → var_of space name ≡ Some var → var_of space other ≡ Some var → name ≡ other

-- the variables are the numbers below the size, each with a name
abbrev pub NumbersBelow : Type 0
NumbersBelow = (space : Space) (name : VarName) (var : ℕ) → var_of space name ≡ Some var → var < size space
