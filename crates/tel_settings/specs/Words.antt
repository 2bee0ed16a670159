-- What a word of the command line is.
use Rattle.std.specs.Prelude.{ℕ, Bool, not, ◌&&◌, ◌||◌, List, [], ◌∷◌, ◌++◌, Option, Some, None, nat_eq, nat_le, bytes_eq, codes, length, drop, find, if◌then◌else◌}
use Rattle.std.specs.Char.{is_ascii_digit}
use Rattle.std.specs.List.{list_all, starts_with}
use Rattle.std.specs.Option.{option_map, option_map_or}
use Rattle.tel_base.specs.Digits.{decimal}
use Rattle.tel_settings.specs.declared.fields.Stop.{Stop}
use Rattle.tel_settings.specs.declared.fields.Stop.TheVariants.{Sat, Unsat, Unknown}
use Rattle.tel_settings.specs.Names.{Name}
use Rattle.tel_settings.specs.Names as names
use Rattle.tel_settings.specs.Pieces.{Piece, Imin, Imax, Istop, Models, Conflicts, Generate}

-- a number has 1 to 20 digits
abbrev pub is_number : List ℕ → Bool
is_number digits = nat_le 1 (length digits) && nat_le (length digits) 20 && list_all is_ascii_digit digits

-- the value of a number, where it is `least` to `most`
abbrev pub number_from : ℕ → ℕ → List ℕ → Option ℕ
number_from least most digits =
    if is_number digits && (nat_le least (decimal digits) && nat_le (decimal digits) most) then Some (decimal digits) else None

-- the greatest number of traces or conflicts
abbrev pub most_count : ℕ
most_count = 18446744073709551615

-- the stop rule of a name
abbrev pub stop_of : List ℕ → Option Stop
stop_of name =
    if bytes_eq name (codes "sat") then Some Sat else
    if bytes_eq name (codes "unsat") then Some Unsat else
    if bytes_eq name (codes "unknown") then Some Unknown else None

-- a budget of conflicts is a number, or none
abbrev pub conflicts_of : List ℕ → Option (Option ℕ)
conflicts_of value = if bytes_eq value (codes "none") then Some None else option_map Some (number_from 0 most_count value)

-- what the option of this name says with this value
abbrev pub piece_of : Name → List ℕ → Option Piece
piece_of names.Imin value = option_map Imin (number_from 0 1000 value)
piece_of names.Imax value = option_map Imax (number_from 0 1000 value)
piece_of names.Istop value = option_map Istop (stop_of value)
piece_of names.Models value = option_map Models (number_from 0 most_count value)
piece_of names.Conflicts value = option_map Conflicts (conflicts_of value)
piece_of names.Generate value = option_map Generate (number_from 1 1000 value)

-- the options, and how each is spelled
abbrev pub all_names : List Name
all_names = names.Imin ∷ names.Imax ∷ names.Istop ∷ names.Models ∷ names.Conflicts ∷ names.Generate ∷ []

abbrev pub spelled : Name → List ℕ
spelled names.Imin = codes "--imin"
spelled names.Imax = codes "--imax"
spelled names.Istop = codes "--istop"
spelled names.Models = codes "--models"
spelled names.Conflicts = codes "--conflicts"
spelled names.Generate = codes "--generate"

-- the option that a word names
abbrev pub name_of : List ℕ → Option Name
name_of word = find (λ name. bytes_eq word (spelled name)) all_names

-- what stands after a name in a word that begins with it
abbrev pub after_name : List ℕ → List ℕ → Option (List ℕ)
after_name name word = if starts_with nat_eq word name then Some (drop (length name) word) else None

-- what a word says that begins with one of these names and `=`
abbrev pub assigned_by : List Name → List ℕ → Option Piece
assigned_by [] word = None
assigned_by (name ∷ others) word =
    option_map_or (piece_of name) (after_name (spelled name ++ codes "=") word) (assigned_by others word)

-- what a word `--name=value` says
abbrev pub assigned : List ℕ → Option Piece
assigned word = assigned_by all_names word

-- a plain word is `-`, or doesn't begin with `-`
abbrev pub is_plain : List ℕ → Bool
is_plain word = bytes_eq word (codes "-") || not (starts_with nat_eq word (codes "-"))
