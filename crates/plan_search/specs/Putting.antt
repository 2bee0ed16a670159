-- Values put to columns in place.
use Rattle.std.specs.Prelude.{◌≡◌, ℕ, ◌==◌, Bool, false, List, Some, None, if◌then◌else◌}
use Rattle.std.specs.List.{list_any}
use Rattle.tel_term.specs.declared.terms.Value.{Value}
use Rattle.join_plans.specs.declared.columns.Column.{Column}
use Rattle.join_plans.specs.declared.columns.Column.TheVariants.{New, Old}
use Rattle.join_plans.specs.Join.{at, put, put_row}

-- whether a column gives this place its value
abbrev pub gives : ℕ → Column → Bool
gives v (New w) = w == v
gives v (Old w) = false

-- whether one of these columns does
abbrev pub any_gives : List Column → ℕ → Bool
any_gives columns v = list_any (gives v) columns

-- a value was put to a column, or there is another one
abbrev pub IsPut : Column → Value → List Value → Bool → List Value → Type 0
IsPut column value old fits new = put column value old ≡ (if fits then Some new else None)

-- the values of a row were put to columns, or they don't fit
abbrev pub IsRowPut : List Column → List Value → List Value → Bool → List Value → Type 0
IsRowPut columns row old fits new = put_row columns row old ≡ (if fits then Some new else None)

-- other places than those of new columns stay
abbrev pub Stays : List Column → List Value → List Value → Type 0
Stays columns old new = (v : ℕ) → any_gives columns v ≡ false → at new v ≡ at old v
