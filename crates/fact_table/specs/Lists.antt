-- Lists of places by number.
use Rattle.std.specs.Prelude.{ℕ, ◌-◌, List, [], map, slice_index_or, vec_len, vec_capacity}
use Rattle.std.specs.Global.{Vec}

abbrev pub lists_of : List (Vec ℕ) → List (List ℕ)
lists_of lists = map (λ (list : Vec ℕ). list.items) lists

-- the list with a number; past the end there is the empty one
abbrev pub list_at : List (List ℕ) → ℕ → List ℕ
list_at lists number = slice_index_or lists number []

-- for how many places more a list has room
abbrev pub room_of : Vec ℕ → ℕ
room_of list = vec_capacity list - vec_len list

abbrev pub rooms_of : List (Vec ℕ) → List ℕ
rooms_of lists = map room_of lists

abbrev pub room_at : List (Vec ℕ) → ℕ → ℕ
room_at lists number = slice_index_or (rooms_of lists) number 0
