-- What contracts see of a trail: its entries, the last one first, and what they say of a variable and of a level.
use Rattle.std.specs.Prelude.{◌≡◌, ℕ, Bool, true, false, not, ◌&&◌, List, [], ◌∷◌, Option, Some, None, nat_lt, ◌==◌, if◌then◌else◌}
use Rattle.tel_base.specs.declared.literals.Lit.{Lit}
use Rattle.clause_store.specs.declared.store.ClauseId.{ClauseId}
use Rattle.lit_trail.specs.declared.assignment.Spot.{Spot}
use Rattle.lit_trail.specs.declared.assignment.Entry.{Entry}

-- the entries, the last one first, and how many variables there may be
pub record Assigned : Type 0 where
  pub entries : List Entry
  pub vars : ℕ

-- the same with the level
pub record View : Type 0 where
  pub level : ℕ
  pub entries : List Entry
  pub vars : ℕ

abbrev pub view_of : Assigned → ℕ → View
view_of assigned level = record { level = level; entries = assigned.entries; vars = assigned.vars }

abbrev pub same_sign : Bool → Bool → Bool
same_sign true b = b
same_sign false b = not b

abbrev pub spot_of : Entry → Spot
spot_of entry = record { positive = entry.lit.positive; level = entry.level; reason = entry.reason }

-- what the trail says of a variable
abbrev pub spot_in : List Entry → ℕ → Option Spot
spot_in [] v = None
spot_in (entry ∷ older) v = if entry.lit.var == v then Some (spot_of entry) else spot_in older v

abbrev pub spot_value : Bool → Option Spot → Option Bool
spot_value positive None = None
spot_value positive (Some spot) = Some (same_sign spot.positive positive)

abbrev pub spot_level : Option Spot → Option ℕ
spot_level None = None
spot_level (Some spot) = Some spot.level

abbrev pub spot_reason : Option Spot → Option ClauseId
spot_reason None = None
spot_reason (Some spot) = spot.reason

abbrev pub value_in : List Entry → Lit → Option Bool
value_in entries lit = spot_value lit.positive (spot_in entries lit.var)

abbrev pub level_in : List Entry → ℕ → Option ℕ
level_in entries v = spot_level (spot_in entries v)

abbrev pub reason_in : List Entry → ℕ → Option ClauseId
reason_in entries v = spot_reason (spot_in entries v)

-- no variable twice
abbrev pub Apart : List Entry → Type 0
Apart [] = Unit {0}
Apart (entry ∷ older) = (spot_in older entry.lit.var ≡ None) × Apart older

-- the entries up to a level
abbrev pub back : ℕ → List Entry → List Entry
back level [] = []
back level (entry ∷ older) = if nat_lt level entry.level then back level older else entry ∷ older

abbrev pub is_decided : Option ClauseId → Bool
is_decided None = true
is_decided (Some id) = false

-- the decision of a level: its literal without a reason
abbrev pub decision_in : List Entry → ℕ → Option Lit
decision_in [] level = None
decision_in (entry ∷ older) level = if (entry.level == level) && is_decided entry.reason then Some entry.lit else decision_in older level

abbrev pub top_level : List Entry → ℕ
top_level [] = 0
top_level (entry ∷ older) = entry.level

abbrev pub tail : List Entry → List Entry
tail [] = []
tail (entry ∷ older) = older
