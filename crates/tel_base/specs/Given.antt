-- Texts that stand in memory, and which calls for them fail.
use Rattle.std.specs.Prelude.{◌==◌, ℕ, ◌-◌, Bool, not, ◌||◌, List, [], ◌∷◌, Option, Some, None, bytes_eq, length, min, if◌then◌else◌}
use Rattle.std.specs.List.{list_any}
use Rattle.std.specs.Option.{is_some, option_map}
use Rattle.tel_base.specs.Counts.{counted}

-- names with their texts, the numbers of the calls that fail, how many calls there were, how many of
-- them failed, and the name of the last one that did, where it is one of these
pub record Given : Type 0 where
  pub texts : List (List ℕ × List ℕ)
  pub fails : List ℕ
  pub calls : ℕ
  pub faults : ℕ
  pub failed : Option (List ℕ)

-- the text of a name: of several the first
abbrev pub text_of : List (List ℕ × List ℕ) → List ℕ → Option (List ℕ)
text_of [] name = None
text_of (entry ∷ more) name = if bytes_eq entry.0 name then Some entry.1 else text_of more name

-- a number stands in a list of calls that fail
abbrev pub is_listed : ℕ → List ℕ → Bool
is_listed call fails = list_any (λ number. number == call) fails

-- the next call for this name fails: its number is listed, or there is no text of this name
abbrev pub read_fails : Given → List ℕ → Bool
read_fails given name = is_listed (counted given.calls) given.fails || not (is_some (text_of given.texts name))

-- what stands after a call for this name
abbrev pub after_read : Given → List ℕ → Given
after_read given name =
    if read_fails given name
    then record given {
      calls = counted given.calls;
      faults = counted given.faults;
      failed = option_map (λ text. name) (text_of given.texts name);
    }
    else record given { calls = counted given.calls }

-- how many bytes a call gives that has this room and begins at this place of a text
abbrev pub piece_length : ℕ → ℕ → List ℕ → ℕ
piece_length room from text = min room (length text - from)
