-- What a source over files and standard input knows of its own calls.
use Rattle.std.specs.Prelude.{ℕ, ◌+◌, ◌==◌, Bool, false, ◌&&◌, ◌||◌, List, Option, Some, None, min, codes, bytes_eq, if◌then◌else◌}
use Rattle.tel_base.specs.Counts.{last_count, counted}

-- how many bytes of standard input were given, the file that is read with the place up to which it was
-- given, and how many calls failed
pub record Opened : Type 0 where
  pub input : ℕ
  pub file : Option (List ℕ × ℕ)
  pub faults : ℕ

-- the same, and what standard input and the file that is read have left to give, where they tell it
pub record Incoming : Type 0 where
  pub opened : Opened
  pub input_left : Option (List ℕ)
  pub file_left : Option (List ℕ)

-- the name of standard input
abbrev pub is_input : List ℕ → Bool
is_input name = bytes_eq name (codes "-")

-- the file that is read has this name, and was given up to this place
abbrev pub is_read_to : Option (List ℕ × ℕ) → List ℕ → ℕ → Bool
is_read_to None name place = false
is_read_to (Some file) name place = bytes_eq file.0 name && file.1 == place

-- a call may give bytes: of standard input only at the place up to which it was given, of a file at its
-- start and at the place up to which it was given
abbrev pub reads_on : Opened → List ℕ → ℕ → Bool
reads_on opened name from =
    if is_input name
    then from == opened.input
    else from == 0 || is_read_to opened.file name from

-- what stands after a call that gave so many bytes
abbrev pub after_given : Opened → List ℕ → ℕ → ℕ → Opened
after_given opened name from count =
    if is_input name
    then record opened { input = min (from + count) last_count }
    else record opened { file = Some (name, min (from + count) last_count) }

-- what stands after a call that failed: no file is read any more
abbrev pub after_failed : Opened → Opened
after_failed opened = record opened { file = None; faults = counted opened.faults }
