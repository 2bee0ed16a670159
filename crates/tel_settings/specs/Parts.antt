-- What the words of a command line are, from left to right.
use Rattle.std.specs.Prelude.{ℕ, ◌&&◌, List, [], ◌∷◌, Option, Some, None, bytes_eq, codes, map, length, nat_le, if◌then◌else◌}
use Rattle.std.specs.Option.{option_map_or}
use Rattle.tel_settings.specs.declared.fields.Input.{Input}
use Rattle.tel_settings.specs.declared.fields.Input.TheVariants.{Files, Number}
use Rattle.tel_settings.specs.Names.{Name}
use Rattle.tel_settings.specs.Pieces.{Piece}
use Rattle.tel_settings.specs.Words.{piece_of, name_of, assigned, is_plain}

-- a part of a line: a file, what an option says, or words that are wrong
pub data Part : Type 0 where
  File : List ℕ → Part
  Says : Piece → Part
  Wrong : Part

-- an option that says something, or else is wrong
abbrev pub said : Option Piece → Part
said None = Wrong
said (Some piece) = Says piece

-- the value of a name is a plain word
abbrev pub valued : Name → List ℕ → Part
valued name word = if is_plain word then said (piece_of name word) else Wrong

-- the parts of a line, where a name may stand in front whose value is the next word: behind `--` there are files alone; a plain word is a file; and
-- an option is a name with its value, or a word `--name=value`
abbrev pub parts : Option Name → List (List ℕ) → List Part
parts None [] = []
parts (Some name) [] = Wrong ∷ []
parts (Some name) (word ∷ words) = valued name word ∷ parts None words
parts None (word ∷ words) =
    if bytes_eq word (codes "--") then map File words else
    if is_plain word then File word ∷ parts None words else
    option_map_or (λ name. parts (Some name) words) (name_of word) (said (assigned word) ∷ parts None words)

-- where the texts come from: from 1 to 16 files, or from a number and no file
abbrev pub input_of : List ℕ → List (List ℕ) → Option Input
input_of [] files = if nat_le 1 (length files) && nat_le (length files) 16 then Some (Files files) else None
input_of (number ∷ more) [] = Some (Number number)
input_of (number ∷ more) (file ∷ files) = None
