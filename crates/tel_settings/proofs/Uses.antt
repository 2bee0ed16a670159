-- What the words use: the options with their values, and the files.
use Rattle.std.proofs.Common.{◌≡◌, ◌∙◌, ℕ, Bool, true, false, cond, List, [], ◌∷◌, ◌++◌, map, Option, Some, None, refl, ap, codes}
use Rattle.std.specs.Prelude.{bytes_eq, if◌then◌else◌}
use Rattle.std.specs.Option.{option_map_or}
use Rattle.tel_settings.specs.Names.{Name}
use Rattle.tel_settings.specs.Words.{piece_of, name_of, after_name, all_names, assigned_by, assigned, is_plain, spelled}
use Rattle.tel_settings.specs.Parts.{Part, File, Wrong, said, parts}

pub data Use : Type 0 where
  Takes : List ℕ → Use
  Gives : Name → List ℕ → Use
  Fails : Use

abbrev pub value_use : Name → List ℕ → Use
value_use name word = if is_plain word then Gives name word else Fails

abbrev pub assigned_use_by : List Name → List ℕ → Use
assigned_use_by [] word = Fails
assigned_use_by (name ∷ others) word =
    option_map_or (Gives name) (after_name (spelled name ++ codes "=") word) (assigned_use_by others word)

abbrev pub assigned_use : List ℕ → Use
assigned_use word = assigned_use_by all_names word

-- what the words use, where a name may stand in front whose value is the next word
abbrev pub uses : Option Name → List (List ℕ) → List Use
uses None [] = []
uses (Some name) [] = Fails ∷ []
uses (Some name) (word ∷ words) = value_use name word ∷ uses None words
uses None (word ∷ words) =
    if bytes_eq word (codes "--") then map Takes words else
    if is_plain word then Takes word ∷ uses None words else
    option_map_or (λ name. uses (Some name) words) (name_of word) (assigned_use word ∷ uses None words)

abbrev pub part_of : Use → Part
part_of (Takes file) = File file
part_of (Gives name value) = said (piece_of name value)
part_of Fails = Wrong

assigned_part : (names : List Name) (word : List ℕ) → said (assigned_by names word) ≡ part_of (assigned_use_by names word)
assigned_part [] word = refl
assigned_part (name ∷ others) word = go (after_name (spelled name ++ codes "=") word) (assigned_part others word)
  where
    go : (value : Option (List ℕ)) → said (assigned_by others word) ≡ part_of (assigned_use_by others word) → said (option_map_or (piece_of name) value (assigned_by others word)) ≡ part_of (option_map_or (Gives name) value (assigned_use_by others word))
    go None e = e
    go (Some value) e = refl

file_parts : (words : List (List ℕ)) → map File words ≡ map part_of (map Takes words)
file_parts [] = refl
file_parts (word ∷ words) = ap (λ line. File word ∷ line) (file_parts words)

-- the parts of words are those of what they use
pub parts_used : (place : Option Name) (words : List (List ℕ)) → parts place words ≡ map part_of (uses place words)
parts_used None [] = refl
parts_used (Some name) [] = refl
parts_used (Some name) (word ∷ words) = go (is_plain word) (parts_used None words)
  where
    go : (plain : Bool) → parts None words ≡ map part_of (uses None words) → cond plain (said (piece_of name word)) Wrong ∷ parts None words ≡ part_of (cond plain (Gives name word) Fails) ∷ map part_of (uses None words)
    go true e = ap (λ line. said (piece_of name word) ∷ line) e
    go false e = ap (λ line. Wrong ∷ line) e
parts_used None (word ∷ words) = go (bytes_eq word (codes "--")) (is_plain word) (name_of word) (assigned_part all_names word) (parts_used None words) (λ name. parts_used (Some name) words)
  where
    go : (dashes plain : Bool) (named : Option Name) → said (assigned word) ≡ part_of (assigned_use word) → parts None words ≡ map part_of (uses None words) → ((name : Name) → parts (Some name) words ≡ map part_of (uses (Some name) words))
        → cond dashes (map File words) (cond plain (File word ∷ parts None words) (option_map_or (λ name. parts (Some name) words) named (said (assigned word) ∷ parts None words)))
        ≡ map part_of (cond dashes (map Takes words) (cond plain (Takes word ∷ uses None words) (option_map_or (λ name. uses (Some name) words) named (assigned_use word ∷ uses None words))))
    go true plain named says more next = file_parts words
    go false true named says more next = ap (λ line. File word ∷ line) more
    go false false (Some name) says more next = next name
    go false false None says more next = ap (λ line. said (assigned word) ∷ line) more ∙ ap (λ part. part ∷ map part_of (uses None words)) says
