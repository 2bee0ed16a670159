-- The settings of every line are within their limits.
use Rattle.std.proofs.Common.{◌≡◌, ℕ, ◌≤◌, Bool, true, false, cond, List, [], ◌∷◌, ◌++◌, length, map, Option, Some, None, refl, subst, arith}
use Rattle.std.specs.Prelude.{◌&&◌, nat_le, bytes_eq, codes}
use Rattle.std.specs.List.{cons_option}
use Rattle.std.specs.Option.{option_map, option_map_or}
use Rattle.std.proofs.lemmas.Bool.{and_parts, leb-true}
use Rattle.std.proofs.lemmas.Option.{same_Some}
use Rattle.tel_settings.specs.declared.fields.Stop.{Stop}
use Rattle.tel_settings.specs.declared.fields.Stop.TheVariants.{Sat}
use Rattle.tel_settings.specs.declared.fields.Input.{Input}
use Rattle.tel_settings.specs.declared.fields.Input.TheVariants.{Files}
use Rattle.tel_settings.specs.declared.fields.Settings.{Settings}
use Rattle.tel_settings.specs.Names.{Name}
use Rattle.tel_settings.specs.Names as names
use Rattle.tel_settings.specs.Pieces.{Piece, Imin, Imax, Istop, Models, Conflicts, Generate}
use Rattle.tel_base.specs.Digits.{decimal}
use Rattle.tel_settings.specs.Words.{is_number, number_from, stop_of, conflicts_of, most_count, piece_of, name_of, after_name, assigned_by, assigned, all_names, spelled, is_plain}
use Rattle.tel_settings.specs.Parts.{Part, File, Says, Wrong, said, parts, input_of}
use Rattle.tel_settings.specs.Command.{imin_in, imax_in, number_in, imins, imaxes, stop_rules, models, budgets, numbers, files, is_line, value_or, settings_of, HasInput, IsWithinLimits}

-- a value, where there is one, is in this range
abbrev Within : ℕ → ℕ → Option ℕ → Type 0
Within least most None = Unit {0}
Within least most (Some value) = (least ≤ value) × (value ≤ most)

within_if : (b : Bool) (least most value : ℕ) → (b ≡ true → (least ≤ value) × (value ≤ most)) → Within least most (cond b (Some value) None)
within_if true least most value h = h refl
within_if false least most value h = tt

number_within : (least most : ℕ) (digits : List ℕ) → Within least most (number_from least most digits)
number_within least most digits =
    within_if (is_number digits && (nat_le least (decimal digits) && nat_le (decimal digits) most)) least most (decimal digits) (λ t. let both = and_parts (nat_le least (decimal digits)) (nat_le (decimal digits) most) (and_parts (is_number digits) _ t).1 in (leb-true least (decimal digits) both.0, leb-true (decimal digits) most both.1))

-- what an option says of a limit or of a number is within its range
abbrev SmallPiece : Piece → Type 0
SmallPiece (Imin value) = value ≤ 1000
SmallPiece (Imax value) = value ≤ 1000
SmallPiece (Istop rule) = Unit {0}
SmallPiece (Models most) = Unit {0}
SmallPiece (Conflicts budget) = Unit {0}
SmallPiece (Generate number) = (1 ≤ number) × (number ≤ 1000)

abbrev SmallPart : Part → Type 0
SmallPart (File name) = Unit {0}
SmallPart (Says piece) = SmallPiece piece
SmallPart Wrong = Unit {0}

imin_small : (value : Option ℕ) → Within 0 1000 value → SmallPart (said (option_map Imin value))
imin_small None h = tt
imin_small (Some v) h = h.1

imax_small : (value : Option ℕ) → Within 0 1000 value → SmallPart (said (option_map Imax value))
imax_small None h = tt
imax_small (Some v) h = h.1

stop_small : (rule : Option Stop) → SmallPart (said (option_map Istop rule))
stop_small None = tt
stop_small (Some r) = tt

models_small : (most : Option ℕ) → SmallPart (said (option_map Models most))
models_small None = tt
models_small (Some m) = tt

budget_small : (budget : Option (Option ℕ)) → SmallPart (said (option_map Conflicts budget))
budget_small None = tt
budget_small (Some b) = tt

number_small : (value : Option ℕ) → Within 1 1000 value → SmallPart (said (option_map Generate value))
number_small None h = tt
number_small (Some v) h = h

piece_small : (name : Name) (value : List ℕ) → SmallPart (said (piece_of name value))
piece_small names.Imin value = imin_small (number_from 0 1000 value) (number_within 0 1000 value)
piece_small names.Imax value = imax_small (number_from 0 1000 value) (number_within 0 1000 value)
piece_small names.Istop value = stop_small (stop_of value)
piece_small names.Models value = models_small (number_from 0 most_count value)
piece_small names.Conflicts value = budget_small (conflicts_of value)
piece_small names.Generate value = number_small (number_from 1 1000 value) (number_within 1 1000 value)

valued_small : (name : Name) (word : List ℕ) (b : Bool) → SmallPart (cond b (said (piece_of name word)) Wrong)
valued_small name word true = piece_small name word
valued_small name word false = tt

behind_small : (name : Name) (value : Option (List ℕ)) (other : Option Piece) → SmallPart (said other) → SmallPart (said (option_map_or (piece_of name) value other))
behind_small name None other h = h
behind_small name (Some value) other h = piece_small name value

assigned_small : (ns : List Name) (word : List ℕ) → SmallPart (said (assigned_by ns word))
assigned_small [] word = tt
assigned_small (name ∷ ns) word =
    behind_small name (after_name (spelled name ++ codes "=") word) (assigned_by ns word) (assigned_small ns word)

-- all parts are so
abbrev AllSmall : List Part → Type 0
AllSmall [] = Unit {0}
AllSmall (part ∷ line) = SmallPart part × AllSmall line

files_small : (words : List (List ℕ)) → AllSmall (map File words)
files_small [] = tt
files_small (word ∷ words) = (tt, files_small words)

either_small : (b : Bool) (xs ys : List Part) → AllSmall xs → AllSmall ys → AllSmall (cond b xs ys)
either_small true xs ys h k = h
either_small false xs ys h k = k

named_small : (name : Option Name) (words : List (List ℕ)) (line : List Part) → ((n : Name) → AllSmall (parts (Some n) words)) → AllSmall line → AllSmall (option_map_or (λ n. parts (Some n) words) name line)
named_small None words line h k = k
named_small (Some n) words line h k = h n

parts_small : (name : Option Name) (words : List (List ℕ)) → AllSmall (parts name words)
parts_small None [] = tt
parts_small (Some name) [] = (tt, tt)
parts_small (Some name) (word ∷ words) = (valued_small name word (is_plain word), parts_small None words)
parts_small None (word ∷ words) =
    either_small (bytes_eq word (codes "--")) (map File words) _ (files_small words) (either_small (is_plain word) (File word ∷ parts None words) _ (tt, parts_small None words) (named_small (name_of word) words (said (assigned word) ∷ parts None words) (λ n. parts_small (Some n) words) (assigned_small all_names word, parts_small None words)))

-- the values of limits, and the numbers
abbrev AllWithin : ℕ → ℕ → List ℕ → Type 0
AllWithin least most [] = Unit {0}
AllWithin least most (value ∷ more) = ((least ≤ value) × (value ≤ most)) × AllWithin least most more

cons_within : (least most : ℕ) (value : Option ℕ) (values : List ℕ) → Within least most value → AllWithin least most values → AllWithin least most (cons_option value values)
cons_within least most None values h k = k
cons_within least most (Some v) values h k = (h, k)

imin_within : (part : Part) → SmallPart part → Within 0 1000 (imin_in part)
imin_within (File name) h = tt
imin_within Wrong h = tt
imin_within (Says (Imin value)) h = (omega arith, h)
imin_within (Says (Imax value)) h = tt
imin_within (Says (Istop rule)) h = tt
imin_within (Says (Models most)) h = tt
imin_within (Says (Conflicts budget)) h = tt
imin_within (Says (Generate number)) h = tt

imax_within : (part : Part) → SmallPart part → Within 0 1000 (imax_in part)
imax_within (File name) h = tt
imax_within Wrong h = tt
imax_within (Says (Imin value)) h = tt
imax_within (Says (Imax value)) h = (omega arith, h)
imax_within (Says (Istop rule)) h = tt
imax_within (Says (Models most)) h = tt
imax_within (Says (Conflicts budget)) h = tt
imax_within (Says (Generate number)) h = tt

number_in_range : (part : Part) → SmallPart part → Within 1 1000 (number_in part)
number_in_range (File name) h = tt
number_in_range Wrong h = tt
number_in_range (Says (Imin value)) h = tt
number_in_range (Says (Imax value)) h = tt
number_in_range (Says (Istop rule)) h = tt
number_in_range (Says (Models most)) h = tt
number_in_range (Says (Conflicts budget)) h = tt
number_in_range (Says (Generate number)) h = h

imins_within : (line : List Part) → AllSmall line → AllWithin 0 1000 (imins line)
imins_within [] h = tt
imins_within (part ∷ line) h = cons_within 0 1000 (imin_in part) (imins line) (imin_within part h.0) (imins_within line h.1)

imaxes_within : (line : List Part) → AllSmall line → AllWithin 0 1000 (imaxes line)
imaxes_within [] h = tt
imaxes_within (part ∷ line) h = cons_within 0 1000 (imax_in part) (imaxes line) (imax_within part h.0) (imaxes_within line h.1)

numbers_within : (line : List Part) → AllSmall line → AllWithin 1 1000 (numbers line)
numbers_within [] h = tt
numbers_within (part ∷ line) h = cons_within 1 1000 (number_in part) (numbers line) (number_in_range part h.0) (numbers_within line h.1)

value_small : (default : ℕ) (values : List ℕ) → default ≤ 1000 → AllWithin 0 1000 values → value_or default values ≤ 1000
value_small default [] h all = h
value_small default (value ∷ more) h all = all.0.1

-- the input that a line has
abbrev SomeInput : Option Input → Type 0
SomeInput None = Unit {0}
SomeInput (Some input) = HasInput input

files_input : (b : Bool) (names : List (List ℕ)) → (b ≡ true → (1 ≤ length names) × (length names ≤ 16)) → SomeInput (cond b (Some (Files names)) None)
files_input true names h = h refl
files_input false names h = tt

input_has : (ns : List ℕ) (names : List (List ℕ)) → AllWithin 1 1000 ns → SomeInput (input_of ns names)
input_has [] names h =
    files_input (nat_le 1 (length names) && nat_le (length names) 16) names (λ t. let both = and_parts (nat_le 1 (length names)) (nat_le (length names) 16) t in (leb-true 1 (length names) both.0, leb-true (length names) 16 both.1))
input_has (n ∷ ns) [] h = h.0
input_has (n ∷ ns) (name ∷ more) h = tt

-- the settings of a line with this input
limits_at : (b : Bool) (line : List Part) (input : Option Input) (settings : Settings) → AllSmall line → SomeInput input → cond b (option_map (λ input. record {
  imin = value_or 0 (imins line);
  imax = value_or 20 (imaxes line);
  stop = value_or Sat (stop_rules line);
  models = value_or 0 (models line);
  conflicts = value_or None (budgets line);
  log = None;
  input = input;
}) input) None ≡ Some settings → IsWithinLimits settings
limits_at false line input settings h k e = absurd cc
limits_at true line None settings h k e = absurd cc
limits_at true line (Some input) settings h k e =
    subst IsWithinLimits (same_Some _ settings e) (record {
      imin = value_small 0 (imins line) (omega arith) (imins_within line h);
      imax = value_small 20 (imaxes line) (omega arith) (imaxes_within line h);
      input = k;
    })

pub line_limits : (words : List (List ℕ)) (settings : Settings) → settings_of words ≡ Some settings → IsWithinLimits settings
line_limits words settings e =
    let small = parts_small None words in
    limits_at (is_line (parts None words)) (parts None words) (input_of (numbers (parts None words)) (files (parts None words))) settings small (input_has (numbers (parts None words)) (files (parts None words)) (numbers_within (parts None words) small)) e
