-- The settings that the words of the command line give.
use Rattle.std.specs.Prelude.{ℕ, ◌≤◌, Bool, true, false, ◌&&◌, List, [], ◌∷◌, Option, Some, None, nat_le, length, if◌then◌else◌}
use Rattle.std.specs.List.{list_all, filter_map}
use Rattle.std.specs.Option.{option_map}
use Rattle.tel_settings.specs.declared.fields.Stop.{Stop}
use Rattle.tel_settings.specs.declared.fields.Stop.TheVariants.{Sat}
use Rattle.tel_settings.specs.declared.fields.Input.{Input}
use Rattle.tel_settings.specs.declared.fields.Input.TheVariants.{Files, Number}
use Rattle.tel_settings.specs.declared.fields.Settings.{Settings}
use Rattle.tel_settings.specs.Pieces.{Imin, Imax, Istop, Models, Conflicts, Generate}
use Rattle.tel_settings.specs.Parts.{Part, File, Says, Wrong, parts, input_of}

abbrev pub is_right : Part → Bool
is_right (File name) = true
is_right (Says piece) = true
is_right Wrong = false

-- the value that a part gives each option, where it is that option
abbrev pub imin_in : Part → Option ℕ
imin_in (Says (Imin value)) = Some value
imin_in part = None

abbrev pub imax_in : Part → Option ℕ
imax_in (Says (Imax value)) = Some value
imax_in part = None

abbrev pub stop_in : Part → Option Stop
stop_in (Says (Istop rule)) = Some rule
stop_in part = None

abbrev pub models_in : Part → Option ℕ
models_in (Says (Models most)) = Some most
models_in part = None

abbrev pub conflicts_in : Part → Option (Option ℕ)
conflicts_in (Says (Conflicts budget)) = Some budget
conflicts_in part = None

abbrev pub number_in : Part → Option ℕ
number_in (Says (Generate number)) = Some number
number_in part = None

abbrev pub file_in : Part → Option (List ℕ)
file_in (File name) = Some name
file_in part = None

-- the values that a line gives each option, and its files, in order
abbrev pub imins : List Part → List ℕ
imins line = filter_map imin_in line

abbrev pub imaxes : List Part → List ℕ
imaxes line = filter_map imax_in line

abbrev pub stop_rules : List Part → List Stop
stop_rules line = filter_map stop_in line

abbrev pub models : List Part → List ℕ
models line = filter_map models_in line

abbrev pub budgets : List Part → List (Option ℕ)
budgets line = filter_map conflicts_in line

abbrev pub numbers : List Part → List ℕ
numbers line = filter_map number_in line

abbrev pub files : List Part → List (List ℕ)
files line = filter_map file_in line

-- at most one value
abbrev pub is_once : {X : Type 0} → List X → Bool
is_once values = nat_le (length values) 1

-- nothing is wrong, and each option stands at most once
abbrev pub is_line : List Part → Bool
is_line line =
    list_all is_right line
    && (is_once (imins line) && (is_once (imaxes line) && (is_once (stop_rules line)
    && (is_once (models line) && (is_once (budgets line) && is_once (numbers line))))))

-- the value that is given, or the default where none is
abbrev pub value_or : {X : Type 0} → X → List X → X
value_or default [] = default
value_or default (value ∷ more) = value

-- the settings of a line: its values and its input, and the defaults
abbrev pub settings_from : List Part → Option Settings
settings_from line =
    if is_line line
    then option_map (λ input. record {
      imin = value_or 0 (imins line);
      imax = value_or 20 (imaxes line);
      stop = value_or Sat (stop_rules line);
      models = value_or 0 (models line);
      conflicts = value_or None (budgets line);
      log = None;
      input = input;
    }) (input_of (numbers line) (files line))
    else None

abbrev pub settings_of : List (List ℕ) → Option Settings
settings_of words = settings_from (parts None words)

-- there are 1 to 16 files, or a number of 1 to 1000
abbrev pub HasInput : Input → Type 0
HasInput (Files names) = (1 ≤ length names) × (length names ≤ 16)
HasInput (Number number) = (1 ≤ number) × (number ≤ 1000)

-- the settings of every line are within these limits
pub record IsWithinLimits (settings : Settings) : Type 0 where
  pub imin : settings.imin ≤ 1000
  pub imax : settings.imax ≤ 1000
  pub input : HasInput settings.input
