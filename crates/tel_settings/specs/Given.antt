-- The command as the reader of words has it, and the settings that the values of its options and its files give.
use Rattle.std.specs.Prelude.{ℕ, List, [], Option, Some, None, codes, option_map, option_and_then, unwrap_or, true}
use Rattle.std.specs.Option.{option_to_list}
use Rattle.clap.specs.Words.{App, Rule, Text, new_rule, new_app, with_rule, first_value, matched_of, raw_values}
use Rattle.clap.specs.Simple.{on_top}
use Rattle.clap.specs.declared.builder.action.ArgAction.TheVariants.{Set, Append}
use Rattle.clap.specs.declared.parser.matches.Found.{Found}
use Rattle.tel_settings.specs.declared.fields.Stop.TheVariants.{Sat}
use Rattle.tel_settings.specs.declared.fields.Settings.{Settings}
use Rattle.tel_settings.specs.Words.{number_from, stop_of, conflicts_of, most_count}
use Rattle.tel_settings.specs.Parts.{input_of}

-- an option that stands at most once, with one value
abbrev pub option_rule : Text → Rule
option_rule name = record (new_rule name) { long = Some name; action = Some Set }

-- the files
abbrev pub files_rule : Rule
files_rule = record (new_rule (codes "files")) { action = Some Append }

-- the command with no option: its words are all arguments, and none asks for help
abbrev pub bare : App
bare = on_top (λ top. record top { no_binary_name = true; disable_help_flag = true }) (new_app (codes "telingo"))

-- the command
abbrev pub app : App
app = with_rule (with_rule (with_rule (with_rule (with_rule (with_rule (with_rule bare (option_rule (codes "imin"))) (option_rule (codes "imax"))) (option_rule (codes "istop"))) (option_rule (codes "models"))) (option_rule (codes "conflicts"))) (option_rule (codes "generate"))) files_rule

-- what is read of a value, or the default where there is none
abbrev pub given_or : {X : Type 0} → (List ℕ → Option X) → X → Option (List ℕ) → Option X
given_or read default None = Some default
given_or read default (Some value) = read value

-- the number of a generated text
abbrev pub generated_of : List ℕ → Option (Option ℕ)
generated_of value = option_map Some (number_from 1 1000 value)

-- the settings that the values of the options give with these files, where each value can be read
abbrev pub settings_given : (List ℕ → Option (List ℕ)) → List (List ℕ) → Option Settings
settings_given value files =
    option_and_then (λ imin. option_and_then (λ imax. option_and_then (λ stop. option_and_then (λ models. option_and_then (λ conflicts. option_and_then (λ number. option_map (λ input. record {
      imin = imin;
      imax = imax;
      stop = stop;
      models = models;
      conflicts = conflicts;
      log = None;
      input = input;
    }) (input_of (option_to_list number) files))
    (given_or generated_of None (value (codes "generate"))))
    (given_or conflicts_of None (value (codes "conflicts"))))
    (given_or (number_from 0 most_count) 0 (value (codes "models"))))
    (given_or stop_of Sat (value (codes "istop"))))
    (given_or (number_from 0 1000) 20 (value (codes "imax"))))
    (given_or (number_from 0 1000) 0 (value (codes "imin")))

-- the files that were found
abbrev pub files_found : Found → List (List ℕ)
files_found found = unwrap_or (option_map raw_values (matched_of found (codes "files"))) []

-- the settings that what was found gives
abbrev pub settings_found : Found → Option Settings
settings_found found = settings_given (first_value found) (files_found found)
