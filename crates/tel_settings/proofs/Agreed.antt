-- The settings of a line, by what its words use.
use Rattle.std.proofs.Common.{◌≡◌, ◌∙◌, inl, inr, ℕ, ◌≤◌, Bool, true, false, cond, List, [], ◌∷◌, length, map, Option, Some, None, refl, sym, ap, ap₂, subst, codes, arith}
use Rattle.std.specs.Prelude.{◌&&◌, find, is_some, nat_le, option_and_then, option_map, slice_get, unwrap_or, IsUtf8, string_bytes}
use Rattle.std.specs.List.{list_all, filter_map, cons_option, AllByRecursion}
use Rattle.std.specs.Option.{option_map_or, option_to_list}
use Rattle.std.proofs.lemmas.Bool.{and_from, and_left, and_parts, lt-leb, true≢false}
use Rattle.std.proofs.lemmas.Option.{same_Some}
use Rattle.std.proofs.lemmas.Str.{IsUtf8-string_bytes}
use Rattle.std.proofs.Math.Bool.{and-false}
use Rattle.clap.specs.Words.{Row, Text, all_of, fault_of, first_value, kind_of, matches_of, rows_of}
use Rattle.clap.specs.Walk.{has_row}
use Rattle.clap.specs.Kinds.{HasKind, IsAmong, Kinds}
use Rattle.clap.specs.declared.error.Error.{Error}
use Rattle.clap.specs.declared.error.kind.ErrorKind.TheVariants as kind
use Rattle.clap.specs.declared.parser.matches.Found.{Found}
use Rattle.clap.proofs.WalkLemmas.{first_value-rows, raw_values-rows}
use Rattle.tel_settings.specs.declared.fields.Stop.{Stop}
use Rattle.tel_settings.specs.declared.fields.Stop.TheVariants.{Sat}
use Rattle.tel_settings.specs.declared.fields.Settings.{Settings}
use Rattle.tel_settings.specs.Names.{Name}
use Rattle.tel_settings.specs.Names as names
use Rattle.tel_settings.specs.Pieces.{Piece, Imin, Imax, Istop, Models, Conflicts, Generate}
use Rattle.tel_settings.specs.Words.{number_from, stop_of, conflicts_of, most_count, piece_of}
use Rattle.tel_settings.specs.Parts.{Part, Says, Wrong, said, input_of}
use Rattle.tel_settings.specs.Command.{is_right, imin_in, imax_in, stop_in, models_in, conflicts_in, number_in, file_in, imins, imaxes, stop_rules, models, budgets, numbers, files, is_once, is_line, value_or, settings_from, settings_of}
use Rattle.tel_settings.specs.Given.{app, given_or, generated_of, settings_found, settings_given}
use Rattle.tel_settings.proofs.Rules.{id_of, files_id, id_itself}
use Rattle.tel_settings.proofs.Uses.{Use, Takes, Gives, Fails, part_of, parts_used, uses}
use Rattle.tel_settings.proofs.Walks.{parsed, run, unless}
use Rattle.tel_settings.proofs.Rows.{Reads, Repeats, Results, IsOnce, file_used, files_used, first_at, given, names_same, once_none, results, value_in, values_at, works}

-- ---- what the parts of uses say

said_some : {X : Type 0} (told : Part → Option X) (says : X → Piece) → told Wrong ≡ None → ((x : X) → told (Says (says x)) ≡ Some x) → (value : Option X) → told (said (option_map says value)) ≡ value
said_some told says wrong h None = wrong
said_some told says wrong h (Some x) = h x

said_none : {X Y : Type 0} (told : Part → Option X) (says : Y → Piece) → told Wrong ≡ None → ((y : Y) → told (Says (says y)) ≡ None) → (value : Option Y) → told (said (option_map says value)) ≡ None
said_none told says wrong h None = wrong
said_none told says wrong h (Some y) = h y

imin_use : (u : Use) → imin_in (part_of u) ≡ option_and_then (number_from 0 1000) (value_in names.Imin u)
imin_use (Takes file) = refl
imin_use Fails = refl
imin_use (Gives names.Imin value) = said_some imin_in Imin refl (λ x. refl) ((number_from 0 1000) value)
imin_use (Gives names.Imax value) = said_none imin_in Imax refl (λ y. refl) ((number_from 0 1000) value)
imin_use (Gives names.Istop value) = said_none imin_in Istop refl (λ y. refl) (stop_of value)
imin_use (Gives names.Models value) = said_none imin_in Models refl (λ y. refl) ((number_from 0 most_count) value)
imin_use (Gives names.Conflicts value) = said_none imin_in Conflicts refl (λ y. refl) (conflicts_of value)
imin_use (Gives names.Generate value) = said_none imin_in Generate refl (λ y. refl) ((number_from 1 1000) value)

imax_use : (u : Use) → imax_in (part_of u) ≡ option_and_then (number_from 0 1000) (value_in names.Imax u)
imax_use (Takes file) = refl
imax_use Fails = refl
imax_use (Gives names.Imin value) = said_none imax_in Imin refl (λ y. refl) ((number_from 0 1000) value)
imax_use (Gives names.Imax value) = said_some imax_in Imax refl (λ x. refl) ((number_from 0 1000) value)
imax_use (Gives names.Istop value) = said_none imax_in Istop refl (λ y. refl) (stop_of value)
imax_use (Gives names.Models value) = said_none imax_in Models refl (λ y. refl) ((number_from 0 most_count) value)
imax_use (Gives names.Conflicts value) = said_none imax_in Conflicts refl (λ y. refl) (conflicts_of value)
imax_use (Gives names.Generate value) = said_none imax_in Generate refl (λ y. refl) ((number_from 1 1000) value)

stop_use : (u : Use) → stop_in (part_of u) ≡ option_and_then stop_of (value_in names.Istop u)
stop_use (Takes file) = refl
stop_use Fails = refl
stop_use (Gives names.Imin value) = said_none stop_in Imin refl (λ y. refl) ((number_from 0 1000) value)
stop_use (Gives names.Imax value) = said_none stop_in Imax refl (λ y. refl) ((number_from 0 1000) value)
stop_use (Gives names.Istop value) = said_some stop_in Istop refl (λ x. refl) (stop_of value)
stop_use (Gives names.Models value) = said_none stop_in Models refl (λ y. refl) ((number_from 0 most_count) value)
stop_use (Gives names.Conflicts value) = said_none stop_in Conflicts refl (λ y. refl) (conflicts_of value)
stop_use (Gives names.Generate value) = said_none stop_in Generate refl (λ y. refl) ((number_from 1 1000) value)

models_use : (u : Use) → models_in (part_of u) ≡ option_and_then (number_from 0 most_count) (value_in names.Models u)
models_use (Takes file) = refl
models_use Fails = refl
models_use (Gives names.Imin value) = said_none models_in Imin refl (λ y. refl) ((number_from 0 1000) value)
models_use (Gives names.Imax value) = said_none models_in Imax refl (λ y. refl) ((number_from 0 1000) value)
models_use (Gives names.Istop value) = said_none models_in Istop refl (λ y. refl) (stop_of value)
models_use (Gives names.Models value) = said_some models_in Models refl (λ x. refl) ((number_from 0 most_count) value)
models_use (Gives names.Conflicts value) = said_none models_in Conflicts refl (λ y. refl) (conflicts_of value)
models_use (Gives names.Generate value) = said_none models_in Generate refl (λ y. refl) ((number_from 1 1000) value)

conflicts_use : (u : Use) → conflicts_in (part_of u) ≡ option_and_then conflicts_of (value_in names.Conflicts u)
conflicts_use (Takes file) = refl
conflicts_use Fails = refl
conflicts_use (Gives names.Imin value) = said_none conflicts_in Imin refl (λ y. refl) ((number_from 0 1000) value)
conflicts_use (Gives names.Imax value) = said_none conflicts_in Imax refl (λ y. refl) ((number_from 0 1000) value)
conflicts_use (Gives names.Istop value) = said_none conflicts_in Istop refl (λ y. refl) (stop_of value)
conflicts_use (Gives names.Models value) = said_none conflicts_in Models refl (λ y. refl) ((number_from 0 most_count) value)
conflicts_use (Gives names.Conflicts value) = said_some conflicts_in Conflicts refl (λ x. refl) (conflicts_of value)
conflicts_use (Gives names.Generate value) = said_none conflicts_in Generate refl (λ y. refl) ((number_from 1 1000) value)

generate_use : (u : Use) → number_in (part_of u) ≡ option_and_then (number_from 1 1000) (value_in names.Generate u)
generate_use (Takes file) = refl
generate_use Fails = refl
generate_use (Gives names.Imin value) = said_none number_in Imin refl (λ y. refl) ((number_from 0 1000) value)
generate_use (Gives names.Imax value) = said_none number_in Imax refl (λ y. refl) ((number_from 0 1000) value)
generate_use (Gives names.Istop value) = said_none number_in Istop refl (λ y. refl) (stop_of value)
generate_use (Gives names.Models value) = said_none number_in Models refl (λ y. refl) ((number_from 0 most_count) value)
generate_use (Gives names.Conflicts value) = said_none number_in Conflicts refl (λ y. refl) (conflicts_of value)
generate_use (Gives names.Generate value) = said_some number_in Generate refl (λ x. refl) ((number_from 1 1000) value)

file_said : (value : Option Piece) → file_in (said value) ≡ None
file_said None = refl
file_said (Some piece) = refl

file_use : (u : Use) → file_in (part_of u) ≡ option_and_then (λ file. Some file) (file_used u)
file_use (Takes file) = refl
file_use (Gives name value) = file_said (piece_of name value)
file_use Fails = refl

told_by : {X : Type 0} (told : Part → Option X) (read : Text → Option X) (pick : Use → Option Text) → ((u : Use) → told (part_of u) ≡ option_and_then read (pick u)) → (us : List Use) → filter_map told (map part_of us) ≡ filter_map read (filter_map pick us)
told_by told read pick h [] = refl
told_by told read pick h (u ∷ us) = go (pick u) (h u) (told_by told read pick h us)
  where
    go : (picked : Option Text) → told (part_of u) ≡ option_and_then read picked → filter_map told (map part_of us) ≡ filter_map read (filter_map pick us) → cons_option (told (part_of u)) (filter_map told (map part_of us)) ≡ filter_map read (cons_option picked (filter_map pick us))
    go None e more = ap₂ cons_option e more
    go (Some value) e more = ap₂ cons_option e more

all_files : (names : List Text) → filter_map (λ file. Some file) names ≡ names
all_files [] = refl
all_files (file ∷ more) = ap (λ rest. file ∷ rest) (all_files more)

files_told : (us : List Use) → files (map part_of us) ≡ files_used us
files_told us = told_by file_in (λ file. Some file) file_used file_use us ∙ all_files (files_used us)

-- ---- which lines are right

abbrev reads : Name → Text → Bool
reads name value = is_some (piece_of name value)

same_name : (name other : Name) → names_same name other ≡ true → name ≡ other
same_name names.Imin names.Imin e = refl
same_name names.Imax names.Imax e = refl
same_name names.Istop names.Istop e = refl
same_name names.Models names.Models e = refl
same_name names.Conflicts names.Conflicts e = refl
same_name names.Generate names.Generate e = refl
same_name name other e = absurd (true≢false (sym e))

right_said : (value : Option Piece) → is_right (said value) ≡ is_some value
right_said None = refl
right_said (Some piece) = refl

right_reads : (us : List Use) → list_all is_right (map part_of us) ≡ true → (name : Name) → list_all (reads name) (given name us) ≡ true
right_reads [] e name = refl
right_reads (Takes file ∷ us) e name = right_reads us e name
right_reads (Gives other value ∷ us) e name =
    let both = and_parts (is_right (said (piece_of other value))) (list_all is_right (map part_of us)) e in
    go (names_same other name) refl (sym (right_said (piece_of other value)) ∙ both.0) (right_reads us both.1 name)
  where
    go : (b : Bool) → names_same other name ≡ b → reads other value ≡ true → list_all (reads name) (given name us) ≡ true → list_all (reads name) (cons_option (cond b (Some value) None) (given name us)) ≡ true
    go true is here more = and_from (reads name value) (list_all (reads name) (given name us)) (ap (λ n. reads n value) (sym (same_name other name is)) ∙ here) more
    go false is here more = more
right_reads (Fails ∷ us) e name = absurd (true≢false (sym e))

right_works : (us : List Use) → list_all is_right (map part_of us) ≡ true → list_all works us ≡ true
right_works [] e = refl
right_works (Takes file ∷ us) e = right_works us e
right_works (Gives name value ∷ us) e = right_works us (and_parts (is_right (said (piece_of name value))) (list_all is_right (map part_of us)) e).1
right_works (Fails ∷ us) e = absurd (true≢false (sym e))

rest_reads : (b : Bool) (name : Name) (value : Text) (values : List Text) → list_all (reads name) (cons_option (cond b (Some value) None) values) ≡ true → list_all (reads name) values ≡ true
rest_reads true name value values e = (and_parts (reads name value) (list_all (reads name) values) e).1
rest_reads false name value values e = e

reads_right : (us : List Use) → list_all works us ≡ true → ((name : Name) → list_all (reads name) (given name us) ≡ true) → list_all is_right (map part_of us) ≡ true
reads_right [] e h = refl
reads_right (Takes file ∷ us) e h = reads_right us e h
reads_right (Gives name value ∷ us) e h =
    let here : given name (Gives name value ∷ us) ≡ value ∷ given name us = ap (λ b. cons_option (cond b (Some value) None) (given name us)) (id_itself name) in
    let read : (reads name value && list_all (reads name) (given name us)) ≡ true = ap (list_all (reads name)) (sym here) ∙ h name in
    and_from (is_right (said (piece_of name value))) (list_all is_right (map part_of us)) (right_said (piece_of name value) ∙ (and_parts (reads name value) (list_all (reads name) (given name us)) read).0) (reads_right us e (λ other. rest_reads (names_same name other) other value (given other us) (h other)))
reads_right (Fails ∷ us) e h = absurd (true≢false (sym e))

-- a condition on a line that fails
and_right : (x y : Bool) → y ≡ false → (x && y) ≡ false
and_right x y e = rw e (and-false x)

no_line : (line : List Part) → is_line line ≡ false → settings_from line ≡ None
no_line line e = rw e

wrong_part : (line : List Part) → list_all is_right line ≡ false → settings_from line ≡ None
wrong_part line e = no_line line (and_left _ _ e)

wrong_imin : (line : List Part) → is_once (imins line) ≡ false → settings_from line ≡ None
wrong_imin line e = no_line line (and_right (list_all is_right line) _ (and_left _ _ e))

after_imin : (line : List Part) → (is_once (imaxes line) && (is_once (stop_rules line) && (is_once (models line) && (is_once (budgets line) && is_once (numbers line))))) ≡ false → settings_from line ≡ None
after_imin line e = no_line line (and_right (list_all is_right line) _ (and_right (is_once (imins line)) _ e))

wrong_imax : (line : List Part) → is_once (imaxes line) ≡ false → settings_from line ≡ None
wrong_imax line e = after_imin line (and_left _ _ e)

wrong_stop : (line : List Part) → is_once (stop_rules line) ≡ false → settings_from line ≡ None
wrong_stop line e = after_imin line (and_right (is_once (imaxes line)) _ (and_left _ _ e))

after_stop : (line : List Part) → (is_once (models line) && (is_once (budgets line) && is_once (numbers line))) ≡ false → settings_from line ≡ None
after_stop line e = after_imin line (and_right (is_once (imaxes line)) _ (and_right (is_once (stop_rules line)) _ e))

wrong_models : (line : List Part) → is_once (models line) ≡ false → settings_from line ≡ None
wrong_models line e = after_stop line (and_left _ _ e)

wrong_budget : (line : List Part) → is_once (budgets line) ≡ false → settings_from line ≡ None
wrong_budget line e = after_stop line (and_right (is_once (models line)) _ (and_left _ _ e))

wrong_number : (line : List Part) → is_once (numbers line) ≡ false → settings_from line ≡ None
wrong_number line e = after_stop line (and_right (is_once (models line)) _ (and_right (is_once (budgets line)) _ e))

-- ---- the value of one option

abbrev head : List Text → Option Text
head values = slice_get values 0

abbrev read_all : {X : Type 0} → (Text → Option X) → List Text → Bool
read_all read values = list_all (λ value. is_some (read value)) values

all_same : (p q : Text → Bool) → ((value : Text) → p value ≡ q value) → (values : List Text) → list_all p values ≡ list_all q values
all_same p q h [] = refl
all_same p q h (value ∷ values) = ap₂ (λ a b. a && b) (h value) (all_same p q h values)

is_some-map : {X Y : Type 0} (f : X → Y) (o : Option X) → is_some o ≡ is_some (option_map f o)
is_some-map f None = refl
is_some-map f (Some x) = refl

-- a value that can't be read
unread : {X : Type 0} (read : Text → Option X) (default : X) (values : List Text) → length values ≤ 1 → given_or read default (head values) ≡ None → read_all read values ≡ false
unread read default [] few e = absurd (true≢false (ap is_some e))
unread read default (value ∷ []) few e = ap (λ o. is_some o && true) e
unread read default (value ∷ second ∷ more) few e = absurd (omega (arith, few))

record IsValue {X : Type 0} (read : Text → Option X) (default : X) (values : List Text) (x : X) : Type 0 where
  reads : read_all read values ≡ true
  value : value_or default (filter_map read values) ≡ x
  once : is_once (filter_map read values) ≡ true

read_one : {X : Type 0} (read : Text → Option X) (default : X) (values : List Text) (x : X) → length values ≤ 1 → given_or read default (head values) ≡ Some x → IsValue read default values x
read_one read default [] x few e = record { reads = refl; value = same_Some _ _ e; once = refl }
read_one read default (value ∷ []) x few e = record {
  reads = ap (λ o. is_some o && true) e;
  value = ap (λ o. value_or default (cons_option o [])) e;
  once = ap (λ o. is_once (cons_option o [])) e;
}
read_one read default (value ∷ second ∷ more) x few e = absurd (omega (arith, few))

-- the number of a generated text
numbers_are : (values : List Text) (number : Option ℕ) → length values ≤ 1 → given_or generated_of None (head values) ≡ Some number → filter_map (number_from 1 1000) values ≡ option_to_list number
numbers_are [] number few e = ap option_to_list (same_Some _ _ e)
numbers_are (value ∷ []) number few e = go (number_from 1 1000 value) e
  where
    go : (o : Option ℕ) → option_map Some o ≡ Some number → cons_option o [] ≡ option_to_list number
    go None e = absurd (true≢false (sym (ap is_some e)))
    go (Some n) e = ap option_to_list (same_Some _ _ e)
numbers_are (value ∷ second ∷ more) number few e = absurd (omega (arith, few))

all_read : {X : Type 0} (read : Text → Option X) (values : List Text) → read_all read values ≡ true → length (filter_map read values) ≡ length values
all_read read [] e = refl
all_read read (value ∷ values) e =
    let both = and_parts (is_some (read value)) (read_all read values) e in
    go (read value) both.0 (all_read read values both.1)
  where
    go : (o : Option _) → is_some o ≡ true → length (filter_map read values) ≡ length values → length (cons_option o (filter_map read values)) ≡ length (value ∷ values)
    go None e more = absurd (true≢false (sym e))
    go (Some x) e more = omega (arith, more)

-- ---- settings

imin_reads : (values : List Text) → read_all (number_from 0 1000) values ≡ list_all (reads names.Imin) values
imin_reads values = all_same (λ value. is_some ((number_from 0 1000) value)) (reads names.Imin) (λ value. is_some-map Imin ((number_from 0 1000) value)) values

imin_told : (us : List Use) → imins (map part_of us) ≡ filter_map (number_from 0 1000) (given names.Imin us)
imin_told us = told_by imin_in (number_from 0 1000) (value_in names.Imin) imin_use us

imax_reads : (values : List Text) → read_all (number_from 0 1000) values ≡ list_all (reads names.Imax) values
imax_reads values = all_same (λ value. is_some ((number_from 0 1000) value)) (reads names.Imax) (λ value. is_some-map Imax ((number_from 0 1000) value)) values

imax_told : (us : List Use) → imaxes (map part_of us) ≡ filter_map (number_from 0 1000) (given names.Imax us)
imax_told us = told_by imax_in (number_from 0 1000) (value_in names.Imax) imax_use us

stop_reads : (values : List Text) → read_all stop_of values ≡ list_all (reads names.Istop) values
stop_reads values = all_same (λ value. is_some (stop_of value)) (reads names.Istop) (λ value. is_some-map Istop (stop_of value)) values

stop_told : (us : List Use) → stop_rules (map part_of us) ≡ filter_map stop_of (given names.Istop us)
stop_told us = told_by stop_in stop_of (value_in names.Istop) stop_use us

models_reads : (values : List Text) → read_all (number_from 0 most_count) values ≡ list_all (reads names.Models) values
models_reads values = all_same (λ value. is_some ((number_from 0 most_count) value)) (reads names.Models) (λ value. is_some-map Models ((number_from 0 most_count) value)) values

models_told : (us : List Use) → models (map part_of us) ≡ filter_map (number_from 0 most_count) (given names.Models us)
models_told us = told_by models_in (number_from 0 most_count) (value_in names.Models) models_use us

conflicts_reads : (values : List Text) → read_all conflicts_of values ≡ list_all (reads names.Conflicts) values
conflicts_reads values = all_same (λ value. is_some (conflicts_of value)) (reads names.Conflicts) (λ value. is_some-map Conflicts (conflicts_of value)) values

conflicts_told : (us : List Use) → budgets (map part_of us) ≡ filter_map conflicts_of (given names.Conflicts us)
conflicts_told us = told_by conflicts_in conflicts_of (value_in names.Conflicts) conflicts_use us

generate_reads : (values : List Text) → read_all (number_from 1 1000) values ≡ list_all (reads names.Generate) values
generate_reads values = all_same (λ value. is_some ((number_from 1 1000) value)) (reads names.Generate) (λ value. is_some-map Generate ((number_from 1 1000) value)) values

generate_told : (us : List Use) → numbers (map part_of us) ≡ filter_map (number_from 1 1000) (given names.Generate us)
generate_told us = told_by number_in (number_from 1 1000) (value_in names.Generate) generate_use us

-- the settings, by the readings of the six values
abbrev joined : Option ℕ → Option ℕ → Option Stop → Option ℕ → Option (Option ℕ) → Option (Option ℕ) → List Text → Option Settings
joined a b c d e f files =
    option_and_then (λ imin. option_and_then (λ imax. option_and_then (λ stop. option_and_then (λ models. option_and_then (λ conflicts. option_and_then (λ number. option_map (λ input. record {
      imin = imin;
      imax = imax;
      stop = stop;
      models = models;
      conflicts = conflicts;
      log = None;
      input = input;
    }) (input_of (option_to_list number) files)) f) e) d) c) b) a

once_option : (value : Option ℕ) → is_once (option_to_list value) ≡ true
once_option None = refl
once_option (Some n) = refl

module _ (us : List Use) (fine : list_all works us ≡ true) (few : (name : Name) → length (given name us) ≤ 1) where
  -- a value that can't be read is wrong
  not_read : (name : Name) → list_all (reads name) (given name us) ≡ false → settings_from (map part_of us) ≡ None
  not_read name e = go (list_all is_right (map part_of us)) refl
    where
      go : (b : Bool) → list_all is_right (map part_of us) ≡ b → settings_from (map part_of us) ≡ None
      go true is = absurd (true≢false (sym (right_reads us is name) ∙ e))
      go false is = wrong_part (map part_of us) is

  all_joined : (a b : ℕ) (c : Stop) (d : ℕ) (e f : Option ℕ) → IsValue (number_from 0 1000) 0 (given names.Imin us) a → IsValue (number_from 0 1000) 20 (given names.Imax us) b → IsValue stop_of Sat (given names.Istop us) c
      → IsValue (number_from 0 most_count) 0 (given names.Models us) d → IsValue conflicts_of None (given names.Conflicts us) e → read_all generated_of (given names.Generate us) ≡ true → filter_map (number_from 1 1000) (given names.Generate us) ≡ option_to_list f
      → settings_from (map part_of us) ≡ joined (Some a) (Some b) (Some c) (Some d) (Some e) (Some f) (files_used us)
  all_joined a b c d e f imin imax stop most budget number listed =
      let line = map part_of us in
      let each : (name : Name) → list_all (reads name) (given name us) ≡ true = λ name. elim name as (λ n. list_all (reads n) (given n us) ≡ true) [
        | names.Imin ↦ sym (imin_reads (given names.Imin us)) ∙ imin.reads
        | names.Imax ↦ sym (imax_reads (given names.Imax us)) ∙ imax.reads
        | names.Istop ↦ sym (stop_reads (given names.Istop us)) ∙ stop.reads
        | names.Models ↦ sym (models_reads (given names.Models us)) ∙ most.reads
        | names.Conflicts ↦ sym (conflicts_reads (given names.Conflicts us)) ∙ budget.reads
        | names.Generate ↦ sym (generate_reads (given names.Generate us)) ∙ all_same (λ value. is_some (number_from 1 1000 value)) (λ value. is_some (generated_of value)) (λ value. is_some-map {Y = Option ℕ} Some (number_from 1 1000 value)) (given names.Generate us) ∙ number
      ] in
      let right : list_all is_right line ≡ true = reads_right us fine each in
      let one : is_once (numbers line) ≡ true = ap is_once (generate_told us ∙ listed) ∙ once_option f in
      let options : (is_once (stop_rules line) && (is_once (models line) && (is_once (budgets line) && is_once (numbers line)))) ≡ true = and_from _ _ (ap is_once (stop_told us) ∙ stop.once) (and_from _ _ (ap is_once (models_told us) ∙ most.once) (and_from _ _ (ap is_once (conflicts_told us) ∙ budget.once) one)) in
      let is : is_line line ≡ true = and_from _ _ right (and_from _ _ (ap is_once (imin_told us) ∙ imin.once) (and_from _ _ (ap is_once (imax_told us) ∙ imax.once) options)) in
      rw is (rw (ap (value_or 0) (imin_told us) ∙ imin.value, ap (value_or 20) (imax_told us) ∙ imax.value, ap (value_or Sat) (stop_told us) ∙ stop.value, ap (value_or 0) (models_told us) ∙ most.value, ap (value_or None) (conflicts_told us) ∙ budget.value, generate_told us ∙ listed, files_told us))

  joined_by : (a b : Option ℕ) (c : Option Stop) (d : Option ℕ) (e f : Option (Option ℕ)) → given_or (number_from 0 1000) 0 (head (given names.Imin us)) ≡ a → given_or (number_from 0 1000) 20 (head (given names.Imax us)) ≡ b → given_or stop_of Sat (head (given names.Istop us)) ≡ c
      → given_or (number_from 0 most_count) 0 (head (given names.Models us)) ≡ d → given_or conflicts_of None (head (given names.Conflicts us)) ≡ e → given_or generated_of None (head (given names.Generate us)) ≡ f
      → settings_from (map part_of us) ≡ joined a b c d e f (files_used us)
  joined_by None b c d e f ha hb hc hd he hf = not_read names.Imin (sym (imin_reads (given names.Imin us)) ∙ unread (number_from 0 1000) 0 (given names.Imin us) (few names.Imin) ha)
  joined_by (Some a) None c d e f ha hb hc hd he hf = not_read names.Imax (sym (imax_reads (given names.Imax us)) ∙ unread (number_from 0 1000) 20 (given names.Imax us) (few names.Imax) hb)
  joined_by (Some a) (Some b) None d e f ha hb hc hd he hf = not_read names.Istop (sym (stop_reads (given names.Istop us)) ∙ unread stop_of Sat (given names.Istop us) (few names.Istop) hc)
  joined_by (Some a) (Some b) (Some c) None e f ha hb hc hd he hf = not_read names.Models (sym (models_reads (given names.Models us)) ∙ unread (number_from 0 most_count) 0 (given names.Models us) (few names.Models) hd)
  joined_by (Some a) (Some b) (Some c) (Some d) None f ha hb hc hd he hf = not_read names.Conflicts (sym (conflicts_reads (given names.Conflicts us)) ∙ unread conflicts_of None (given names.Conflicts us) (few names.Conflicts) he)
  joined_by (Some a) (Some b) (Some c) (Some d) (Some e) None ha hb hc hd he hf = not_read names.Generate (sym (generate_reads (given names.Generate us)) ∙ all_same (λ value. is_some (number_from 1 1000 value)) (λ value. is_some (generated_of value)) (λ value. is_some-map {Y = Option ℕ} Some (number_from 1 1000 value)) (given names.Generate us) ∙ unread generated_of None (given names.Generate us) (few names.Generate) hf)
  joined_by (Some a) (Some b) (Some c) (Some d) (Some e) (Some f) ha hb hc hd he hf =
      all_joined a b c d e f (read_one (number_from 0 1000) 0 (given names.Imin us) a (few names.Imin) ha) (read_one (number_from 0 1000) 20 (given names.Imax us) b (few names.Imax) hb) (read_one stop_of Sat (given names.Istop us) c (few names.Istop) hc) (read_one (number_from 0 most_count) 0 (given names.Models us) d (few names.Models) hd) (read_one conflicts_of None (given names.Conflicts us) e (few names.Conflicts) he) (read_one generated_of None (given names.Generate us) f (few names.Generate) hf).reads (numbers_are (given names.Generate us) f (few names.Generate) hf)

-- an option with two values is no line
two_values : (us : List Use) (name : Name) → 2 ≤ length (given name us) → list_all is_right (map part_of us) ≡ true → settings_from (map part_of us) ≡ None
two_values us names.Imin two right =
    let read : read_all (number_from 0 1000) (given names.Imin us) ≡ true = imin_reads (given names.Imin us) ∙ right_reads us right names.Imin in
    wrong_imin (map part_of us) (lt-leb (length (imins (map part_of us))) 1 (omega (arith, two, ap length (imin_told us), all_read (number_from 0 1000) (given names.Imin us) read)))
two_values us names.Imax two right =
    let read : read_all (number_from 0 1000) (given names.Imax us) ≡ true = imax_reads (given names.Imax us) ∙ right_reads us right names.Imax in
    wrong_imax (map part_of us) (lt-leb (length (imaxes (map part_of us))) 1 (omega (arith, two, ap length (imax_told us), all_read (number_from 0 1000) (given names.Imax us) read)))
two_values us names.Istop two right =
    let read : read_all stop_of (given names.Istop us) ≡ true = stop_reads (given names.Istop us) ∙ right_reads us right names.Istop in
    wrong_stop (map part_of us) (lt-leb (length (stop_rules (map part_of us))) 1 (omega (arith, two, ap length (stop_told us), all_read stop_of (given names.Istop us) read)))
two_values us names.Models two right =
    let read : read_all (number_from 0 most_count) (given names.Models us) ≡ true = models_reads (given names.Models us) ∙ right_reads us right names.Models in
    wrong_models (map part_of us) (lt-leb (length (models (map part_of us))) 1 (omega (arith, two, ap length (models_told us), all_read (number_from 0 most_count) (given names.Models us) read)))
two_values us names.Conflicts two right =
    let read : read_all conflicts_of (given names.Conflicts us) ≡ true = conflicts_reads (given names.Conflicts us) ∙ right_reads us right names.Conflicts in
    wrong_budget (map part_of us) (lt-leb (length (budgets (map part_of us))) 1 (omega (arith, two, ap length (conflicts_told us), all_read conflicts_of (given names.Conflicts us) read)))
two_values us names.Generate two right =
    let read : read_all (number_from 1 1000) (given names.Generate us) ≡ true = generate_reads (given names.Generate us) ∙ right_reads us right names.Generate in
    wrong_number (map part_of us) (lt-leb (length (numbers (map part_of us))) 1 (omega (arith, two, ap length (generate_told us), all_read (number_from 1 1000) (given names.Generate us) read)))

repeated : (us : List Use) → Repeats [] us → settings_from (map part_of us) ≡ None
repeated us h = go (list_all is_right (map part_of us)) refl h
  where
    go : (b : Bool) → list_all is_right (map part_of us) ≡ b → Repeats [] us → settings_from (map part_of us) ≡ None
    go false is h = wrong_part (map part_of us) is
    go true is (inl fails) = absurd (true≢false (sym (right_works us is) ∙ fails))
    go true is (inr twice) = two_values us twice.0 twice.1 is

few_values : (rows : List Row) (name : Name) → IsOnce rows → length (values_at (id_of name) rows) ≤ 1
few_values rows name once = go (has_row (id_of name) rows) (once name)
  where
    go : (has : Bool) → length (values_at (id_of name) rows) ≡ cond has 1 0 → length (values_at (id_of name) rows) ≤ 1
    go true e = omega (arith, e)
    go false e = omega (arith, e)

-- the settings of what is used are those of the rows
used_settings : (us : List Use) (rows : List Row) → Reads [] us rows → settings_from (map part_of us) ≡ settings_given (λ id. slice_get (values_at id rows) 0) (values_at files_id rows)
used_settings us rows h =
    let few : (name : Name) → length (given name us) ≤ 1 = λ name. subst (λ values. length values ≤ 1) (h.values name) (few_values rows name h.once) in
    joined_by us h.works few _ _ _ _ _ _ refl refl refl refl refl refl
    ∙ rw (sym (h.values names.Imin), sym (h.values names.Imax), sym (h.values names.Istop), sym (h.values names.Models), sym (h.values names.Conflicts), sym (h.values names.Generate), sym h.files) refl

-- ---- the settings of words

settings_by : (words : List Text) → settings_of words ≡ settings_from (map part_of (uses None words))
settings_by words = ap settings_from (parts_used None words)

found_rows : (found : Found) → settings_given (λ id. slice_get (values_at id (rows_of found)) 0) (values_at files_id (rows_of found)) ≡ settings_found found
found_rows found =
    let first : (id : Text) → slice_get (values_at id (rows_of found)) 0 ≡ first_value found id = λ id. sym (first_value-rows found id ∙ first_at id (rows_of found)) in
    let listed : values_at files_id (rows_of found) ≡ unwrap_or (all_of files_id (rows_of found)) [] = listed_at (find (λ (r : Row). Rattle.std.specs.Prelude.bytes_eq r.id files_id) (rows_of found)) in
    rw (first (codes "imin"), first (codes "imax"), first (codes "istop"), first (codes "models"), first (codes "conflicts"), first (codes "generate"), listed ∙ ap (λ o. unwrap_or o []) (sym (raw_values-rows found files_id))) refl
  where
    listed_at : (o : Option Row) → option_map_or (λ (r : Row). r.values) o [] ≡ unwrap_or (option_map (λ (r : Row). r.values) o) []
    listed_at None = refl
    listed_at (Some r) = refl

pub all_utf8 : {Z : Type 0} (words : List (Rattle.std.specs.Prelude.String Z)) → AllByRecursion IsUtf8 (map string_bytes words)
all_utf8 [] = tt
all_utf8 (word ∷ words) = (IsUtf8-string_bytes word, all_utf8 words)

-- a parse with no fault gives the settings
pub read_words : (words : List Text) (found : Found) → AllByRecursion IsUtf8 words → fault_of app words ≡ [] → rows_of found ≡ matches_of app words → settings_of words ≡ settings_found found
read_words words found u none rows =
    let same : Some (rows_of found) ≡ run [] (uses None words) = ap Some rows ∙ ap (λ k. unless k (Some (matches_of app words))) (sym none) ∙ parsed words u in
    settings_by words ∙ used_settings (uses None words) (rows_of found) (subst (Results [] (uses None words)) (sym same) (results (uses None words) [] once_none)) ∙ found_rows found

-- a parse with a fault that isn't want of memory has none
pub no_words : (words : List Text) (error : Error) → AllByRecursion IsUtf8 words → HasKind (fault_of app words) error → (kind_of error ≡ kind.OutOfMemory → ⊥) → settings_of words ≡ None
no_words words error u (inl memory) other = absurd (other memory)
no_words words error u (inr among) other = go (fault_of app words) among (parsed words u)
  where
    go : (kinds : Kinds) → IsAmong (kind_of error) kinds → unless kinds (Some (matches_of app words)) ≡ run [] (uses None words) → settings_of words ≡ None
    go [] among same = absurd among
    go (k ∷ ks) among same = settings_by words ∙ repeated (uses None words) (subst (Results [] (uses None words)) (sym same) (results (uses None words) [] once_none))

-- ---- more files than a line has

no_input : (ns : List ℕ) (names : List (List ℕ)) → 17 ≤ length names → input_of ns names ≡ None
no_input [] names h =
    let many : nat_le (length names) 16 ≡ false = lt-leb (length names) 16 (omega arith) in
    rw (and_right (nat_le 1 (length names)) _ many)
no_input (n ∷ ns) [] h = absurd (omega arith)
no_input (n ∷ ns) (name ∷ names) h = refl

joined_none : (a b : Option ℕ) (c : Option Stop) (d : Option ℕ) (e f : Option (Option ℕ)) (names : List Text) → 17 ≤ length names → joined a b c d e f names ≡ None
joined_none None b c d e f names h = refl
joined_none (Some a) None c d e f names h = refl
joined_none (Some a) (Some b) None d e f names h = refl
joined_none (Some a) (Some b) (Some c) None e f names h = refl
joined_none (Some a) (Some b) (Some c) (Some d) None f names h = refl
joined_none (Some a) (Some b) (Some c) (Some d) (Some e) None names h = refl
joined_none (Some a) (Some b) (Some c) (Some d) (Some e) (Some f) names h = rw (no_input (option_to_list f) names h) refl

-- more than 16 files give no settings
pub many_files : (value : Text → Option Text) (names : List Text) → 17 ≤ length names → settings_given value names ≡ None
many_files value names h =
    joined_none (given_or (number_from 0 1000) 0 (value (codes "imin"))) (given_or (number_from 0 1000) 20 (value (codes "imax"))) (given_or stop_of Sat (value (codes "istop"))) (given_or (number_from 0 most_count) 0 (value (codes "models"))) (given_or conflicts_of None (value (codes "conflicts"))) (given_or generated_of None (value (codes "generate"))) names h
