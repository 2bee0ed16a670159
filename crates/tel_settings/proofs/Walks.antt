-- The walk of the reader over the words, by what they use.
use Rattle.std.proofs.Common.{◌≡◌, ◌∙◌, ℕ, suc, Bool, true, false, cond, List, [], ◌∷◌, length, map, Option, Some, None, refl, sym, ap, ap₂, codes}
use Rattle.std.specs.Prelude.{◌&&◌, ◌||◌, bytes_eq, fold, chars, slice_get, IsUtf8}
use Rattle.std.specs.List.{AllByRecursion}
use Rattle.clap.specs.Words.{Row, Rule, Text, fault_of, matches_of}
use Rattle.clap.specs.Kinds.{Kinds, or_else}
use Rattle.clap.specs.Lexer.{long_of, short_of}
use Rattle.clap.specs.Simple.{built}
use Rattle.clap.specs.Walk.{Held, Waiting, Walk, idle, option, positional, arg_by_long, default_rows, finished, has_row, is_empty, nothing_held, settled_rows, used, walk, walk_from, walked, with_default}
use Rattle.clap.specs.Faults.{built_fault, defaults_fault, default_fault, flags_fault, settle_fault, turn_fault, walk_fault}
use Rattle.clap.specs.declared.error.kind.ErrorKind.TheVariants as kind
use Rattle.clap.proofs.FaultLemmas.{leaf_fault}
use Rattle.tel_settings.specs.Names.{Name}
use Rattle.tel_settings.specs.Words.{is_plain, name_of}
use Rattle.tel_settings.specs.Given.{app}
use Rattle.tel_settings.proofs.Rules.{id_of, files_id, option_built, files_built, shape, rules, by_id, id_itself}
use Rattle.tel_settings.proofs.Uses.{Use, Takes, Gives, Fails, uses, assigned_use}
use Rattle.tel_settings.proofs.Looks.{Looks, Dashes, Plain, Short, Waits, Assigns, Unknown, looks}

-- where nothing failed, this
abbrev pub unless : {X : Type 0} → Kinds → Option X → Option X
unless [] o = o
unless (k ∷ ks) o = None

unless-none : {X : Type 0} (kinds : Kinds) → unless {X = X} kinds None ≡ None
unless-none [] = refl
unless-none (k ∷ ks) = refl

unless-or : {X : Type 0} (a b : Kinds) (o : Option X) → unless (or_else a b) o ≡ unless a (unless b o)
unless-or [] b o = refl
unless-or (k ∷ ks) b o = refl

or-nil : (kinds : Kinds) → or_else kinds [] ≡ kinds
or-nil [] = refl
or-nil (k ∷ ks) = refl

-- the rows after these uses, unless one fails
abbrev pub run : List Row → List Use → Option (List Row)
run rows [] = Some rows
run rows (Fails ∷ us) = None
run rows (Gives name value ∷ us) = cond (has_row (id_of name) rows) None (run (used (option_built (id_of name)) (value ∷ []) rows) us)
run rows (Takes file ∷ us) = run (used files_built (file ∷ []) rows) us

-- ---- where a walk stands

abbrev at : List Row → Option (Text × List Text) → Waiting → Bool → Walk
at rows pending waiting is_trailing = record {
  held = record { rows = rows; pending = pending; skip = 0 };
  waiting = waiting;
  position = 1;
  is_trailing = is_trailing;
  stopped = None;
}

abbrev fails_at : List Row → Option (Text × List Text) → Kinds
fails_at rows pending = settle_fault rules false (record { rows = rows; pending = pending; skip = 0 })

-- the rows at the end of the words, unless one of them fails
abbrev outcome : Walk → List Text → Option (List Row)
outcome w words =
    unless (or_else (walk_fault shape [] w words) (settle_fault rules false (fold (walked rules []) w words).held))
    (Some (settled_rows rules (fold (walked rules []) w words).held.pending (fold (walked rules []) w words).held.rows))

outcome-ends : (w : Walk) → outcome w [] ≡ unless (settle_fault rules false w.held) (Some (settled_rows rules w.held.pending w.held.rows))
unfolding walk_fault
outcome-ends w = refl

outcome-more : (w : Walk) (word : Text) (words : List Text) → outcome w (word ∷ words) ≡ unless (turn_fault shape [] w word) (outcome (walked rules [] w word) words)
unfolding walk_fault
outcome-more w word words = go (turn_fault shape [] w word) (walk_fault shape [] (walked rules [] w word) words) _ _
  where
    go : (a b c : Kinds) (o : Option (List Row)) → unless (or_else (or_else a b) c) o ≡ unless a (unless (or_else b c) o)
    go [] b c o = refl
    go (k ∷ ks) b c o = refl

-- one word more, where what it fails by and where it leads are known
outcome-by : (w next : Walk) (word : Text) (words : List Text) (kinds : Kinds) → turn_fault shape [] w word ≡ kinds → walked rules [] w word ≡ next → outcome w (word ∷ words) ≡ unless kinds (outcome next words)
outcome-by w next word words kinds fault goes = outcome-more w word words ∙ ap₂ (λ (k : Kinds) (v : Walk). unless k (outcome v words)) fault goes

-- ---- one turn

unmet : (waiting : Waiting) (word : Text) → Rattle.clap.specs.Walk.subcommand_met [] waiting word ≡ None
unmet idle word = refl
unmet (option id) word = refl
unmet positional word = refl

-- a positional that takes one value at a time
one_value : {X : Type 0} (b : Bool) (x y : X) → cond (b && false) x y ≡ y
one_value true x y = refl
one_value false x y = refl

abbrev waits_for : Option (Text × List Text) → Bool
waits_for pending = Rattle.clap.specs.Walk.is_pending files_built pending

-- a file, where no option waits for its value
file_fault : (rows : List Row) (pending : Option (Text × List Text)) (busy : Bool) (word : Text) → bytes_eq word (codes "--") ≡ false → long_of word ≡ None → short_of word ≡ None
    → turn_fault shape [] (at rows pending (cond busy positional idle) false) word ≡ fails_at rows pending
file_fault rows pending true word dashes long short = rw (dashes, long, short) (one_value (waits_for pending) [] (fails_at rows pending))
file_fault rows pending false word dashes long short = rw (dashes, long, short) (one_value (waits_for pending) [] (fails_at rows pending))

file_held : (rows : List Row) (pending : Option (Text × List Text)) (word : Text) → Rattle.clap.specs.Walk.positional_held rules files_built word (record { rows = rows; pending = pending; skip = 0 }) ≡ record { rows = settled_rows rules pending rows; pending = Some (files_id, word ∷ []); skip = 0 }
file_held rows pending word = ap (Rattle.clap.specs.Walk.pushed files_id word) (one_value (waits_for pending) (record { rows = rows; pending = pending; skip = 0 }) (Rattle.clap.specs.Walk.settled rules (record { rows = rows; pending = pending; skip = 0 })))

abbrev with_held : Bool → Held → Walk
with_held is_trailing held = record { held = held; waiting = positional; position = 1; is_trailing = is_trailing; stopped = None }

file_goes : (rows : List Row) (pending : Option (Text × List Text)) (busy : Bool) (word : Text) → bytes_eq word (codes "--") ≡ false → long_of word ≡ None → short_of word ≡ None
    → walked rules [] (at rows pending (cond busy positional idle) false) word ≡ at (settled_rows rules pending rows) (Some (files_id, word ∷ [])) positional false
unfolding walked
file_goes rows pending true word dashes long short = rw (dashes, long, short) (ap (with_held false) (file_held rows pending word))
file_goes rows pending false word dashes long short = rw (dashes, long, short) (ap (with_held false) (file_held rows pending word))

-- the same behind `--`
behind_fault : (rows : List Row) (pending : Option (Text × List Text)) (waiting : Waiting) (word : Text) → turn_fault shape [] (at rows pending waiting true) word ≡ fails_at rows pending
behind_fault rows pending waiting word = one_value (waits_for pending) [] (fails_at rows pending)

behind_goes : (rows : List Row) (pending : Option (Text × List Text)) (waiting : Waiting) (word : Text) → walked rules [] (at rows pending waiting true) word ≡ at (settled_rows rules pending rows) (Some (files_id, word ∷ [])) positional true
unfolding walked
behind_goes rows pending waiting word = ap (with_held true) (file_held rows pending word)

-- `--`
dashes_fault : (rows : List Row) (pending : Option (Text × List Text)) (waiting : Waiting) (word : Text) → bytes_eq word (codes "--") ≡ true → turn_fault shape [] (at rows pending waiting false) word ≡ []
dashes_fault rows pending waiting word dashes = rw (unmet waiting word) (rw dashes refl)

dashes_goes : (rows : List Row) (pending : Option (Text × List Text)) (waiting : Waiting) (word : Text) → bytes_eq word (codes "--") ≡ true → walked rules [] (at rows pending waiting false) word ≡ at rows pending waiting true
unfolding walked
dashes_goes rows pending waiting word dashes = rw (unmet waiting word) (rw dashes refl)

-- an option that waits for its value
waits_fault : (rows : List Row) (pending : Option (Text × List Text)) (busy : Bool) (word text : Text) (name : Name) → bytes_eq word (codes "--") ≡ false → long_of word ≡ Some (text, None) → arg_by_long rules text ≡ Some (option_built (id_of name))
    → turn_fault shape [] (at rows pending (cond busy positional idle) false) word ≡ fails_at rows pending
waits_fault rows pending true word text name dashes long found = rw (dashes, long) (rw found (or-nil (fails_at rows pending)))
waits_fault rows pending false word text name dashes long found = rw (dashes, long) (rw found (or-nil (fails_at rows pending)))

waits_goes : (rows : List Row) (pending : Option (Text × List Text)) (busy : Bool) (word text : Text) (name : Name) → bytes_eq word (codes "--") ≡ false → long_of word ≡ Some (text, None) → arg_by_long rules text ≡ Some (option_built (id_of name))
    → walked rules [] (at rows pending (cond busy positional idle) false) word ≡ at (settled_rows rules pending rows) (Some (id_of name, [])) (option (id_of name)) false
unfolding walked
waits_goes rows pending true word text name dashes long found = rw (dashes, long) (rw found refl)
waits_goes rows pending false word text name dashes long found = rw (dashes, long) (rw found refl)

-- an option with its value
abbrev repeats : Name → List Row → Kinds
repeats name rows = cond (has_row (id_of name) rows) (kind.ArgumentConflict ∷ []) []

use_repeats : (name : Name) (value : Text) (rows : List Row) → Rattle.clap.specs.Faults.use_fault false (option_built (id_of name)) (value ∷ []) rows ≡ repeats name rows
use_repeats name value rows = go (has_row (id_of name) rows)
  where
    go : (has : Bool) → or_else (cond (has && true) (kind.ArgumentConflict ∷ []) []) [] ≡ cond has (kind.ArgumentConflict ∷ []) []
    go true = refl
    go false = refl

assigns_fault : (rows : List Row) (pending : Option (Text × List Text)) (busy : Bool) (word text value : Text) (name : Name) → bytes_eq word (codes "--") ≡ false → long_of word ≡ Some (text, Some value) → arg_by_long rules text ≡ Some (option_built (id_of name))
    → turn_fault shape [] (at rows pending (cond busy positional idle) false) word ≡ or_else (fails_at rows pending) (repeats name (settled_rows rules pending rows))
assigns_fault rows pending true word text value name dashes long found = rw (dashes, long) (rw found (or-nil _ ∙ ap (or_else (fails_at rows pending)) (use_repeats name value (settled_rows rules pending rows))))
assigns_fault rows pending false word text value name dashes long found = rw (dashes, long) (rw found (or-nil _ ∙ ap (or_else (fails_at rows pending)) (use_repeats name value (settled_rows rules pending rows))))

assigns_goes : (rows : List Row) (pending : Option (Text × List Text)) (busy : Bool) (word text value : Text) (name : Name) → bytes_eq word (codes "--") ≡ false → long_of word ≡ Some (text, Some value) → arg_by_long rules text ≡ Some (option_built (id_of name))
    → walked rules [] (at rows pending (cond busy positional idle) false) word ≡ at (used (option_built (id_of name)) (value ∷ []) (settled_rows rules pending rows)) None idle false
unfolding walked
assigns_goes rows pending true word text value name dashes long found = rw (dashes, long) (rw found refl)
assigns_goes rows pending false word text value name dashes long found = rw (dashes, long) (rw found refl)

-- a value, where an option waits for it
value_fault : (rows : List Row) (word : Text) (name : Name) → bytes_eq word (codes "--") ≡ false → long_of word ≡ None → short_of word ≡ None
    → turn_fault shape [] (at rows (Some (id_of name, [])) (option (id_of name)) false) word ≡ []
value_fault rows word name dashes long short = rw (dashes, long, short) refl

value_goes : (rows : List Row) (word : Text) (name : Name) → bytes_eq word (codes "--") ≡ false → long_of word ≡ None → short_of word ≡ None
    → walked rules [] (at rows (Some (id_of name, [])) (option (id_of name)) false) word ≡ at rows (Some (id_of name, word ∷ [])) idle false
unfolding walked
value_goes rows word name dashes long short = rw (dashes, long, short) (rw (by_id name) (rw (id_itself name) refl))

-- ---- words that fail

-- something fails
abbrev Fault : Kinds → Type 0
Fault kinds = (first : Rattle.clap.specs.declared.error.kind.ErrorKind.ErrorKind) × (more : Kinds) × (kinds ≡ first ∷ more)

fault_then : (a b : Kinds) → Fault a → Fault (or_else a b)
fault_then a b f = (f.0, or_else-tail f.1 b, ap (λ k. or_else k b) f.2)
  where
    or_else-tail : Kinds → Kinds → Kinds
    or_else-tail ks b = ks

failed : (w : Walk) (word : Text) (words : List Text) → Fault (turn_fault shape [] w word) → outcome w (word ∷ words) ≡ None
failed w word words f = outcome-more w word words ∙ ap (λ (k : Kinds). unless k (outcome (walked rules [] w word) words)) f.2

unknown_fault : (w : Held) (waiting : Waiting) (word text : Text) (value : Option Text) → w.skip ≡ 0 → bytes_eq word (codes "--") ≡ false → long_of word ≡ Some (text, value) → arg_by_long rules text ≡ None
    → Fault (turn_fault shape [] (record { held = w; waiting = waiting; position = 1; is_trailing = false; stopped = None }) word)
unknown_fault w waiting word text value skip dashes long found = (kind.UnknownArgument, [], rw (unmet waiting word) (rw (dashes, long) (rw found refl)))

short_fault : (rows : List Row) (pending : Option (Text × List Text)) (waiting : Waiting) (word flags : Text) (letter many : ℕ) → bytes_eq word (codes "--") ≡ false → long_of word ≡ None → short_of word ≡ Some flags → length flags ≡ suc many → slice_get (chars flags) 0 ≡ Some letter
    → Fault (turn_fault shape [] (at rows pending waiting false) word)
unfolding flags_fault
short_fault rows pending waiting word flags letter many dashes long short count first = (kind.UnknownArgument, [], rw (unmet waiting word) (rw (dashes, long, short) (rw count (rw first refl))))

-- an option has no value
lacks_value : (rows : List Row) (name : Name) → fails_at rows (Some (id_of name, [])) ≡ kind.InvalidValue ∷ []
lacks_value rows name = rw (by_id name) refl

-- where an option waits for its value, a word that begins with a hyphen fails
assigned_early : (rows : List Row) (word text : Text) (value : Option Text) (name other : Name) → bytes_eq word (codes "--") ≡ false → long_of word ≡ Some (text, value) → arg_by_long rules text ≡ Some (option_built (id_of other))
    → Fault (turn_fault shape [] (at rows (Some (id_of name, [])) (option (id_of name)) false) word)
assigned_early rows word text None name other dashes long found = (kind.InvalidValue, [], rw (dashes, long) (rw found (or-nil _ ∙ lacks_value rows name)))
assigned_early rows word text (Some value) name other dashes long found = (kind.InvalidValue, [], rw (dashes, long) (rw found (or-nil _ ∙ ap (λ k. or_else k (Rattle.clap.specs.Faults.use_fault false (option_built (id_of other)) (value ∷ []) (settled_rows rules (Some (id_of name, [])) rows))) (lacks_value rows name))))

-- ---- one value that is read

value_settled : (name : Name) (value : Text) (rows : List Row) → settled_rows rules (Some (id_of name, value ∷ [])) rows ≡ used (option_built (id_of name)) (value ∷ []) rows
value_settled name value rows = rw (by_id name) refl

value_repeats : (name : Name) (value : Text) (rows : List Row) → fails_at rows (Some (id_of name, value ∷ [])) ≡ repeats name rows
value_repeats name value rows = rw (by_id name) (use_repeats name value rows)

run-gives : (name : Name) (value : Text) (rows : List Row) (us : List Use) → unless (repeats name rows) (run (used (option_built (id_of name)) (value ∷ []) rows) us) ≡ run rows (Gives name value ∷ us)
run-gives name value rows us = go (has_row (id_of name) rows) (run (used (option_built (id_of name)) (value ∷ []) rows) us)
  where
    go : (has : Bool) (o : Option (List Row)) → unless (cond has (kind.ArgumentConflict ∷ []) []) o ≡ cond has None o
    go true o = refl
    go false o = refl

-- ---- all words

-- where walks over these words end
record Ends (words : List Text) : Type 0 where
  open_at : (rows : List Row) (pending : Option (Text × List Text)) (busy : Bool) → outcome (at rows pending (cond busy positional idle) false) words ≡ unless (fails_at rows pending) (run (settled_rows rules pending rows) (uses None words))
  waiting_at : (rows : List Row) (name : Name) → outcome (at rows (Some (id_of name, [])) (option (id_of name)) false) words ≡ run rows (uses (Some name) words)
  behind_at : (rows : List Row) (pending : Option (Text × List Text)) (waiting : Waiting) → outcome (at rows pending waiting true) words ≡ unless (fails_at rows pending) (run (settled_rows rules pending rows) (map Takes words))

ends_none : Ends []
ends_none = record {
  open_at = λ rows pending busy. outcome-ends (at rows pending (cond busy positional idle) false);
  waiting_at = λ rows name. outcome-ends (at rows (Some (id_of name, [])) (option (id_of name)) false) ∙ ap (λ k. unless k (Some (settled_rows rules (Some (id_of name, [])) rows))) (lacks_value rows name);
  behind_at = λ rows pending waiting. outcome-ends (at rows pending waiting true);
}

-- what a word uses
uses_dashes : (word : Text) (words : List Text) → bytes_eq word (codes "--") ≡ true → map Takes words ≡ uses None (word ∷ words)
uses_dashes word words dashes = rw dashes refl

uses_file : (word : Text) (words : List Text) → bytes_eq word (codes "--") ≡ false → is_plain word ≡ true → Takes word ∷ uses None words ≡ uses None (word ∷ words)
uses_file word words dashes plain = rw (dashes, plain) refl

uses_fails : (word : Text) (words : List Text) → bytes_eq word (codes "--") ≡ false → is_plain word ≡ false → name_of word ≡ None → assigned_use word ≡ Fails → Fails ∷ uses None words ≡ uses None (word ∷ words)
uses_fails word words dashes plain named assigned = rw (dashes, plain, named, assigned) refl

uses_waits : (word : Text) (words : List Text) (name : Name) → bytes_eq word (codes "--") ≡ false → is_plain word ≡ false → name_of word ≡ Some name → uses (Some name) words ≡ uses None (word ∷ words)
uses_waits word words name dashes plain named = rw (dashes, plain, named) refl

uses_gives : (word : Text) (words : List Text) (name : Name) (value : Text) → bytes_eq word (codes "--") ≡ false → is_plain word ≡ false → name_of word ≡ None → assigned_use word ≡ Gives name value → Gives name value ∷ uses None words ≡ uses None (word ∷ words)
uses_gives word words name value dashes plain named assigned = rw (dashes, plain, named, assigned) refl

uses_value : (word : Text) (words : List Text) (name : Name) → is_plain word ≡ true → Gives name word ∷ uses None words ≡ uses (Some name) (word ∷ words)
uses_value word words name plain = rw plain refl

open_word : (rows : List Row) (pending : Option (Text × List Text)) (busy : Bool) (word : Text) (words : List Text) → Ends words → Looks word → outcome (at rows pending (cond busy positional idle) false) (word ∷ words) ≡ unless (fails_at rows pending) (run (settled_rows rules pending rows) (uses None (word ∷ words)))
open_word rows pending busy word words h (Dashes dashes plain) =
    outcome-by (at rows pending (cond busy positional idle) false) (at rows pending (cond busy positional idle) true) word words [] (dashes_fault rows pending (cond busy positional idle) word dashes) (dashes_goes rows pending (cond busy positional idle) word dashes)
    ∙ h.behind_at rows pending (cond busy positional idle)
    ∙ ap (λ us. unless (fails_at rows pending) (run (settled_rows rules pending rows) us)) (uses_dashes word words dashes)
open_word rows pending busy word words h (Plain dashes plain long short) =
    outcome-by (at rows pending (cond busy positional idle) false) (at (settled_rows rules pending rows) (Some (files_id, word ∷ [])) positional false) word words (fails_at rows pending) (file_fault rows pending busy word dashes long short) (file_goes rows pending busy word dashes long short)
    ∙ ap (unless (fails_at rows pending)) (h.open_at (settled_rows rules pending rows) (Some (files_id, word ∷ [])) true)
    ∙ ap (λ us. unless (fails_at rows pending) (run (settled_rows rules pending rows) us)) (uses_file word words dashes plain)
open_word rows pending busy word words h (Short flags letter many dashes plain named assigned long short count first) =
    failed (at rows pending (cond busy positional idle) false) word words (short_fault rows pending (cond busy positional idle) word flags letter many dashes long short count first)
    ∙ sym (unless-none (fails_at rows pending))
    ∙ ap (λ us. unless (fails_at rows pending) (run (settled_rows rules pending rows) us)) (uses_fails word words dashes plain named assigned)
open_word rows pending busy word words h (Waits name text dashes plain named long found) =
    outcome-by (at rows pending (cond busy positional idle) false) (at (settled_rows rules pending rows) (Some (id_of name, [])) (option (id_of name)) false) word words (fails_at rows pending) (waits_fault rows pending busy word text name dashes long found) (waits_goes rows pending busy word text name dashes long found)
    ∙ ap (unless (fails_at rows pending)) (h.waiting_at (settled_rows rules pending rows) name)
    ∙ ap (λ us. unless (fails_at rows pending) (run (settled_rows rules pending rows) us)) (uses_waits word words name dashes plain named)
open_word rows pending busy word words h (Assigns name text value dashes plain named assigned long found) =
    outcome-by (at rows pending (cond busy positional idle) false) (at (used (option_built (id_of name)) (value ∷ []) (settled_rows rules pending rows)) None idle false) word words (or_else (fails_at rows pending) (repeats name (settled_rows rules pending rows))) (assigns_fault rows pending busy word text value name dashes long found) (assigns_goes rows pending busy word text value name dashes long found)
    ∙ unless-or (fails_at rows pending) (repeats name (settled_rows rules pending rows)) _
    ∙ ap (λ o. unless (fails_at rows pending) (unless (repeats name (settled_rows rules pending rows)) o)) (h.open_at (used (option_built (id_of name)) (value ∷ []) (settled_rows rules pending rows)) None false)
    ∙ ap (unless (fails_at rows pending)) (run-gives name value (settled_rows rules pending rows) (uses None words))
    ∙ ap (λ us. unless (fails_at rows pending) (run (settled_rows rules pending rows) us)) (uses_gives word words name value dashes plain named assigned)
open_word rows pending busy word words h (Unknown text value dashes plain named assigned long found) =
    failed (at rows pending (cond busy positional idle) false) word words (unknown_fault (record { rows = rows; pending = pending; skip = 0 }) (cond busy positional idle) word text value refl dashes long found)
    ∙ sym (unless-none (fails_at rows pending))
    ∙ ap (λ us. unless (fails_at rows pending) (run (settled_rows rules pending rows) us)) (uses_fails word words dashes plain named assigned)

-- a value that begins with a hyphen
no_value : (rows : List Row) (name : Name) (word : Text) (words : List Text) → is_plain word ≡ false → None ≡ run rows (uses (Some name) (word ∷ words))
no_value rows name word words plain = rw plain refl

waiting_word : (rows : List Row) (name : Name) (word : Text) (words : List Text) → Ends words → Looks word → outcome (at rows (Some (id_of name, [])) (option (id_of name)) false) (word ∷ words) ≡ run rows (uses (Some name) (word ∷ words))
waiting_word rows name word words h (Dashes dashes plain) =
    outcome-by (at rows (Some (id_of name, [])) (option (id_of name)) false) (at rows (Some (id_of name, [])) (option (id_of name)) true) word words [] (dashes_fault rows (Some (id_of name, [])) (option (id_of name)) word dashes) (dashes_goes rows (Some (id_of name, [])) (option (id_of name)) word dashes)
    ∙ h.behind_at rows (Some (id_of name, [])) (option (id_of name))
    ∙ ap (λ k. unless k (run (settled_rows rules (Some (id_of name, [])) rows) (map Takes words))) (lacks_value rows name)
    ∙ no_value rows name word words plain
waiting_word rows name word words h (Plain dashes plain long short) =
    outcome-by (at rows (Some (id_of name, [])) (option (id_of name)) false) (at rows (Some (id_of name, word ∷ [])) idle false) word words [] (value_fault rows word name dashes long short) (value_goes rows word name dashes long short)
    ∙ h.open_at rows (Some (id_of name, word ∷ [])) false
    ∙ ap₂ (λ (k : Kinds) (r : List Row). unless k (run r (uses None words))) (value_repeats name word rows) (value_settled name word rows)
    ∙ run-gives name word rows (uses None words)
    ∙ ap (run rows) (uses_value word words name plain)
waiting_word rows name word words h (Short flags letter many dashes plain named assigned long short count first) =
    failed (at rows (Some (id_of name, [])) (option (id_of name)) false) word words (short_fault rows (Some (id_of name, [])) (option (id_of name)) word flags letter many dashes long short count first)
    ∙ no_value rows name word words plain
waiting_word rows name word words h (Waits other text dashes plain named long found) =
    failed (at rows (Some (id_of name, [])) (option (id_of name)) false) word words (assigned_early rows word text None name other dashes long found)
    ∙ no_value rows name word words plain
waiting_word rows name word words h (Assigns other text value dashes plain named assigned long found) =
    failed (at rows (Some (id_of name, [])) (option (id_of name)) false) word words (assigned_early rows word text (Some value) name other dashes long found)
    ∙ no_value rows name word words plain
waiting_word rows name word words h (Unknown text value dashes plain named assigned long found) =
    failed (at rows (Some (id_of name, [])) (option (id_of name)) false) word words (unknown_fault (record { rows = rows; pending = Some (id_of name, []); skip = 0 }) (option (id_of name)) word text value refl dashes long found)
    ∙ no_value rows name word words plain

behind_word : (rows : List Row) (pending : Option (Text × List Text)) (waiting : Waiting) (word : Text) (words : List Text) → Ends words → outcome (at rows pending waiting true) (word ∷ words) ≡ unless (fails_at rows pending) (run (settled_rows rules pending rows) (map Takes (word ∷ words)))
behind_word rows pending waiting word words h =
    outcome-by (at rows pending waiting true) (at (settled_rows rules pending rows) (Some (files_id, word ∷ [])) positional true) word words (fails_at rows pending) (behind_fault rows pending waiting word) (behind_goes rows pending waiting word)
    ∙ ap (unless (fails_at rows pending)) (h.behind_at (settled_rows rules pending rows) (Some (files_id, word ∷ [])) positional)

ends_more : (word : Text) (words : List Text) → Looks word → Ends words → Ends (word ∷ words)
ends_more word words look h = record {
  open_at = λ rows pending busy. open_word rows pending busy word words h look;
  waiting_at = λ rows name. waiting_word rows name word words h look;
  behind_at = λ rows pending waiting. behind_word rows pending waiting word words h;
}

ends : (words : List Text) → AllByRecursion IsUtf8 words → Ends words
ends [] u = ends_none
ends (word ∷ words) u = ends_more word words (looks word u.0) (ends words u.1)

-- ---- what a parse gives

-- an option with no default
abbrev IsBare : Rule → Type 0
IsBare a = a.defaults ≡ []

no_default : (rows : List Row) (a : Rule) → IsBare a → with_default rows a ≡ rows
no_default rows a bare = ap (λ defaults. cond (has_row a.id rows) rows (default_rows a.id (Rattle.clap.specs.Walk.reading_by a) defaults rows)) bare ∙ same (has_row a.id rows)
  where
    same : (has : Bool) → cond has rows rows ≡ rows
    same true = refl
    same false = refl

no_default_fault : (rows : List Row) (a : Rule) → IsBare a → default_fault rows a ≡ []
no_default_fault rows a bare = ap (λ defaults. cond (has_row a.id rows || is_empty defaults) [] (Rattle.clap.specs.Faults.given_default_fault a defaults)) bare ∙ same (has_row a.id rows) _
  where
    same : (has : Bool) (k : Kinds) → cond (has || true) [] k ≡ []
    same true k = refl
    same false k = refl

no_defaults : (rows : List Row) (others : List Rule) → AllByRecursion IsBare others → fold with_default rows others ≡ rows
no_defaults rows [] h = refl
no_defaults rows (a ∷ others) h = ap (λ r. fold with_default r others) (no_default rows a h.0) ∙ no_defaults rows others h.1

no_defaults_fault : (rows : List Row) (others : List Rule) → AllByRecursion IsBare others → defaults_fault rows others ≡ []
unfolding defaults_fault
no_defaults_fault rows [] h = refl
no_defaults_fault rows (a ∷ others) h = ap₂ or_else (no_default_fault rows a h.0) (ap (λ r. defaults_fault r others) (no_default rows a h.0) ∙ no_defaults_fault rows others h.1)

bare_rules : AllByRecursion IsBare rules
bare_rules = (refl, (refl, (refl, (refl, (refl, (refl, (refl, tt)))))))

-- the walk from the beginning
abbrev walk_end : List Text → Held
walk_end words = (walk rules [] nothing_held words).held

parse_fault : (words : List Text) → fault_of app words ≡ or_else (walk_fault shape [] (walk_from nothing_held) words) (settle_fault rules false (walk_end words))
parse_fault words =
    let end = walk_end words in
    leaf_fault (built app) nothing_held words refl
    ∙ ap (λ k. or_else (walk_fault shape [] (walk_from nothing_held) words) (or_else (settle_fault rules false end) (or_else k []))) (no_defaults_fault (settled_rows rules end.pending end.rows) rules bare_rules)
    ∙ ap (or_else (walk_fault shape [] (walk_from nothing_held) words)) (or-nil (settle_fault rules false end))

parse_rows : (words : List Text) → matches_of app words ≡ settled_rows rules (walk_end words).pending (walk_end words).rows
parse_rows words = no_defaults (settled_rows rules (walk_end words).pending (walk_end words).rows) rules bare_rules

-- the rows of a parse that has no fault are those of what the words use
pub parsed : (words : List Text) → AllByRecursion IsUtf8 words → unless (fault_of app words) (Some (matches_of app words)) ≡ run [] (uses None words)
parsed words u = ap₂ (λ (k : Kinds) (r : List Row). unless k (Some r)) (parse_fault words) (parse_rows words) ∙ (ends words u).open_at [] None false
