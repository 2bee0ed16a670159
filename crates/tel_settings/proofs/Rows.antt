-- The rows of a parse, by what the words use.
use Rattle.std.proofs.Common.{◌≡◌, ◌∙◌, ◌⊎◌, inl, inr, ◌+◌, ◌≤◌, Bool, true, false, cond, List, [], ◌∷◌, ◌++◌, length, Option, Some, None, refl, sym, ap, arith, append_assoc, append-nil, length-append}
use Rattle.std.specs.Prelude.{◌||◌, bytes_eq, find, slice_get, option_and_then}
use Rattle.std.specs.List.{list_all, filter_map, cons_option}
use Rattle.std.specs.Option.{option_map_or}
use Rattle.std.specs.Cmp.Lexicographic.{bytes_decides}
use Rattle.std.proofs.lemmas.Bool.{true≢false}
use Rattle.clap.specs.Words.{Row, Text, first_of}
use Rattle.clap.specs.Walk.{has_row, reading_by, used, with_values, without}
use Rattle.clap.specs.declared.builder.value_parser.Reading.{Reading}
use Rattle.clap.specs.declared.parser.matches.ValueSource.{ValueSource}
use Rattle.clap.specs.declared.parser.matches.ValueSource.TheVariants.{CommandLine}
use Rattle.tel_settings.specs.Names.{Name}
use Rattle.tel_settings.specs.Names as names
use Rattle.tel_settings.proofs.Rules.{id_of, files_id, option_built, files_built, id_itself}
use Rattle.tel_settings.proofs.Uses.{Use, Takes, Gives, Fails}
use Rattle.tel_settings.proofs.Walks.{run}

-- the values of an id
abbrev pub values_at : Text → List Row → List Text
values_at id rows = option_map_or (λ (r : Row). r.values) (find (λ (r : Row). bytes_eq r.id id) rows) []

pub first_at : (id : Text) (rows : List Row) → first_of id rows ≡ slice_get (values_at id rows) 0
first_at id rows = go (find (λ (r : Row). bytes_eq r.id id) rows)
  where
    go : (found : Option Row) → option_and_then (λ (r : Row). slice_get r.values 0) found ≡ slice_get (option_map_or (λ (r : Row). r.values) found []) 0
    go None = refl
    go (Some r) = refl

or_none : (a b : Bool) → (a || b) ≡ false → (a ≡ false) × (b ≡ false)
or_none true b e = absurd (true≢false e)
or_none false b e = (refl, e)

without_none : (id : Text) (rows : List Row) → has_row id rows ≡ false → without id rows ≡ rows
without_none id [] e = refl
without_none id (r ∷ rs) e =
    let parts = or_none (bytes_eq r.id id) (has_row id rs) e in
    rw parts.0 (ap (λ rows. r ∷ rows) (without_none id rs parts.1))

same_test : (id other text : Text) → bytes_eq id other ≡ true → bytes_eq id text ≡ bytes_eq other text
same_test id other text e = ap (λ t. bytes_eq t text) ((bytes_decides id other).0 e)

module _ (id other : Text) (how : Reading) (source : ValueSource) (values : List Text) where
  put_here : (r : Row) (rs : List Row) (b : Bool) → bytes_eq r.id id ≡ true → bytes_eq id other ≡ b → values_at other (with_values id how source values (r ∷ rs)) ≡ cond b (values_at other (r ∷ rs) ++ values) (values_at other (r ∷ rs))
  put_here r rs true here is =
      let same : bytes_eq r.id other ≡ true = same_test r.id id other here ∙ is in
      rw here (rw same refl)
  put_here r rs false here is =
      let same : bytes_eq r.id other ≡ false = same_test r.id id other here ∙ is in
      rw here (rw same refl)

  put_past : (r : Row) (rs : List Row) (at b : Bool) → bytes_eq r.id id ≡ false → bytes_eq r.id other ≡ at → bytes_eq id other ≡ b → values_at other (with_values id how source values rs) ≡ cond b (values_at other rs ++ values) (values_at other rs)
      → values_at other (with_values id how source values (r ∷ rs)) ≡ cond b (values_at other (r ∷ rs) ++ values) (values_at other (r ∷ rs))
  put_past r rs true true past at is more =
      let same : r.id ≡ id = (bytes_decides r.id other).0 at ∙ sym ((bytes_decides id other).0 is) in
      absurd (true≢false (sym ((bytes_decides r.id id).1 same) ∙ past))
  put_past r rs true false past at is more = rw past (rw at refl)
  put_past r rs false b past at is more = rw past (rw at more)

  -- a row gets more values
  put_is : (rows : List Row) (b : Bool) → bytes_eq id other ≡ b → values_at other (with_values id how source values rows) ≡ cond b (values_at other rows ++ values) (values_at other rows)
  put_is [] true is = rw is refl
  put_is [] false is = rw is refl
  put_is (r ∷ rs) b is = put_at (bytes_eq r.id id) refl (put_is rs b is)
    where
      put_at : (here : Bool) → bytes_eq r.id id ≡ here → values_at other (with_values id how source values rs) ≡ cond b (values_at other rs ++ values) (values_at other rs) → values_at other (with_values id how source values (r ∷ rs)) ≡ cond b (values_at other (r ∷ rs) ++ values) (values_at other (r ∷ rs))
      put_at true here more = put_here r rs b here is
      put_at false here more = put_past r rs (bytes_eq r.id other) b here refl is more

  has_past : (a b c : Bool) → (a || (b || c)) ≡ (b || (a || c))
  has_past true true c = refl
  has_past true false c = refl
  has_past false b c = refl

  has_put_at : (r : Row) (rs : List Row) (here : Bool) → bytes_eq r.id id ≡ here → has_row other (with_values id how source values rs) ≡ (bytes_eq id other || has_row other rs) → has_row other (with_values id how source values (r ∷ rs)) ≡ (bytes_eq id other || has_row other (r ∷ rs))
  has_put_at r rs true here more =
      let same = same_test r.id id other here in
      rw here (ap (λ b. b || has_row other rs) same ∙ twice (bytes_eq id other) (has_row other rs) ∙ ap (λ b. bytes_eq id other || (b || has_row other rs)) (sym same))
    where
      twice : (b c : Bool) → (b || c) ≡ (b || (b || c))
      twice true c = refl
      twice false c = refl
  has_put_at r rs false here more = rw here (ap (λ b. bytes_eq r.id other || b) more ∙ has_past (bytes_eq r.id other) (bytes_eq id other) (has_row other rs))

  has_put : (rows : List Row) → has_row other (with_values id how source values rows) ≡ (bytes_eq id other || has_row other rows)
  has_put [] = refl
  has_put (r ∷ rs) = has_put_at r rs (bytes_eq r.id id) refl (has_put rs)

-- ---- one use

abbrev pub names_same : Name → Name → Bool
names_same name other = bytes_eq (id_of name) (id_of other)

not_files : (name : Name) → bytes_eq (id_of name) files_id ≡ false
not_files names.Imin = refl
not_files names.Imax = refl
not_files names.Istop = refl
not_files names.Models = refl
not_files names.Conflicts = refl
not_files names.Generate = refl

not_option : (name : Name) → bytes_eq files_id (id_of name) ≡ false
not_option names.Imin = refl
not_option names.Imax = refl
not_option names.Istop = refl
not_option names.Models = refl
not_option names.Conflicts = refl
not_option names.Generate = refl

abbrev gave : Name → Text → List Row → List Row
gave name value rows = used (option_built (id_of name)) (value ∷ []) rows

abbrev took : Text → List Row → List Row
took file rows = used files_built (file ∷ []) rows

gave_is : (name : Name) (value : Text) (rows : List Row) → has_row (id_of name) rows ≡ false → gave name value rows ≡ with_values (id_of name) (reading_by (option_built (id_of name))) CommandLine (value ∷ []) rows
gave_is name value rows e = ap (with_values (id_of name) (reading_by (option_built (id_of name))) CommandLine (value ∷ [])) (without_none (id_of name) rows e)

gave_values : (name : Name) (value other : Text) (rows : List Row) (b : Bool) → has_row (id_of name) rows ≡ false → bytes_eq (id_of name) other ≡ b → values_at other (gave name value rows) ≡ cond b (values_at other rows ++ value ∷ []) (values_at other rows)
gave_values name value other rows b e is = ap (values_at other) (gave_is name value rows e) ∙ put_is (id_of name) other (reading_by (option_built (id_of name))) CommandLine (value ∷ []) rows b is

gave_has : (name : Name) (value other : Text) (rows : List Row) → has_row (id_of name) rows ≡ false → has_row other (gave name value rows) ≡ (bytes_eq (id_of name) other || has_row other rows)
gave_has name value other rows e = ap (has_row other) (gave_is name value rows e) ∙ has_put (id_of name) other (reading_by (option_built (id_of name))) CommandLine (value ∷ []) rows

took_values : (file other : Text) (rows : List Row) (b : Bool) → bytes_eq files_id other ≡ b → values_at other (took file rows) ≡ cond b (values_at other rows ++ file ∷ []) (values_at other rows)
took_values file other rows b is = put_is files_id other (reading_by files_built) CommandLine (file ∷ []) rows b is

took_has : (file other : Text) (rows : List Row) → has_row other (took file rows) ≡ (bytes_eq files_id other || has_row other rows)
took_has file other rows = has_put files_id other (reading_by files_built) CommandLine (file ∷ []) rows

-- ---- all uses

-- the value that a use gives an option, and the file that it is
abbrev pub value_in : Name → Use → Option Text
value_in name (Takes file) = None
value_in name (Gives other value) = cond (names_same other name) (Some value) None
value_in name Fails = None

abbrev pub file_used : Use → Option Text
file_used (Takes file) = Some file
file_used (Gives other value) = None
file_used Fails = None

abbrev pub given : Name → List Use → List Text
given name us = filter_map (value_in name) us

abbrev pub files_used : List Use → List Text
files_used us = filter_map file_used us

abbrev pub works : Use → Bool
works (Takes file) = true
works (Gives name value) = true
works Fails = false

-- each option has a row just where it has a value, and never two
abbrev pub IsOnce : List Row → Type 0
IsOnce rows = (name : Name) → length (values_at (id_of name) rows) ≡ cond (has_row (id_of name) rows) 1 0

pub once_none : IsOnce []
once_none name = refl

once_gave : (name : Name) (value : Text) (rows : List Row) → IsOnce rows → has_row (id_of name) rows ≡ false → IsOnce (gave name value rows)
once_gave name value rows once e other = go (names_same name other) refl
  where
    go : (b : Bool) → names_same name other ≡ b → length (values_at (id_of other) (gave name value rows)) ≡ cond (has_row (id_of other) (gave name value rows)) 1 0
    go true is =
        let same : id_of name ≡ id_of other = (bytes_decides (id_of name) (id_of other)).0 is in
        let none : has_row (id_of other) rows ≡ false = ap (λ id. has_row id rows) (sym same) ∙ e in
        let empty : length (values_at (id_of other) rows) ≡ 0 = once other ∙ ap (λ b. cond b 1 0) none in
        let one : length (values_at (id_of other) rows ++ value ∷ []) ≡ 1 = length-append (values_at (id_of other) rows) (value ∷ []) ∙ ap (λ n. n + 1) empty in
        ap length (gave_values name value (id_of other) rows true e is) ∙ one ∙ ap (λ b. cond b 1 0) (sym (gave_has name value (id_of other) rows e ∙ ap (λ b. b || has_row (id_of other) rows) is))
    go false is =
        ap length (gave_values name value (id_of other) rows false e is) ∙ once other ∙ ap (λ b. cond b 1 0) (sym (gave_has name value (id_of other) rows e ∙ ap (λ b. b || has_row (id_of other) rows) is))

once_took : (file : Text) (rows : List Row) → IsOnce rows → IsOnce (took file rows)
once_took file rows once other =
    ap length (took_values file (id_of other) rows false (not_option other)) ∙ once other ∙ ap (λ b. cond b 1 0) (sym (took_has file (id_of other) rows ∙ ap (λ b. b || has_row (id_of other) rows) (not_option other)))

-- the rows have what the uses give
pub record Reads (rows : List Row) (us : List Use) (final : List Row) : Type 0 where
  pub works : list_all works us ≡ true
  pub once : IsOnce final
  pub values : (name : Name) → values_at (id_of name) final ≡ values_at (id_of name) rows ++ given name us
  pub files : values_at files_id final ≡ values_at files_id rows ++ files_used us

-- a word fails, or an option has two values
abbrev pub Repeats : List Row → List Use → Type 0
Repeats rows us = (list_all works us ≡ false) ⊎ ((name : Name) × (2 ≤ length (values_at (id_of name) rows ++ given name us)))

abbrev pub Results : List Row → List Use → Option (List Row) → Type 0
Results rows us None = Repeats rows us
Results rows us (Some final) = Reads rows us final

given_gave : (name other : Name) (value : Text) (rows : List Row) (us : List Use) → has_row (id_of name) rows ≡ false → values_at (id_of other) (gave name value rows) ++ given other us ≡ values_at (id_of other) rows ++ given other (Gives name value ∷ us)
given_gave name other value rows us e = go (names_same name other) refl
  where
    go : (b : Bool) → names_same name other ≡ b → values_at (id_of other) (gave name value rows) ++ given other us ≡ values_at (id_of other) rows ++ given other (Gives name value ∷ us)
    go true is = ap (λ vs. vs ++ given other us) (gave_values name value (id_of other) rows true e is) ∙ append_assoc (values_at (id_of other) rows) (value ∷ []) (given other us) ∙ ap (λ b. values_at (id_of other) rows ++ cons_option (cond b (Some value) None) (given other us)) (sym is)
    go false is = ap (λ vs. vs ++ given other us) (gave_values name value (id_of other) rows false e is) ∙ ap (λ b. values_at (id_of other) rows ++ cons_option (cond b (Some value) None) (given other us)) (sym is)

gives_result : (name : Name) (value : Text) (rows : List Row) (us : List Use) (result : Option (List Row)) → has_row (id_of name) rows ≡ false → Results (gave name value rows) us result → Results rows (Gives name value ∷ us) result
gives_result name value rows us None e (inl fails) = inl fails
gives_result name value rows us None e (inr twice) = inr (twice.0, omega (arith, twice.1, ap length (given_gave name twice.0 value rows us e)))
gives_result name value rows us (Some final) e h = record {
  works = h.works;
  once = h.once;
  values = λ other. h.values other ∙ given_gave name other value rows us e;
  files = h.files ∙ ap (λ vs. vs ++ files_used us) (gave_values name value files_id rows false e (not_files name));
}

gives_twice : (name : Name) (value : Text) (rows : List Row) (us : List Use) → IsOnce rows → has_row (id_of name) rows ≡ true → Repeats rows (Gives name value ∷ us)
gives_twice name value rows us once e =
    let one : length (values_at (id_of name) rows) ≡ 1 = once name ∙ ap (λ b. cond b 1 0) e in
    let more : given name (Gives name value ∷ us) ≡ value ∷ given name us = ap (λ b. cons_option (cond b (Some value) None) (given name us)) (id_itself name) in
    let two : 2 ≤ length (values_at (id_of name) rows) + length (value ∷ given name us) = omega (arith, one) in
    inr (name, omega (arith, two, length-append (values_at (id_of name) rows) (given name (Gives name value ∷ us)), ap length more))

takes_result : (file : Text) (rows : List Row) (us : List Use) (result : Option (List Row)) → Results (took file rows) us result → Results rows (Takes file ∷ us) result
takes_result file rows us None (inl fails) = inl fails
takes_result file rows us None (inr twice) = inr (twice.0, omega (arith, twice.1, ap (λ vs. length (vs ++ given twice.0 us)) (took_values file (id_of twice.0) rows false (not_option twice.0))))
takes_result file rows us (Some final) h = record {
  works = h.works;
  once = h.once;
  values = λ other. h.values other ∙ ap (λ vs. vs ++ given other us) (took_values file (id_of other) rows false (not_option other));
  files = h.files ∙ ap (λ vs. vs ++ files_used us) (took_values file files_id rows true refl) ∙ append_assoc (values_at files_id rows) (file ∷ []) (files_used us);
}

pub results : (us : List Use) (rows : List Row) → IsOnce rows → Results rows us (run rows us)
results [] rows once = record {
  works = refl;
  once = once;
  values = λ name. sym (append-nil (values_at (id_of name) rows));
  files = sym (append-nil (values_at files_id rows));
}
results (Fails ∷ us) rows once = inl refl
results (Takes file ∷ us) rows once = takes_result file rows us (run (took file rows) us) (results us (took file rows) (once_took file rows once))
results (Gives name value ∷ us) rows once = go (has_row (id_of name) rows) refl (λ e. results us (gave name value rows) (once_gave name value rows once e))
  where
    go : (has : Bool) → has_row (id_of name) rows ≡ has → (has_row (id_of name) rows ≡ false → Results (gave name value rows) us (run (gave name value rows) us)) → Results rows (Gives name value ∷ us) (cond has None (run (gave name value rows) us))
    go true e more = gives_twice name value rows us once e
    go false e more = gives_result name value rows us (run (gave name value rows) us) e (more e)
