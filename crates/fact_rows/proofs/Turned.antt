-- Rows of tuples, and how one is turned to the next.
use Rattle.std.proofs.Common.{◌≡◌, inl, inr, ℕ, zero, suc, ◌<◌, true, List, [], ◌∷◌, ◌++◌, map, length, rules, refl, ap, ◌∙◌, arith, get_or}
use Rattle.std.specs.Prelude.{ℤ, pos, ◌≤ℤ◌, int_le, slice_set}
use Rattle.std.specs.List.{list_all, flat_map}
use Rattle.std.proofs.lemmas.Bool.{and_parts}
use Rattle.tel_base.specs.Members.{In}
use Rattle.tel_term.specs.declared.terms.Value.{Value}
use Rattle.tel_term.specs.declared.terms.Value.TheVariants as values
use Rattle.tel_semantics.specs.Tables.{choices}
use Rattle.fact_rows.specs.declared.values.Values.{Values}
use Rattle.fact_rows.specs.declared.values.Values.TheVariants as kinds
use Rattle.fact_rows.specs.Walking.{all_of, first_of, behind, has_first, rows_behind}
use Rattle.fact_rows.proofs.Ranges.{between-more}

abbrev with_first : Value → List (List Value) → List (List Value)
with_first value rows = map (λ (rest : List Value). value ∷ rest) rows

-- ---- choices

abbrev no_choice : List (List Value) → Type 0
no_choice lists = choices lists ≡ []

flat_none : (here : List Value) → flat_map (λ (value : Value). with_first value []) here ≡ []
flat_none [] = refl
flat_none (value ∷ more) = flat_none more

-- a list without elements leaves no choice
pub none-chosen : (lists : List (List Value)) → In [] lists → choices lists ≡ []
none-chosen [] there = absurd there
none-chosen (here ∷ more) (inl is) = ap (λ (l : List Value). flat_map (λ (value : Value). with_first value (choices more)) l) is
none-chosen (here ∷ more) (inr later) =
    ap (λ (rows : List (List Value)). flat_map (λ (value : Value). with_first value rows) here) (none-chosen more later) ∙ flat_none here

-- ---- the first value

le_of : (a b : ℤ) → int_le a b ≡ true → a ≤ℤ b
le_of a b is = search rules

pub first-all : (column : Values) → has_first column ≡ true → all_of column ≡ first_of column ∷ behind column (first_of column)
first-all (kinds.One value) is = refl
first-all (kinds.Range low high) is = between-more low high (le_of low high is)

-- the rows of columns are the first one and those behind it
pub first-row : (columns : List Values) → list_all has_first columns ≡ true → choices (map all_of columns) ≡ map first_of columns ∷ rows_behind columns (map first_of columns)
first-row [] full = refl
first-row (column ∷ more) full =
    let both = and_parts (has_first column) (list_all has_first more) full in
    let rest = first-row more both.1 in
    let chosen = choices (map all_of more) in
    ap (λ (l : List Value). flat_map (λ (value : Value). with_first value chosen) l) (first-all column both.0)
    ∙ ap (λ (rows : List (List Value)). with_first (first_of column) rows ++ flat_map (λ (value : Value). with_first value chosen) (behind column (first_of column))) rest

-- ---- a row that is being turned from its end

-- the row with the first values from a place on
abbrev pub restarted : ℕ → List Values → List Value → List Value
restarted zero columns row = map first_of columns
restarted (suc place) [] row = []
restarted (suc place) (column ∷ more) [] = []
restarted (suc place) (column ∷ more) (now ∷ row) = now ∷ restarted place more row

-- from a place on the row is the last one
abbrev pub IsLastFrom : ℕ → List Values → List Value → Type 0
IsLastFrom zero columns row = rows_behind columns row ≡ []
IsLastFrom (suc place) [] row = ⊥
IsLastFrom (suc place) (column ∷ more) [] = ⊥
IsLastFrom (suc place) (column ∷ more) (now ∷ row) = IsLastFrom place more row

-- ---- turning

module _ (default : Values) where
  -- the place before is turned
  turned-here : (column : Values) (more : List Values) (now value : Value) (row : List Value) → list_all has_first more ≡ true → behind column now ≡ value ∷ behind column value → rows_behind more row ≡ []
      → rows_behind (column ∷ more) (now ∷ row) ≡ (value ∷ map first_of more) ∷ rows_behind (column ∷ more) (value ∷ map first_of more)
  turned-here column more now value row full next last =
      let chosen = choices (map all_of more) in
      let rest = first-row more full in
      ap (λ (rows : List (List Value)). with_first now rows ++ flat_map (λ (v : Value). with_first v chosen) (behind column now)) last
      ∙ ap (λ (l : List Value). flat_map (λ (v : Value). with_first v chosen) l) next
      ∙ ap (λ (rows : List (List Value)). with_first value rows ++ flat_map (λ (v : Value). with_first v chosen) (behind column value)) rest

  pub turned : (place : ℕ) (columns : List Values) (row : List Value) (value : Value) → list_all has_first columns ≡ true → place < length columns → length row ≡ length columns
      → behind (get_or columns place default) (get_or row place (values.Num (pos 0))) ≡ value ∷ behind (get_or columns place default) value → IsLastFrom (suc place) columns row
      → rows_behind columns row ≡ slice_set (restarted (suc place) columns row) place value ∷ rows_behind columns (slice_set (restarted (suc place) columns row) place value)
  turned place [] row value full inside long next last = absurd (omega (arith, inside))
  turned place (column ∷ more) [] value full inside long next last = absurd (omega (arith, long))
  turned zero (column ∷ more) (now ∷ row) value full inside long next last =
      turned-here column more now value row (and_parts (has_first column) (list_all has_first more) full).1 next last
  turned (suc place) (column ∷ more) (now ∷ row) value full inside long next last =
      let rest = turned place more row value (and_parts (has_first column) (list_all has_first more) full).1 (omega (arith, inside)) (omega (arith, long)) next last in
      let chosen = choices (map all_of more) in
      ap (λ (rows : List (List Value)). with_first now rows ++ flat_map (λ (v : Value). with_first v chosen) (behind column now)) rest

  -- a place without a next value
  pub last-more : (place : ℕ) (columns : List Values) (row : List Value) → place < length columns → length row ≡ length columns
      → behind (get_or columns place default) (get_or row place (values.Num (pos 0))) ≡ [] → IsLastFrom (suc place) columns row → IsLastFrom place columns row
  last-more place [] row inside long none last = absurd (omega (arith, inside))
  last-more place (column ∷ more) [] inside long none last = absurd (omega (arith, long))
  last-more zero (column ∷ more) (now ∷ row) inside long none last =
      let chosen = choices (map all_of more) in
      ap (λ (rows : List (List Value)). with_first now rows ++ flat_map (λ (v : Value). with_first v chosen) (behind column now)) last
      ∙ ap (λ (l : List Value). flat_map (λ (v : Value). with_first v chosen) l) none
  last-more (suc place) (column ∷ more) (now ∷ row) inside long none last = last-more place more row (omega (arith, inside)) (omega (arith, long)) none last

  -- the first value there
  pub restarts : (place : ℕ) (columns : List Values) (row : List Value) → place < length columns → length row ≡ length columns
      → slice_set (restarted (suc place) columns row) place (first_of (get_or columns place default)) ≡ restarted place columns row
  restarts place [] row inside long = absurd (omega (arith, inside))
  restarts place (column ∷ more) [] inside long = absurd (omega (arith, long))
  restarts zero (column ∷ more) (now ∷ row) inside long = refl
  restarts (suc place) (column ∷ more) (now ∷ row) inside long = ap (λ (l : List Value). now ∷ l) (restarts place more row (omega (arith, inside)) (omega (arith, long)))

-- what stands before the place is as it was
pub before-same : (place : ℕ) (columns : List Values) (row : List Value) (d : Value) → place < length columns → length row ≡ length columns
    → get_or (restarted (suc place) columns row) place d ≡ get_or row place d
before-same place [] row d inside long = absurd (omega (arith, inside))
before-same place (column ∷ more) [] d inside long = absurd (omega (arith, long))
before-same zero (column ∷ more) (now ∷ row) d inside long = refl
before-same (suc place) (column ∷ more) (now ∷ row) d inside long = before-same place more row d (omega (arith, inside)) (omega (arith, long))

pub length-restarted : (place : ℕ) (columns : List Values) (row : List Value) → length row ≡ length columns → length (restarted place columns row) ≡ length columns
length-restarted zero [] row long = refl
length-restarted zero (column ∷ more) [] long = absurd (omega (arith, long))
length-restarted zero (column ∷ more) (now ∷ row) long = let rest = length-restarted zero more row (omega (arith, long)) in omega (arith, rest)
length-restarted (suc place) [] row long = refl
length-restarted (suc place) (column ∷ more) [] long = absurd (omega (arith, long))
length-restarted (suc place) (column ∷ more) (now ∷ row) long = let rest = length-restarted place more row (omega (arith, long)) in omega (arith, rest)

-- at the end
pub restarted-end : (columns : List Values) (row : List Value) → length row ≡ length columns → restarted (length columns) columns row ≡ row
restarted-end [] [] long = refl
restarted-end [] (now ∷ row) long = absurd (omega (arith, long))
restarted-end (column ∷ more) [] long = absurd (omega (arith, long))
restarted-end (column ∷ more) (now ∷ row) long = ap (λ (l : List Value). now ∷ l) (restarted-end more row (omega (arith, long)))

pub last-end : (columns : List Values) (row : List Value) → length row ≡ length columns → IsLastFrom (length columns) columns row
last-end [] [] long = refl
last-end [] (now ∷ row) long = absurd (omega (arith, long))
last-end (column ∷ more) [] long = absurd (omega (arith, long))
last-end (column ∷ more) (now ∷ row) long = last-end more row (omega (arith, long))
