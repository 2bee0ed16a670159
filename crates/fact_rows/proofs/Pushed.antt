-- The steps of the walk that lists the rows of a tuple.
use Rattle.std.proofs.Common.{◌≡◌, Bool, true, false, List, [], ◌∷◌, ◌++◌, map, sym, ap, ◌∙◌, subst}
use Rattle.std.specs.Prelude.{if◌then◌else◌}
use Rattle.std.specs.List.{list_all}
use Rattle.std.proofs.lemmas.List.{append_assoc}
use Rattle.tel_term.specs.declared.terms.Value.{Value}
use Rattle.tel_semantics.specs.Tables.{choices}
use Rattle.fact_rows.specs.declared.values.Values.{Values}
use Rattle.fact_rows.specs.Walking.{all_of, first_of, has_first, rows_behind, Turns}
use Rattle.fact_rows.proofs.Turned.{first-row}

-- the row and those behind it, where there is one more
abbrev pub rows_left : List Values → List Value → Bool → List (List Value)
rows_left columns row more = if more then row ∷ rows_behind columns row else []

module _ (columns : List Values) where
  pub pushed-start : (old : List (List Value)) (row : List Value) → list_all has_first columns ≡ true → row ≡ map first_of columns → old ++ rows_left columns row true ≡ old ++ choices (map all_of columns)
  pushed-start old row full is =
      ap (λ (rows : List (List Value)). old ++ rows) (sym (first-row columns full ∙ sym (ap (λ (r : List Value). r ∷ rows_behind columns r) is)))

  pub pushed-more : (rows next all : List (List Value)) (row new : List Value) (more b : Bool) → more ≡ true → rows ++ rows_left columns row more ≡ all → next ≡ rows ++ row ∷ [] → Turns columns row new b
      → next ++ rows_left columns new b ≡ all
  pushed-more rows next all row new more b is told pushed turns = by b turns
    where
      now : rows ++ row ∷ rows_behind columns row ≡ all
      now = subst (λ (t : Bool). rows ++ rows_left columns row t ≡ all) is told

      rest : next ++ rows_behind columns row ≡ all
      rest = ap (λ (l : List (List Value)). l ++ rows_behind columns row) pushed ∙ append_assoc rows (row ∷ []) (rows_behind columns row) ∙ now

      by : (t : Bool) → Turns columns row new t → next ++ rows_left columns new t ≡ all
      by true turned = subst (λ (l : List (List Value)). next ++ l ≡ all) turned rest
      by false last = subst (λ (l : List (List Value)). next ++ l ≡ all) last rest
