-- The rows that an index gives are enough.
use Rattle.std.proofs.Common.{◌≡◌, inl, inr, ℕ, zero, suc, ◌+◌, ◌<◌, ◌≤◌, ◌==◌, Bool, true, false, List, [], ◌∷◌, ◌++◌, map, length, drop, take, refl, sym, ap, ap₂, ◌∙◌, subst, true≢false, append_assoc, get_or, get_or-set_other, arith}
use Rattle.std.specs.Prelude.{Some, None, slice_get, slice_set, pos, if◌then◌else◌}
use Rattle.std.specs.List.{All, flat_map, filter, enumerate_from}
use Rattle.std.proofs.lemmas.List.{length-append, length-map}
use Rattle.std.proofs.lemmas.Bool.{or_parts, cases_Bool, eq-eqb}
use Rattle.tel_term.specs.declared.terms.Value.{Value}
use Rattle.tel_term.specs.declared.terms.Value.TheVariants as values
use Rattle.tel_rule.specs.Atoms.{value_eq}
use Rattle.fact_table.specs.Rows.{has_at, places_with}
use Rattle.join_plans.specs.declared.columns.Column.{Column}
use Rattle.join_plans.specs.declared.columns.Column.TheVariants.{New, Old}
use Rattle.join_plans.specs.Join.{at, place as at_place, put, then_found, and_then, put_row, answers}
use Rattle.join_plans.proofs.Exact.{value_eq-Decides}
use Rattle.plan_search.proofs.Dropping.{drop_get_or, dropped_within}
use Rattle.plan_search.specs.Putting.{any_gives}
use Rattle.plan_search.specs.Trying.{Try, tries, behind, IsIndex, AreEnough}

-- ---- a row with another value at the index fits nowhere

apart_back : (x y : Value) → value_eq x y ≡ false → value_eq y x ≡ false
apart_back x y apart = elim (cases_Bool (value_eq y x)) [
  | inl same ↦ absurd (true≢false (sym ((value_eq-Decides x y).1 (sym ((value_eq-Decides y x).0 same))) ∙ apart))
  | inr other ↦ other
]

old_column : (c : Column) (cs back : List Column) (p : ℕ) → c ∷ cs ≡ Old p ∷ back → c ≡ Old p
old_column c cs back p e = cc

no_column : {P : Type 0} (c : Column) (back : List Column) → [] ≡ c ∷ back → P
no_column c back e = absurd cc

old_then : (cs : List Column) (row env : List Value) (t : Bool) → put_row cs row env ≡ None → and_then (put_row cs row) (if t then Some env else None) ≡ None
old_then cs row env true none = none
old_then cs row env false none = refl

misfit : (cs : List Column) (row : List Value) (i : ℕ) (env : List Value) (p : ℕ) (back : List Column) → drop i cs ≡ Old p ∷ back → any_gives (take i cs) p ≡ false → has_at row i (at env p) ≡ false → put_row cs row env ≡ None
misfit [] row zero env p back is before has = no_column (Old p) back is
misfit [] row (suc i) env p back is before has = no_column (Old p) back is
misfit (c ∷ cs) [] i env p back is before has = refl
misfit (c ∷ cs) (x ∷ row) zero env p back is before has =
    ap (λ (d : Column). and_then (put_row cs row) (put d x env)) (old_column c cs back p is)
    ∙ ap (λ (t : Bool). and_then (put_row cs row) (if t then Some env else None)) (apart_back x (at env p) has)
misfit (New w ∷ cs) (x ∷ row) (suc i) env p back is before has =
    let parts = or_parts (w == p) (any_gives (take i cs) p) before in
    let stays : at (slice_set env w x) p ≡ at env p = get_or-set_other env w p x (values.Num (pos 0)) (λ e. true≢false (sym (eq-eqb w p (sym e)) ∙ parts.0)) in
    misfit cs row i (slice_set env w x) p back is parts.1 (ap (has_at row i) stays ∙ has)
misfit (Old w ∷ cs) (x ∷ row) (suc i) env p back is before has =
    let parts = or_parts false (any_gives (take i cs) p) before in
    old_then cs row env (value_eq (at env w) x) (misfit cs row i env p back is parts.1 has)

-- ---- rows by their places

at_end : (front : List (List Value)) (row : List Value) (back : List (List Value)) → slice_get (front ++ row ∷ back) (length front) ≡ Some row
at_end [] row back = refl
at_end (x ∷ front) row back = at_end front row back

module _ (g : Try → List (List Value)) (test : List Value → Bool) (none : (row : List Value) → test row ≡ false → g (Some row) ≡ []) where
  abbrev kept : ℕ → List (List Value) → List (ℕ × List Value)
  kept k rows = filter (λ (r : ℕ × List Value). test r.1) (enumerate_from k rows)

  abbrev places_from : List (List Value) → ℕ → List (List Value) → List Try
  places_from all k rows = map (slice_get all) (map (λ (r : ℕ × List Value). r.0) (kept k rows))

  from_places : (all front rows : List (List Value)) → front ++ rows ≡ all
      → flat_map g (places_from all (length front) rows) ≡ flat_map g (map (λ (row : List Value). Some row) rows)
  from_places all front [] is = refl
  from_places all front (row ∷ rows) is =
      let long : length (front ++ row ∷ []) ≡ length front + 1 = length-append front (row ∷ []) in
      let later = subst (λ (k : ℕ). flat_map g (places_from all k rows) ≡ flat_map g (map (λ (r : List Value). Some r) rows)) long (from_places all (front ++ row ∷ []) rows (append_assoc front (row ∷ []) rows ∙ is)) in
      let here : slice_get all (length front) ≡ Some row = ap (λ (l : List (List Value)). slice_get l (length front)) (sym is) ∙ at_end front row rows in
      elim (test row) as (λ t. test row ≡ t → flat_map g (map (slice_get all) (map (λ (r : ℕ × List Value). r.0) (if t then (length front, row) ∷ kept (length front + 1) rows else kept (length front + 1) rows))) ≡ g (Some row) ++ flat_map g (map (λ (r : List Value). Some r) rows)) [
        | true ↦ λ e. ap₂ (λ (a b : List (List Value)). a ++ b) (ap g here) later
        | false ↦ λ e. later ∙ ap (λ (l : List (List Value)). l ++ flat_map g (map (λ (r : List Value). Some r) rows)) (sym (none row e))
      ]
      refl

pub index_enough : (columns : List Column) (rows : List (List Value)) (env : List Value) (column place : ℕ) → IsIndex columns column place → AreEnough columns rows env (Some (places_with rows column (at env place)))
index_enough columns rows env column place index more =
    from_places (behind columns more env) (λ row. has_at row column (at env place))
    (λ row apart. ap (then_found (answers more)) (misfit columns row column env place index.is.0 index.is.1 index.before apart)) rows [] rows refl

-- ---- an index gives no more rows than there are

kept_few : (test : List Value → Bool) (k : ℕ) (rows : List (List Value)) → length (filter (λ (r : ℕ × List Value). test r.1) (enumerate_from k rows)) ≤ length rows
kept_few test k [] = omega arith
kept_few test k (row ∷ rows) =
    elim (test row) as (λ t. length (if t then (k, row) ∷ filter (λ (r : ℕ × List Value). test r.1) (enumerate_from (k + 1) rows) else filter (λ (r : ℕ × List Value). test r.1) (enumerate_from (k + 1) rows)) ≤ suc (length rows)) [
      | true ↦ omega (arith, kept_few test (k + 1) rows)
      | false ↦ omega (arith, kept_few test (k + 1) rows)
    ]

pub index_few : (rows : List (List Value)) (column : ℕ) (value : Value) → length (tries rows (Some (places_with rows column value))) ≤ length rows
index_few rows column value =
    let few = kept_few (λ row. has_at row column value) 0 rows in
    let one = length-map (filter (λ (r : ℕ × List Value). has_at r.1 column value) (enumerate_from 0 rows)) (λ (r : ℕ × List Value). r.0) in
    let two = length-map (places_with rows column value) (slice_get rows) in
    omega (arith, few, one, two)

pub all_few : (rows : List (List Value)) → length (tries rows None) ≤ length rows
all_few rows = omega (arith, length-map rows (λ (row : List Value). Some row))

get_or-dropped : {X : Type 0} (xs ys : List X) (i : ℕ) (x : X) → drop i xs ≡ x ∷ ys → get_or xs i x ≡ x
get_or-dropped [] ys zero x e = absurd (cc)
get_or-dropped [] ys (suc i) x e = absurd (cc)
get_or-dropped (z ∷ xs) ys zero x e = cc
get_or-dropped (z ∷ xs) ys (suc i) x e = get_or-dropped xs ys i x e

pub index_inside : (columns : List Column) (n column place : ℕ) → All (λ (c : Column). at_place c < n) columns → IsIndex columns column place → place < n
index_inside columns n column place all index =
    let there = dropped_within columns index.is.0 column (Old place) index.is.1 in
    let is = get_or-dropped columns index.is.0 column (Old place) index.is.1 in
    subst (λ (c : Column). at_place c < n) is (all column (Old place) there)

pub index_is : (columns : List Column) (i j place : ℕ) (d : Column) → j ≡ i → i < length columns → get_or columns i d ≡ Old place → false ≡ any_gives (take i columns) place → IsIndex columns j place
index_is columns i j place d same less is none =
    record {
      is = (drop (suc j) columns, ap (λ (n : ℕ). drop n columns) same ∙ drop_get_or columns i d less ∙ ap (λ (c : Column). c ∷ drop (suc i) columns) is ∙ ap (λ (n : ℕ). Old place ∷ drop (suc n) columns) (sym same));
      before = ap (λ (n : ℕ). any_gives (take n columns) place) same ∙ sym none;
    }
