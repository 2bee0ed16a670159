-- The steps of the walks over rows, tuples and statements.
use Rattle.std.proofs.Common.{◌≡◌, ℕ, suc, ◌+◌, ◌-◌, ◌<◌, ◌≤◌, Bool, true, false, not, List, [], ◌∷◌, ◌++◌, map, length, take, drop, drop-cons, get_or, refl, sym, ap, ◌∙◌, subst, true≢false, arith}
use Rattle.std.specs.Prelude.{if◌then◌else◌, slice_set, Option, pos}
use Rattle.std.specs.List.{list_all, flat_map}
use Rattle.std.proofs.lemmas.List.{append-nil, drop_all}
use Rattle.tel_base.specs.Members.{In}
use Rattle.tel_term.specs.declared.terms.Value.{Value}
use Rattle.tel_term.specs.declared.terms.Value.TheVariants as values
use Rattle.tel_rule.specs.declared.statements.Signature.{Signature}
use Rattle.tel_rule.specs.declared.statements.Arg.{Arg}
use Rattle.tel_semantics.specs.Tables.{choices, tuple_rows}
use Rattle.fact_table.specs.Rows.{rows_of}
use Rattle.rule_goals.specs.Said.{Numbers}
use Rattle.fact_rows.specs.declared.filling.Filling.{Filling}
use Rattle.fact_rows.specs.declared.values.Values.{Values}
use Rattle.fact_rows.specs.Forms.{AreApart}
use Rattle.fact_rows.specs.Walking.{all_of, first_of, has_first, behind, rows_behind, Turns}
use Rattle.fact_rows.specs.Filling.{Stated, rows_stated, Holds, Adds, Overflows}
use Rattle.fact_rows.proofs.Turned.{restarted, IsLastFrom, first-row, turned, last-more, restarts, before-same}
use Rattle.fact_rows.proofs.Held.{Leads, leads-start, leads-more, leads-over, leads-end}

-- ---- a row is turned

-- the place before has a next value
pub turned-there : (default : Values) (p place : ℕ) (columns : List Values) (row now : List Value) (value : Value) → place ≡ suc p → place ≤ length columns → list_all has_first columns ≡ true → length row ≡ length columns
    → now ≡ restarted place columns row → IsLastFrom place columns row → behind (get_or columns p default) (get_or now p (values.Num (pos 0))) ≡ value ∷ behind (get_or columns p default) value
    → rows_behind columns row ≡ slice_set now p value ∷ rows_behind columns (slice_set now p value)
turned-there default p place columns row now value is inside full long row_is last next =
    let less : p < length columns = omega (arith, is, inside) in
    let now_is : now ≡ restarted (suc p) columns row = row_is ∙ ap (λ (n : ℕ). restarted n columns row) is in
    let same : get_or now p (values.Num (pos 0)) ≡ get_or row p (values.Num (pos 0)) = ap (λ (l : List Value). get_or l p (values.Num (pos 0))) now_is ∙ before-same p columns row (values.Num (pos 0)) less long in
    let next_is = subst (λ (v : Value). behind (get_or columns p default) v ≡ value ∷ behind (get_or columns p default) value) same next in
    subst (λ (l : List Value). rows_behind columns row ≡ slice_set l p value ∷ rows_behind columns (slice_set l p value)) (sym now_is)
    (turned default p columns row value full less long next_is (subst (λ (n : ℕ). IsLastFrom n columns row) is last))

-- the place before has none
pub turned-past : (default : Values) (p place : ℕ) (columns : List Values) (row now : List Value) → place ≡ suc p → place ≤ length columns → length row ≡ length columns
    → now ≡ restarted place columns row → IsLastFrom place columns row → behind (get_or columns p default) (get_or now p (values.Num (pos 0))) ≡ []
    → (slice_set now p (first_of (get_or columns p default)) ≡ restarted p columns row) × IsLastFrom p columns row
turned-past default p place columns row now is inside long row_is last none =
    let less : p < length columns = omega (arith, is, inside) in
    let now_is : now ≡ restarted (suc p) columns row = row_is ∙ ap (λ (n : ℕ). restarted n columns row) is in
    let same : get_or now p (values.Num (pos 0)) ≡ get_or row p (values.Num (pos 0)) = ap (λ (l : List Value). get_or l p (values.Num (pos 0))) now_is ∙ before-same p columns row (values.Num (pos 0)) less long in (
      ap (λ (l : List Value). slice_set l p (first_of (get_or columns p default))) now_is ∙ restarts default p columns row less long,
      last-more default p columns row less long (subst (λ (v : Value). behind (get_or columns p default) v ≡ []) same none) (subst (λ (n : ℕ). IsLastFrom n columns row) is last),
    )

-- a slice that was written as a whole
pub whole-slice : {X : Type 0} (n : ℕ) (new old : List X) → n ≡ length old → length new ≡ length old → take n (new ++ drop (length new) old) ≡ new
whole-slice {X} n new old is long =
    let none : drop (length new) old ≡ [] = drop_all (length new) old (omega (arith, long)) in
    ap (λ (rest : List X). take n (new ++ rest)) none ∙ ap (take n) (append-nil new) ∙ ap (λ (m : ℕ). take m new) (is ∙ sym long) ∙ all new
  where
    all : (xs : List X) → take (length xs) xs ≡ xs
    all [] = refl
    all (x ∷ xs) = ap (λ (l : List X). x ∷ l) (all xs)

pub map-long : {X Y : Type 0} (f : X → Y) (xs : List X) → length (map f xs) ≡ length xs
map-long f [] = refl
map-long f (x ∷ xs) = let rest = map-long f xs in omega (arith, rest)

-- ---- the rows of a tuple

module _ (number : Numbers) (predicate : Signature) (columns : List Values) where
  pub rows-start : (row : List Value) (start : Filling) → list_all has_first columns ≡ true → row ≡ map first_of columns
      → Leads number ((predicate, row) ∷ map (λ (r : List Value). (predicate, r)) (rows_behind columns row)) (map (λ (r : List Value). (predicate, r)) (choices (map all_of columns))) start start
  rows-start row start full is =
      let all : choices (map all_of columns) ≡ row ∷ rows_behind columns row = first-row columns full ∙ sym (ap (λ (r : List Value). r ∷ rows_behind columns r) is) in
      subst (λ (rows : List (List Value)). Leads number (map (λ (r : List Value). (predicate, r)) rows) (map (λ (r : List Value). (predicate, r)) (choices (map all_of columns))) start start) all
      (leads-start number (map (λ (r : List Value). (predicate, r)) (choices (map all_of columns))) start)

  pub rows-more : (row new : List Value) (all : List Stated) (start now next : Filling) (more b : Bool) → more ≡ true
      → Leads number (map (λ (r : List Value). (predicate, r)) (if more then row ∷ rows_behind columns row else [])) all start now → Adds number ((predicate, row) ∷ []) now next → Turns columns row new b
      → Leads number (map (λ (r : List Value). (predicate, r)) (if b then new ∷ rows_behind columns new else [])) all start next
  rows-more row new all start now next more b is leads adds turns = by b turns
    where
      rest : Leads number (map (λ (r : List Value). (predicate, r)) (rows_behind columns row)) all start next
      rest =
          leads-more number ((predicate, row) ∷ []) (map (λ (r : List Value). (predicate, r)) (rows_behind columns row)) all start now next
          (subst (λ (t : Bool). Leads number (map (λ (r : List Value). (predicate, r)) (if t then row ∷ rows_behind columns row else [])) all start now) is leads) adds

      by : (t : Bool) → Turns columns row new t → Leads number (map (λ (r : List Value). (predicate, r)) (if t then new ∷ rows_behind columns new else [])) all start next
      by true turned = subst (λ (rows : List (List Value)). Leads number (map (λ (r : List Value). (predicate, r)) rows) all start next) turned rest
      by false last = subst (λ (rows : List (List Value)). Leads number (map (λ (r : List Value). (predicate, r)) rows) all start next) last rest

  pub rows-over : (row : List Value) (all : List Stated) (start now : Filling) (more : Bool) → more ≡ true
      → Leads number (map (λ (r : List Value). (predicate, r)) (if more then row ∷ rows_behind columns row else [])) all start now → Overflows number ((predicate, row) ∷ []) now → Overflows number all start
  rows-over row all start now more is leads over =
      leads-over number ((predicate, row) ∷ []) (map (λ (r : List Value). (predicate, r)) (rows_behind columns row)) all start now
      (subst (λ (t : Bool). Leads number (map (λ (r : List Value). (predicate, r)) (if t then row ∷ rows_behind columns row else [])) all start now) is leads) over

  pub rows-end : (row : List Value) (all : List Stated) (start now : Filling) (more : Bool) → more ≡ false
      → Leads number (map (λ (r : List Value). (predicate, r)) (if more then row ∷ rows_behind columns row else [])) all start now → Adds number all start now
  rows-end row all start now more is leads =
      leads-end number all start now
      (subst (λ (t : Bool). Leads number (map (λ (r : List Value). (predicate, r)) (if t then row ∷ rows_behind columns row else [])) all start now) is leads)

-- ---- things in a row that state rows

module _ {X : Type 0} (number : Numbers) (f : X → List Stated) (xs : List X) (all : List Stated) (start now : Filling) where
  first_there : (i : ℕ) (x : X) → i < length xs → x ≡ get_or xs i x → flat_map f (drop i xs) ≡ f x ++ flat_map f (drop (i + 1) xs)
  first_there i x inside is =
      let one : i + 1 ≡ suc i = omega arith in
      ap (flat_map f) (drop-cons xs i x inside) ∙ (λ k. f (sym is k) ++ flat_map f (drop (sym one k) xs))

  pub step-more : (next : Filling) (i : ℕ) (x : X) → i < length xs → x ≡ get_or xs i x → Leads number (flat_map f (drop i xs)) all start now → Adds number (f x) now next → Leads number (flat_map f (drop (i + 1) xs)) all start next
  step-more next i x inside is leads adds =
      leads-more number (f x) (flat_map f (drop (i + 1) xs)) all start now next (subst (λ (l : List Stated). Leads number l all start now) (first_there i x inside is) leads) adds

  pub step-over : (i : ℕ) (x : X) → i < length xs → x ≡ get_or xs i x → Leads number (flat_map f (drop i xs)) all start now → Overflows number (f x) now → Overflows number all start
  step-over i x inside is leads over =
      leads-over number (f x) (flat_map f (drop (i + 1) xs)) all start now (subst (λ (l : List Stated). Leads number l all start now) (first_there i x inside is) leads) over

  pub step-end : (i : ℕ) → length xs ≤ i → Leads number (flat_map f (drop i xs)) all start now → Adds number all start now
  step-end i past leads =
      leads-end number all start now (subst (λ (l : List X). Leads number (flat_map f l) all start now) (drop_all i xs past) leads)

-- ---- the start

pub holds-start : (number : Numbers) (most : ℕ) (filling : Filling) → AreApart number → ((table : ℕ) → rows_of filling.tables table ≡ []) → filling.left ≡ most → Holds number most [] filling
holds-start number most filling apart none is = record {
  apart = apart;
  rows = λ predicate table its. none table;
  from = λ table row there. absurd (subst (λ (rows : List (List Value)). In row rows) (none table) there);
  room = omega (arith, is);
}

-- ---- a row that was there, and one that wasn't

pub left-known : (has is_new : Bool) (left : ℕ) → is_new ≡ not has → is_new ≡ false → left ≡ (if has then left else left + 1)
left-known true is_new left is none = refl
left-known false is_new left is none = absurd (true≢false (sym is ∙ none))

pub not-there : (has is_new : Bool) → is_new ≡ not has → is_new ≡ true → has ≡ false
not-there true is_new is new = absurd (true≢false (sym new ∙ is))
not-there false is_new is new = refl

pub left-new : (has is_new : Bool) (left : ℕ) → is_new ≡ not has → is_new ≡ true → 0 < left → left ≡ (if has then left - 1 else (left - 1) + 1)
left-new true is_new left is new some = absurd (true≢false (sym new ∙ is))
left-new false is_new left is new some = omega arith

-- ---- the rows of a tuple, by the number of its table

pub at_number : (number : Numbers) (table : Option ℕ) (predicate : Signature) (args tuple : List Arg) (old new : Filling) → number predicate ≡ table → args ≡ tuple
    → Adds number (rows_stated table predicate (tuple_rows args)) old new → Adds number (rows_stated (number predicate) predicate (tuple_rows tuple)) old new
at_number number table predicate args tuple old new its same adds =
    subst (λ (t : Option ℕ). Adds number (rows_stated t predicate (tuple_rows tuple)) old new) (sym its)
    (subst (λ (l : List Arg). Adds number (rows_stated table predicate (tuple_rows l)) old new) same adds)

pub over_number : (number : Numbers) (table : Option ℕ) (predicate : Signature) (args tuple : List Arg) (old : Filling) → number predicate ≡ table → args ≡ tuple
    → Overflows number (rows_stated table predicate (tuple_rows args)) old → Overflows number (rows_stated (number predicate) predicate (tuple_rows tuple)) old
over_number number table predicate args tuple old its same over =
    subst (λ (t : Option ℕ). Overflows number (rows_stated t predicate (tuple_rows tuple)) old) (sym its)
    (subst (λ (l : List Arg). Overflows number (rows_stated table predicate (tuple_rows l)) old) same over)
