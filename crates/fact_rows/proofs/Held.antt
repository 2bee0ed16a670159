-- Tables, when rows are added.
use Rattle.std.proofs.Common.{◌≡◌, ◌≢◌, inl, inr, ℕ, ◌+◌, ◌<◌, ◌≤◌, ◌⊎◌, Bool, true, false, ◌&&◌, ◌||◌, List, [], ◌∷◌, ◌++◌, length, refl, sym, ap, ◌∙◌, subst, ⊎_elim, arith, length-append, append_assoc}
use Rattle.std.specs.Prelude.{if◌then◌else◌, Some}
use Rattle.std.specs.List.{list_any}
use Rattle.std.proofs.lemmas.Bool.{and_parts, and_from, false_from_ne_true, cases_order}
use Rattle.std.proofs.lemmas.List.{append-nil}
use Rattle.tel_base.specs.Members.{In}
use Rattle.tel_base.proofs.Members.{In-append_left, In-append_right, In-append_cases}
use Rattle.tel_term.specs.declared.terms.Value.{Value}
use Rattle.tel_rule.specs.Atoms.{values_eq}
use Rattle.tel_rule.specs.declared.statements.Signature.{Signature}
use Rattle.tel_semantics.specs.Tables.{same_predicate}
use Rattle.fact_table.specs.Equal.{values_one, values_itself}
use Rattle.fact_table.specs.Rows.{rows_of, has_row, with_row}
use Rattle.rule_goals.specs.Said.{Numbers}
use Rattle.fact_rows.specs.declared.filling.Filling.{Filling}
use Rattle.fact_rows.specs.Once.{each_once}
use Rattle.fact_rows.specs.Filling.{Stated, same_stated, rows_for, WasStated, Holds, Adds, Overflows}
use Rattle.fact_rows.proofs.Heads.{one_predicate, predicate_itself}
use Rattle.fact_rows.proofs.Onces.{any-once, once-push, once-more}

-- ---- what is stated of a predicate

pub stated_one : (a b : Stated) → same_stated a b ≡ true → a ≡ b
stated_one a b is =
    let both = and_parts (same_predicate a.0 b.0) (values_eq a.1 b.1) is in
    let predicate = one_predicate a.0 b.0 both.0 in
    let row = values_one a.1 b.1 both.1 in
    λ i. (predicate i, row i)

pub stated_itself : (a : Stated) → same_stated a a ≡ true
stated_itself a = and_from (same_predicate a.0 a.0) (values_eq a.1 a.1) (predicate_itself a.0) (values_itself a.1)

pub rows_for-append : (predicate : Signature) (a b : List Stated) → rows_for predicate (a ++ b) ≡ rows_for predicate a ++ rows_for predicate b
rows_for-append predicate [] b = refl
rows_for-append predicate (one ∷ a) b =
    let here = if same_predicate predicate one.0 then one.1 ∷ [] else [] in
    ap (λ (l : List (List Value)). here ++ l) (rows_for-append predicate a b) ∙ sym (append_assoc here (rows_for predicate a) (rows_for predicate b))

-- a row was stated of a predicate
any-stated : (predicate : Signature) (row : List Value) (stated : List Stated) → list_any (same_stated (predicate, row)) stated ≡ list_any (values_eq row) (rows_for predicate stated)
any-stated predicate row [] = refl
any-stated predicate row (one ∷ more) = by (same_predicate predicate one.0) (any-stated predicate row more)
  where
    by : (b : Bool) → list_any (same_stated (predicate, row)) more ≡ list_any (values_eq row) (rows_for predicate more)
        → ((b && values_eq row one.1) || list_any (same_stated (predicate, row)) more) ≡ list_any (values_eq row) ((if b then one.1 ∷ [] else []) ++ rows_for predicate more)
    by true rest = ap (λ (t : Bool). values_eq row one.1 || t) rest
    by false rest = rest

-- ---- one row more

with_once : (rows : List (List Value)) (row : List Value) → each_once values_eq (rows ++ row ∷ []) ≡ with_row (each_once values_eq rows) row
with_once rows row =
    once-push values_eq values_one values_itself rows row
    ∙ ap (λ (b : Bool). if b then each_once values_eq rows else each_once values_eq rows ++ row ∷ []) (sym (any-once values_eq values_one values_itself row rows))

is_new : (number : Numbers) (most : ℕ) (stated : List Stated) (old : Filling) (predicate : Signature) (table : ℕ) (row : List Value) → Holds number most stated old → number predicate ≡ Some table
    → list_any (same_stated (predicate, row)) stated ≡ has_row (rows_of old.tables table) row
is_new number most stated old predicate table row holds its =
    any-stated predicate row stated
    ∙ sym (any-once values_eq values_one values_itself row (rows_for predicate stated))
    ∙ ap (list_any (values_eq row)) (sym (holds.rows predicate table its))

counted : (stated : List Stated) (one : Stated) (b : Bool) → list_any (same_stated one) stated ≡ b
    → length (each_once same_stated (stated ++ one ∷ [])) ≡ (if b then length (each_once same_stated stated) else length (each_once same_stated stated) + 1)
counted stated one b is =
    ap length (once-push same_stated stated_one stated_itself stated one ∙ ap (λ (t : Bool). if t then each_once same_stated stated else each_once same_stated stated ++ one ∷ []) is)
    ∙ by b
  where
    by : (t : Bool) → length (if t then each_once same_stated stated else each_once same_stated stated ++ one ∷ []) ≡ (if t then length (each_once same_stated stated) else length (each_once same_stated stated) + 1)
    by true = refl
    by false = length-append (each_once same_stated stated) (one ∷ [])

some_one : (a b : ℕ) → Some a ≡ Some b → a ≡ b
some_one a b e = cc

In-with_row : (rows : List (List Value)) (row other : List Value) → In other (with_row rows row) → In other rows ⊎ (row ≡ other)
In-with_row rows row other = by (has_row rows row)
  where
    by : (b : Bool) → In other (if b then rows else rows ++ row ∷ []) → In other rows ⊎ (row ≡ other)
    by true there = inl there
    by false there = ⊎_elim inl (λ last. ⊎_elim inr (λ none. absurd none) last) (In-append_cases other rows (row ∷ []) there)

-- how a row was added to a table
pub record Put (old new : Filling) (table : ℕ) (row : List Value) : Type 0 where
  pub rows : rows_of new.tables table ≡ with_row (rows_of old.tables table) row
  pub others : (other : ℕ) → other ≢ table → rows_of new.tables other ≡ rows_of old.tables other
  pub left : old.left ≡ (if has_row (rows_of old.tables table) row then new.left else new.left + 1)

pub put-adds : (number : Numbers) (old new : Filling) (predicate : Signature) (table : ℕ) (row : List Value) → number predicate ≡ Some table → Put old new table row → Adds number ((predicate, row) ∷ []) old new
put-adds number old new predicate table row its put most stated holds = record {
  apart = holds.apart;
  rows = λ other place is. by_place other place is (cases_order place table);
  from = λ place other there. from_place place other (cases_order place table) there;
  room = by_new (has_row (rows_of old.tables table) row) refl;
}
  where
    more : List Stated
    more = stated ++ (predicate, row) ∷ []

    other_rows : (other : Signature) (place : ℕ) → number other ≡ Some place → place ≢ table → rows_of new.tables place ≡ each_once values_eq (rows_for other more)
    other_rows other place is apart =
        let differ : same_predicate other predicate ≡ false =
        false_from_ne_true (same_predicate other predicate) (λ same. apart (some_one place table (sym is ∙ ap number (one_predicate other predicate same) ∙ its))) in
        put.others place apart
        ∙ holds.rows other place is
        ∙ ap (each_once values_eq)
        (sym (rows_for-append other stated ((predicate, row) ∷ []) ∙ ap (λ (b : Bool). rows_for other stated ++ ((if b then row ∷ [] else []) ++ [])) differ ∙ append-nil (rows_for other stated)))

    by_place : (other : Signature) (place : ℕ) → number other ≡ Some place → (place ≡ table) ⊎ ((place < table) ⊎ (table < place)) → rows_of new.tables place ≡ each_once values_eq (rows_for other more)
    by_place other place is (inl same) =
        let one : other ≡ predicate = holds.apart other predicate table (is ∙ ap Some same) its in
        let own : rows_for predicate more ≡ rows_for predicate stated ++ row ∷ [] =
        rows_for-append predicate stated ((predicate, row) ∷ []) ∙ ap (λ (b : Bool). rows_for predicate stated ++ ((if b then row ∷ [] else []) ++ [])) (predicate_itself predicate) in
        ap (rows_of new.tables) same
        ∙ put.rows
        ∙ ap (λ (rows : List (List Value)). with_row rows row) (holds.rows predicate table its)
        ∙ sym (with_once (rows_for predicate stated) row)
        ∙ ap (each_once values_eq) (sym own)
        ∙ ap (λ (p : Signature). each_once values_eq (rows_for p more)) (sym one)
    by_place other place is (inr (inl less)) = other_rows other place is (λ same. omega (arith, same, less))
    by_place other place is (inr (inr less)) = other_rows other place is (λ same. omega (arith, same, less))

    older : (place : ℕ) (other : List Value) → In other (rows_of old.tables place) → WasStated number more place other
    older place other there =
        let was = holds.from place other there in
        record { predicate = was.predicate; its = was.its; there = In-append_left (was.predicate, other) stated ((predicate, row) ∷ []) was.there }

    from_place : (place : ℕ) (other : List Value) → (place ≡ table) ⊎ ((place < table) ⊎ (table < place)) → In other (rows_of new.tables place) → WasStated number more place other
    from_place place other (inl same) there =
        ⊎_elim
        (λ (before : In other (rows_of old.tables table)). older place other (subst (λ (n : ℕ). In other (rows_of old.tables n)) (sym same) before))
        (λ (is : row ≡ other). record {
          predicate = predicate;
          its = its ∙ ap Some (sym same);
          there = In-append_right (predicate, other) stated ((predicate, row) ∷ []) (inl (ap (λ (r : List Value). (predicate, r)) is));
        })
        (In-with_row (rows_of old.tables table) row other (subst (λ (rows : List (List Value)). In other rows) (ap (rows_of new.tables) same ∙ put.rows) there))
    from_place place other (inr (inl less)) there =
        older place other (subst (λ (rows : List (List Value)). In other rows) (put.others place (λ same. omega (arith, same, less))) there)
    from_place place other (inr (inr less)) there =
        older place other (subst (λ (rows : List (List Value)). In other rows) (put.others place (λ same. omega (arith, same, less))) there)

    by_new : (b : Bool) → has_row (rows_of old.tables table) row ≡ b → new.left + length (each_once same_stated more) ≡ most
    by_new true is =
        let left : old.left ≡ new.left = put.left ∙ ap (λ (t : Bool). if t then new.left else new.left + 1) is in
        let count = counted stated (predicate, row) true (is_new number most stated old predicate table row holds its ∙ is) in
        omega (arith, left, count, holds.room)
    by_new false is =
        let left : old.left ≡ new.left + 1 = put.left ∙ ap (λ (t : Bool). if t then new.left else new.left + 1) is in
        let count = counted stated (predicate, row) false (is_new number most stated old predicate table row holds its ∙ is) in
        omega (arith, left, count, holds.room)

-- a new row, where there is no room
pub put-over : (number : Numbers) (old : Filling) (predicate : Signature) (table : ℕ) (row : List Value) → number predicate ≡ Some table → has_row (rows_of old.tables table) row ≡ false → old.left ≡ 0
    → Overflows number ((predicate, row) ∷ []) old
put-over number old predicate table row its is none most stated holds =
    let count = counted stated (predicate, row) false (is_new number most stated old predicate table row holds its ∙ is) in
    omega (arith, count, none, holds.room)

-- ---- more and more rows

pub adds-none : (number : Numbers) (old : Filling) → Adds number [] old old
adds-none number old most stated holds = subst (λ (l : List Stated). Holds number most l old) (sym (append-nil stated)) holds

-- what is added in the end, where this is still to be added now
pub record Leads (number : Numbers) (rest all : List Stated) (start now : Filling) : Type 0 where
  pub adds : (end : Filling) → Adds number rest now end → Adds number all start end
  pub over : Overflows number rest now → Overflows number all start

pub leads-start : (number : Numbers) (all : List Stated) (start : Filling) → Leads number all all start start
leads-start number all start = record { adds = λ end adds. adds; over = λ over. over }

pub leads-more : (number : Numbers) (more rest all : List Stated) (start now next : Filling) → Leads number (more ++ rest) all start now → Adds number more now next → Leads number rest all start next
leads-more number more rest all start now next leads adds = record {
  adds = λ end later. leads.adds end (λ most stated holds. subst (λ (l : List Stated). Holds number most l end) (append_assoc stated more rest) (later most (stated ++ more) (adds most stated holds)));
  over = λ later. leads.over (λ most stated holds. subst (λ (l : List Stated). most < length (each_once same_stated l)) (append_assoc stated more rest) (later most (stated ++ more) (adds most stated holds)));
}

pub leads-over : (number : Numbers) (more rest all : List Stated) (start now : Filling) → Leads number (more ++ rest) all start now → Overflows number more now → Overflows number all start
leads-over number more rest all start now leads over =
    leads.over (λ most stated holds.
    let less = over most stated holds in
    let grows = once-more same_stated stated_one stated_itself (stated ++ more) rest in
    let longer : length (each_once same_stated (stated ++ more)) ≤ length (each_once same_stated (stated ++ (more ++ rest))) =
    subst (λ (l : List Stated). length (each_once same_stated (stated ++ more)) ≤ length (each_once same_stated l)) (append_assoc stated more rest) grows in
    omega (arith, less, longer))

pub leads-end : (number : Numbers) (all : List Stated) (start now : Filling) → Leads number [] all start now → Adds number all start now
leads-end number all start now leads = leads.adds now (adds-none number now)
