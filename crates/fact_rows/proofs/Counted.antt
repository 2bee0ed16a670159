-- What the tables of a program hold when all of its facts were added.
use Rattle.std.proofs.Common.{◌≡◌, inl, inr, ℕ, ◌<◌, Bool, true, false, List, [], ◌∷◌, ◌++◌, map, length, refl, sym, ap, ◌∙◌, subst, ⊎_elim, true≢false, arith}
use Rattle.std.specs.Prelude.{if◌then◌else◌, Option, Some, None, IsTrue}
use Rattle.std.specs.List.{list_all, flat_map}
use Rattle.tel_base.specs.Members.{In}
use Rattle.tel_base.proofs.Members.{In-append_left, In-append_right, In-append_cases, In-map_from, In-flat_map_from, any_found, any_from}
use Rattle.tel_term.specs.declared.terms.Term.{Term}
use Rattle.tel_term.specs.declared.terms.Value.{Value}
use Rattle.tel_rule.specs.Atoms.{values_eq}
use Rattle.tel_rule.specs.declared.statements.Arg.{Arg}
use Rattle.tel_rule.specs.declared.statements.Fact.{Fact}
use Rattle.tel_rule.specs.declared.statements.Signature.{Signature}
use Rattle.tel_rule.specs.declared.statements.Kind.{Kind}
use Rattle.tel_rule.specs.declared.statements.Kind.TheVariants as kinds
use Rattle.tel_rule.specs.declared.statements.Statement.{Statement}
use Rattle.tel_semantics.specs.Tables.{same_predicate, tuple_predicate, tuple_rows, fact_rows, stated_rows, is_table}
use Rattle.live_instances.specs.Bindings.{is_value}
use Rattle.join_plans.specs.Once.{IsOnce}
use Rattle.join_plans.proofs.Counting.{fewer}
use Rattle.fact_table.specs.Equal.{values_one, values_itself}
use Rattle.rule_plans.specs.Within.{AreRowsOf}
use Rattle.plan_search.specs.Steps.{RowsHaveTerms}
use Rattle.rule_goals.specs.Said.{Numbers}
use Rattle.rule_goals.specs.Numbers.{has_number, AreNumbered}
use Rattle.fact_rows.specs.declared.filling.Filling.{Filling}
use Rattle.fact_rows.specs.Once.{each_once}
use Rattle.fact_rows.specs.Filling.{Stated, same_stated, rows_for, rows_stated, tuple_stated, kind_stated, all_stated, Holds}
use Rattle.fact_rows.specs.Limit.{rows_at, rows_by, IsRowOf, HaveMoreRows, FactsAreWithin}
use Rattle.fact_rows.proofs.Heads.{one_predicate, predicate_itself}
use Rattle.fact_rows.proofs.Onces.{in_once, once_in, is_once}
use Rattle.fact_rows.proofs.Held.{stated_one, stated_itself, rows_for-append}
use Rattle.fact_rows.proofs.Terms.{stated-terms}

some_number : (o : Option ℕ) → has_number o ≡ true → (table : ℕ) × (o ≡ Some table)
some_number None is = absurd (true≢false (sym is))
some_number (Some table) is = (table, refl)

-- ---- the rows of one predicate

all-own : (predicate : Signature) (rows : List (List Value)) → rows_for predicate (map (λ (row : List Value). (predicate, row)) rows) ≡ rows
all-own predicate [] = refl
all-own predicate (row ∷ more) =
    ap (λ (b : Bool). (if b then row ∷ [] else []) ++ rows_for predicate (map (λ (r : List Value). (predicate, r)) more)) (predicate_itself predicate)
    ∙ ap (λ (l : List (List Value)). row ∷ l) (all-own predicate more)

none-own : (predicate other : Signature) (rows : List (List Value)) → same_predicate predicate other ≡ false → rows_for predicate (map (λ (row : List Value). (other, row)) rows) ≡ []
none-own predicate other [] differ = refl
none-own predicate other (row ∷ more) differ =
    ap (λ (b : Bool). (if b then row ∷ [] else []) ++ rows_for predicate (map (λ (r : List Value). (other, r)) more)) differ ∙ none-own predicate other more differ

none-stated : (predicate other : Signature) (table : Option ℕ) (rows : List (List Value)) → same_predicate predicate other ≡ false → rows_for predicate (rows_stated table other rows) ≡ []
none-stated predicate other None rows differ = refl
none-stated predicate other (Some table) rows differ = none-own predicate other rows differ

module _ (number : Numbers) (predicate : Signature) (table : ℕ) (its : number predicate ≡ Some table) where
  tuple-rows : (other : Signature) (rows : List (List Value)) → rows_for predicate (rows_stated (number other) other rows) ≡ (if same_predicate predicate other then rows else [])
  tuple-rows other rows = by (same_predicate predicate other) refl
    where
      by : (b : Bool) → same_predicate predicate other ≡ b → rows_for predicate (rows_stated (number other) other rows) ≡ (if b then rows else [])
      by true same =
          let is = one_predicate predicate other same in
          ap (λ (p : Signature). rows_for predicate (rows_stated (number p) p rows)) (sym is)
          ∙ ap (λ (o : Option ℕ). rows_for predicate (rows_stated o predicate rows)) its
          ∙ all-own predicate rows
      by false differ = none-stated predicate other (number other) rows differ

  tuples-rows : (fact : Fact) (tuples : List (List Arg))
      → rows_for predicate (flat_map (tuple_stated number fact) tuples) ≡ flat_map (λ (tuple : List Arg). if same_predicate predicate (tuple_predicate fact tuple) then tuple_rows tuple else []) tuples
  tuples-rows fact [] = refl
  tuples-rows fact (tuple ∷ more) =
      let here = tuple-rows (tuple_predicate fact tuple) (tuple_rows tuple) in
      let rest = tuples-rows fact more in
      rows_for-append predicate (tuple_stated number fact tuple) (flat_map (tuple_stated number fact) more) ∙ (λ i. here i ++ rest i)

  kind-rows : (kind : Kind) → rows_for predicate (kind_stated number kind) ≡ fact_rows predicate kind
  kind-rows (kinds.Facts fact) = tuples-rows fact fact.tuples
  kind-rows (kinds.Rule head body) = refl
  kind-rows (kinds.Const name value) = refl
  kind-rows (kinds.Show shown) = refl

  -- what was stated of it are its rows
  pub table-rows : (statements : List Statement) → rows_for predicate (all_stated number statements) ≡ stated_rows statements predicate
  table-rows [] = refl
  table-rows (statement ∷ more) =
      let here = kind-rows statement.kind in
      let rest = table-rows more in
      rows_for-append predicate (kind_stated number statement.kind) (all_stated number more) ∙ (λ i. here i ++ rest i)

-- ---- what is among the stated

in-rows_for : (predicate : Signature) (row : List Value) (stated : List Stated) → In (predicate, row) stated → In row (rows_for predicate stated)
in-rows_for predicate row [] there = absurd there
in-rows_for predicate row (one ∷ more) (inl is) =
    In-append_left row (if same_predicate predicate one.0 then one.1 ∷ [] else []) (rows_for predicate more)
    (subst (λ (o : Stated). In row (if same_predicate predicate o.0 then o.1 ∷ [] else [])) (sym is)
    (subst (λ (b : Bool). In row (if b then row ∷ [] else [])) (sym (predicate_itself predicate)) (inl refl)))
in-rows_for predicate row (one ∷ more) (inr later) =
    In-append_right row (if same_predicate predicate one.0 then one.1 ∷ [] else []) (rows_for predicate more) (in-rows_for predicate row more later)

from-rows_for : (predicate : Signature) (row : List Value) (stated : List Stated) → In row (rows_for predicate stated) → In (predicate, row) stated
from-rows_for predicate row [] there = absurd there
from-rows_for predicate row (one ∷ more) there =
    ⊎_elim (by (same_predicate predicate one.0) refl) (λ later. inr (from-rows_for predicate row more later))
    (In-append_cases row (if same_predicate predicate one.0 then one.1 ∷ [] else []) (rows_for predicate more) there)
  where
    by : (b : Bool) → same_predicate predicate one.0 ≡ b → In row (if b then one.1 ∷ [] else []) → In (predicate, row) (one ∷ more)
    by true same (inl is) = let its = one_predicate predicate one.0 same in inl (λ i. (sym its i, is i))
    by true same (inr none) = absurd none
    by false differ none = absurd none

row-number : (table : Option ℕ) (other predicate : Signature) (rows : List (List Value)) (row : List Value) → In (predicate, row) (rows_stated table other rows) → (other ≡ predicate) × (has_number table ≡ true)
row-number None other predicate rows row there = absurd there
row-number (Some table) other predicate rows row there =
    let from = In-map_from (λ (r : List Value). (other, r)) (predicate, row) rows there in (ap (λ (o : Stated). o.0) from.2, refl)

kind-number : (number : Numbers) (kind : Kind) (predicate : Signature) (row : List Value) → In (predicate, row) (kind_stated number kind) → has_number (number predicate) ≡ true
kind-number number (kinds.Facts fact) predicate row there =
    let from = In-flat_map_from (tuple_stated number fact) (predicate, row) fact.tuples there in
    let other = tuple_predicate fact from.0 in
    let own = row-number (number other) other predicate (tuple_rows from.0) row from.2 in
    ap (λ (p : Signature). has_number (number p)) (sym own.0) ∙ own.1
kind-number number (kinds.Rule head body) predicate row there = absurd there
kind-number number (kinds.Const name value) predicate row there = absurd there
kind-number number (kinds.Show shown) predicate row there = absurd there

stated-number : (number : Numbers) (statements : List Statement) (predicate : Signature) (row : List Value) → In (predicate, row) (all_stated number statements) → has_number (number predicate) ≡ true
stated-number number statements predicate row there =
    let from = In-flat_map_from (λ (statement : Statement). kind_stated number statement.kind) (predicate, row) statements there in
    kind-number number from.0.kind predicate row from.2

-- ---- tables of a program

module _ (number : Numbers) (statements : List Statement) (tables_have : (predicate : Signature) → has_number (number predicate) ≡ is_table statements predicate) where
  row-of : (predicate : Signature) (row : List Value) → In (predicate, row) (all_stated number statements) → IsRowOf statements predicate row
  row-of predicate row there =
      let has = stated-number number statements predicate row there in
      let table = some_number (number predicate) has in record {
        table = sym (tables_have predicate) ∙ has;
        has = any_from (values_eq row) (stated_rows statements predicate) row
            (subst (λ (rows : List (List Value)). In row rows) (table-rows number predicate table.0 table.1 statements) (in-rows_for predicate row (all_stated number statements) there))
            (values_itself row);
      }

  is-stated : (predicate : Signature) (row : List Value) → IsRowOf statements predicate row → In (predicate, row) (all_stated number statements)
  is-stated predicate row is =
      let table = some_number (number predicate) (tables_have predicate ∙ is.table) in
      let found = any_found (values_eq row) (stated_rows statements predicate) is.has in
      from-rows_for predicate row (all_stated number statements)
      (subst (λ (rows : List (List Value)). In row rows) (sym (table-rows number predicate table.0 table.1 statements))
      (subst (λ (r : List Value). In r (stated_rows statements predicate)) (sym (values_one row found.0 found.2)) found.1))

  -- more than the limit
  pub too-many : (most : ℕ) → most < length (each_once same_stated (all_stated number statements)) → HaveMoreRows statements most
  too-many most more = record {
    rows = each_once same_stated (all_stated number statements);
    are_rows = λ predicate row there. row-of predicate row (in_once same_stated stated_one stated_itself (predicate, row) (all_stated number statements) there);
    once = is_once same_stated stated_one stated_itself (all_stated number statements);
    more = more;
  }

  module _ (most : ℕ) (filling : Filling) (holds : Holds number most (all_stated number statements) filling) where
    pub not-many : HaveMoreRows statements most → ⊥
    not-many have =
        let less = fewer have.rows (each_once same_stated (all_stated number statements)) have.once
        (λ one there. once_in same_stated stated_one stated_itself one (all_stated number statements) (is-stated one.0 one.1 (have.are_rows one.0 one.1 there))) in
        omega (arith, less, have.more, holds.room)

    pub numbered : AreNumbered number statements (rows_by number filling.tables) filling.tables
    numbered = record {
      tables_have = tables_have;
      rows_are = λ predicate table its. ap (λ (o : Option ℕ). rows_at o filling.tables) its;
    }

    pub rows-once : (predicate : Signature) → IsTrue (is_table statements predicate) → rows_by number filling.tables predicate ≡ each_once values_eq (stated_rows statements predicate)
    rows-once predicate is =
        let table = some_number (number predicate) (tables_have predicate ∙ is) in
        ap (λ (o : Option ℕ). rows_at o filling.tables) table.1
        ∙ holds.rows predicate table.0 table.1
        ∙ ap (each_once values_eq) (table-rows number predicate table.0 table.1 statements)

    all-once : (predicate : Signature) (o : Option ℕ) → number predicate ≡ o → IsOnce (rows_at o filling.tables)
    all-once predicate None its = tt
    all-once predicate (Some table) its =
        subst (λ (rows : List (List Value)). IsOnce rows) (sym (holds.rows predicate table its)) (is_once values_eq values_one values_itself (rows_for predicate (all_stated number statements)))

    module _ (symbols : List Term) (within : FactsAreWithin symbols statements) where
      pub have-terms : RowsHaveTerms symbols filling.tables
      have-terms table row there =
          let was = holds.from table row there in
          stated-terms number symbols statements within was.predicate row was.there

      all-terms : (o : Option ℕ) (row : List Value) → In row (rows_at o filling.tables) → IsTrue (list_all (is_value symbols) row)
      all-terms None row there = absurd there
      all-terms (Some table) row there = have-terms table row there

      pub are-rows : AreRowsOf statements symbols (rows_by number filling.tables)
      are-rows = record {
        same = λ predicate is row. (
          λ there.
              any_from (values_eq row) (stated_rows statements predicate) row
              (in_once values_eq values_one values_itself row (stated_rows statements predicate) (subst (λ (rows : List (List Value)). In row rows) (rows-once predicate is) there))
              (values_itself row),
          λ has.
              let found = any_found (values_eq row) (stated_rows statements predicate) has in
              subst (λ (rows : List (List Value)). In row rows) (sym (rows-once predicate is))
              (once_in values_eq values_one values_itself row (stated_rows statements predicate)
              (subst (λ (r : List Value). In r (stated_rows statements predicate)) (sym (values_one row found.0 found.2)) found.1)),
        );
        once = λ predicate. all-once predicate (number predicate) refl;
        terms = λ predicate row there. all-terms (number predicate) row there;
      }
