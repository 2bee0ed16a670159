-- The rows that facts state are of terms of the program.
use Rattle.std.proofs.Common.{◌≡◌, inl, inr, ℕ, zero, suc, ◌+◌, ◌<◌, ◌≤◌, true, List, [], ◌∷◌, map, length, rules, refl, sym, ap, subst, arith}
use Rattle.std.specs.Prelude.{ℤ, pos, negsuc, ◌+ℤ◌, ◌-ℤ◌, ◌≤ℤ◌, int_le, ◌&&◌, Ok, Err, Option, Some, None}
use Rattle.std.specs.List.{list_all, flat_map, range_with_len}
use Rattle.std.proofs.lemmas.Bool.{and_parts, and_from}
use Rattle.std.proofs.lemmas.Int.{ints}
use Rattle.tel_base.specs.Members.{In}
use Rattle.tel_base.proofs.Members.{In-map_from, In-flat_map, In-flat_map_from, list_all-from_In}
use Rattle.tel_term.specs.declared.terms.Term.{Term}
use Rattle.tel_term.specs.declared.terms.Value.{Value}
use Rattle.tel_term.specs.declared.terms.Value.TheVariants as values
use Rattle.tel_term.specs.declared.exprs.Expr.{Expr}
use Rattle.tel_term.specs.Arithmetic.{Valued, expr_value}
use Rattle.tel_rule.specs.declared.statements.Arg.{Arg}
use Rattle.tel_rule.specs.declared.statements.Arg.TheVariants as args
use Rattle.tel_rule.specs.declared.statements.Signature.{Signature}
use Rattle.tel_rule.specs.declared.statements.Kind.{Kind}
use Rattle.tel_rule.specs.declared.statements.Kind.TheVariants as kinds
use Rattle.tel_rule.specs.declared.statements.Statement.{Statement}
use Rattle.tel_semantics.specs.Tables.{tuple_predicate, tuple_rows, choices, arg_values, one_value, range_values, numbers_between, numbers_from, count_of}
use Rattle.live_instances.specs.Bindings.{is_value}
use Rattle.rule_plans.specs.Within.{arg_exprs, tuple_exprs, values_in, IsWithin, AreWithin}
use Rattle.plan_search.proofs.Terms.{expr_term}
use Rattle.rule_goals.specs.Said.{Numbers}
use Rattle.fact_rows.specs.Filling.{Stated, rows_stated, tuple_stated, kind_stated, all_stated}
use Rattle.fact_rows.specs.Limit.{fact_exprs, FactsAreWithin}

-- ---- the numbers of a range

in-range : (k start count : ℕ) → In k (range_with_len start count) → (start ≤ k) × (k < start + count)
in-range k start zero there = absurd there
in-range k start (suc count) (inl is) = (omega (arith, is), omega (arith, is))
in-range k start (suc count) (inr later) = let rest = in-range k (start + 1) count later in (omega (arith, rest.0), omega (arith, rest.1))

le_of : (a b : ℤ) → int_le a b ≡ true → a ≤ℤ b
le_of a b is = search rules

to_le : (a b : ℤ) → a ≤ℤ b → int_le a b ≡ true
to_le a b le = search rules

in-between : (low high : ℤ) (value : Value) → In value (numbers_between low high) → (n : ℤ) × (values.Num n ≡ value) × (low ≤ℤ n) × (n ≤ℤ high)
in-between low high value there = by (high -ℤ low) refl
  where
    found : (count : ℕ) → In value (numbers_from low count) → (k : ℕ) × (values.Num (low +ℤ pos k) ≡ value) × (k < count)
    found count within =
        let from = In-map_from (λ (k : ℕ). values.Num (low +ℤ pos k)) value (range_with_len 0 count) within in
        let bounds = in-range from.0 0 count from.1 in
        (from.0, from.2, omega (arith, bounds.1))

    by : (d : ℤ) → high -ℤ low ≡ d → (n : ℤ) × (values.Num n ≡ value) × (low ≤ℤ n) × (n ≤ℤ high)
    by (pos d) is =
        let f = found (d + 1) (subst (λ (e : ℤ). In value (numbers_from low (count_of e))) is there) in
        let less = f.2 in
        (low +ℤ pos f.0, f.1, omega (arith, ints, is, less), omega (arith, ints, is, less))
    by (negsuc d) is = absurd (subst (λ (e : ℤ). In value (numbers_from low (count_of e))) is there)

held-between : (least most low high n : ℤ) → (int_le least low && int_le low most) ≡ true → (int_le least high && int_le high most) ≡ true → low ≤ℤ n → n ≤ℤ high → (int_le least n && int_le n most) ≡ true
held-between least most low high n held_low held_high above below =
    let a = le_of least low (and_parts (int_le least low) (int_le low most) held_low).0 in
    let b = le_of high most (and_parts (int_le least high) (int_le high most) held_high).1 in
    let first : least ≤ℤ n = omega (arith, ints) in
    let last : n ≤ℤ most = omega (arith, ints) in
    and_from (int_le least n) (int_le n most) (to_le least n first) (to_le n most last)

-- ---- the values of arguments

module _ (symbols : List Term) where
  abbrev AllTerms : List Value → Type 0
  AllTerms list = (value : Value) → In value list → is_value symbols value ≡ true

  one-term : (count : ℕ) (expr : Expr) (value : Value) → IsWithin symbols count expr → expr_value [] expr ≡ Ok value → is_value symbols value ≡ true
  one-term count expr value within is = expr_term symbols [] expr value refl (list_all-from_In (is_value symbols) (values_in expr) within.values) is

  one-terms : (count : ℕ) (expr : Expr) → IsWithin symbols count expr → (v : Valued) → expr_value [] expr ≡ v → AllTerms (one_value v)
  one-terms count expr within (Ok value) is other (inl same) = subst (λ (x : Value). is_value symbols x ≡ true) same (one-term count expr value within is)
  one-terms count expr within (Ok value) is other (inr none) = absurd none
  one-terms count expr within (Err fault) is other there = absurd there

  range-terms : (low high : Valued) → ((value : Value) → low ≡ Ok value → is_value symbols value ≡ true) → ((value : Value) → high ≡ Ok value → is_value symbols value ≡ true) → AllTerms (range_values low high)
  range-terms (Ok (values.Num low)) (Ok (values.Num high)) own_low own_high value there =
      let n = in-between low high value there in
      subst (λ (x : Value). is_value symbols x ≡ true) n.1
      (held-between (negsuc 2147483647) (pos 2147483647) low high n.0 (own_low (values.Num low) refl) (own_high (values.Num high) refl) n.2 n.3)
  range-terms (Ok (values.Num low)) (Ok (values.Sym high)) own_low own_high value there = absurd there
  range-terms (Ok (values.Num low)) (Err fault) own_low own_high value there = absurd there
  range-terms (Ok (values.Sym low)) high own_low own_high value there = absurd there
  range-terms (Err fault) high own_low own_high value there = absurd there

  arg-terms : (count : ℕ) (arg : Arg) → AreWithin symbols count (arg_exprs arg) → AllTerms (arg_values arg)
  arg-terms count (args.One expr) within = one-terms count expr (within expr (inl refl)) (expr_value [] expr) refl
  arg-terms count (args.Range low high) within =
      range-terms (expr_value [] low) (expr_value [] high) (λ value is. one-term count low value (within low (inl refl)) is) (λ value is. one-term count high value (within high (inr (inl refl))) is)

  -- ---- rows

  chosen-terms : (lists : List (List Value)) (row : List Value) → ((list : List Value) → In list lists → AllTerms list) → In row (choices lists) → list_all (is_value symbols) row ≡ true
  chosen-terms [] row all (inl is) = ap (list_all (is_value symbols)) (sym is)
  chosen-terms [] row all (inr none) = absurd none
  chosen-terms (here ∷ more) row all there =
      let first = In-flat_map_from (λ (value : Value). map (λ (rest : List Value). value ∷ rest) (choices more)) row here there in
      let rest = In-map_from (λ (r : List Value). first.0 ∷ r) row (choices more) first.2 in
      subst (λ (r : List Value). list_all (is_value symbols) r ≡ true) rest.2
      (and_from (is_value symbols first.0) (list_all (is_value symbols) rest.0) (all here (inl refl) first.0 first.1) (chosen-terms more rest.0 (λ list later. all list (inr later)) rest.1))

  pub tuple-terms : (count : ℕ) (tuple : List Arg) (row : List Value) → AreWithin symbols count (tuple_exprs tuple) → In row (tuple_rows tuple) → list_all (is_value symbols) row ≡ true
  tuple-terms count tuple row within there = chosen-terms (map arg_values tuple) row lists there
    where
      lists : (list : List Value) → In list (map arg_values tuple) → AllTerms list
      lists list here =
          let from = In-map_from arg_values list tuple here in
          subst (λ (l : List Value). AllTerms l) from.2 (arg-terms count from.0 (λ expr own. within expr (In-flat_map arg_exprs from.0 expr tuple from.1 own)))

  stated-row : (table : Option ℕ) (other predicate : Signature) (rows : List (List Value)) (row : List Value) → In (predicate, row) (rows_stated table other rows) → In row rows
  stated-row None other predicate rows row there = absurd there
  stated-row (Some table) other predicate rows row there =
      let from = In-map_from (λ (r : List Value). (other, r)) (predicate, row) rows there in
      subst (λ (r : List Value). In r rows) (ap (λ (o : Stated). o.1) from.2) from.1

  kind-terms : (number : Numbers) (count : ℕ) (kind : Kind) (predicate : Signature) (row : List Value) → AreWithin symbols count (fact_exprs kind) → In (predicate, row) (kind_stated number kind) → list_all (is_value symbols) row ≡ true
  kind-terms number count (kinds.Facts fact) predicate row within there =
      let from = In-flat_map_from (tuple_stated number fact) (predicate, row) fact.tuples there in
      let tuple = from.0 in
      tuple-terms count tuple row
      (λ expr own. within expr (In-flat_map tuple_exprs tuple expr fact.tuples from.1 own))
      (stated-row (number (tuple_predicate fact tuple)) (tuple_predicate fact tuple) predicate (tuple_rows tuple) row from.2)
  kind-terms number count (kinds.Rule head body) predicate row within there = absurd there
  kind-terms number count (kinds.Const name value) predicate row within there = absurd there
  kind-terms number count (kinds.Show shown) predicate row within there = absurd there

pub stated-terms : (number : Numbers) (symbols : List Term) (statements : List Statement) → FactsAreWithin symbols statements
    → (predicate : Signature) (row : List Value) → In (predicate, row) (all_stated number statements) → list_all (is_value symbols) row ≡ true
stated-terms number symbols statements within predicate row there =
    let from = In-flat_map_from (λ (statement : Statement). kind_stated number statement.kind) (predicate, row) statements there in
    kind-terms symbols number (length from.0.vars) from.0.kind predicate row (within from.0 from.1) from.2
