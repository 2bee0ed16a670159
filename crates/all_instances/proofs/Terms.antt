-- Values of a program are different terms where they are different, and the rows that its facts state are of such values.
use Rattle.std.proofs.Common.{◌≡◌, inl, inr, ℕ, zero, suc, true, false, List, [], ◌∷◌, map, length, refl, sym, ap, ap₂, subst, ⊎_elim}
use Rattle.std.specs.Prelude.{Bool, ◌-ℤ◌, ◌+ℤ◌, pos, Ok, Err, if◌then◌else◌}
use Rattle.std.specs.List.{list_all, range_with_len}
use Rattle.std.specs.declared.cmp.Ordering.TheVariants.{Equal}
use Rattle.std.proofs.lemmas.Bool.{and_parts, and_from, eq-eqb, false≢true}
use Rattle.std.proofs.lemmas.Bool.Decides.{Decides-int_eq}
use Rattle.std.proofs.lemmas.Cmp.{tied_itself}
use Rattle.tel_base.specs.Members.{In}
use Rattle.tel_base.proofs.Members.{In-map_from, In-flat_map, In-flat_map_from}
use Rattle.tel_term.specs.declared.terms.Term.{Term}
use Rattle.tel_term.specs.declared.terms.Value.{Value}
use Rattle.tel_term.specs.declared.terms.Value.TheVariants as values
use Rattle.tel_term.specs.declared.exprs.Expr.{Expr}
use Rattle.tel_term.specs.Arithmetic.{Valued, variable_value, expr_value}
use Rattle.tel_term.specs.Symbols.{term_eq, IsTable}
use Rattle.tel_term.specs.Order.{term_at, value_in_range, term_cmp}
use Rattle.tel_term.proofs.Ordered.{terms-total, values-level}
use Rattle.tel_term.proofs.Tables.{term_eq-Decides}
use Rattle.tel_rule.specs.Atoms.{value_eq, values_eq}
use Rattle.tel_rule.specs.declared.statements.Arg.{Arg}
use Rattle.tel_rule.specs.declared.statements.Arg.TheVariants as args
use Rattle.tel_rule.specs.declared.statements.Signature.{Signature}
use Rattle.tel_rule.specs.declared.statements.Kind.{Kind}
use Rattle.tel_rule.specs.declared.statements.Kind.TheVariants as kinds
use Rattle.tel_rule.specs.declared.statements.Statement.{Statement}
use Rattle.tel_semantics.specs.Tables.{same_predicate, tuple_predicate, count_of, range_values, one_value, arg_values, choices, tuple_rows, fact_rows, stated_rows}
use Rattle.live_instances.specs.Bindings.{is_value}
use Rattle.rule_plans.specs.Within.{IsWithin, AreWithin, arg_exprs, tuple_exprs, kind_exprs, StatementsAreWithin}
use Rattle.rule_plans.proofs.Exprs.{value_term}
use Rattle.theory_lists.specs.Atoms.{terms_eq}

-- ---- one term, one value

value_itself : (v : Value) → value_eq v v ≡ true
value_itself (values.Num n) = (Decides-int_eq n n).1 refl
value_itself (values.Sym n) = eq-eqb n n refl

pub values_themselves : (xs : List Value) → values_eq xs xs ≡ true
values_themselves [] = refl
values_themselves (x ∷ xs) = and_from (value_eq x x) (values_eq xs xs) (value_itself x) (values_themselves xs)

module _ (symbols : List Term) (table : IsTable symbols) where
  one_term : (a b : Value) → value_in_range symbols a ≡ true → value_in_range symbols b ≡ true → term_at symbols a ≡ term_at symbols b → a ≡ b
  one_term a b in_a in_b same =
      (values-level symbols a b table in_a in_b).0 (subst (λ (t : Term). term_cmp (term_at symbols a) t ≡ Equal) same (tied_itself terms-total (term_at symbols a)))

  pub one_row : (xs ys : List Value) → list_all (value_in_range symbols) xs ≡ true → list_all (value_in_range symbols) ys ≡ true → terms_eq (map (term_at symbols) xs) (map (term_at symbols) ys) ≡ true → xs ≡ ys
  one_row [] [] in_x in_y same = refl
  one_row [] (y ∷ ys) in_x in_y same = absurd (false≢true same)
  one_row (x ∷ xs) [] in_x in_y same = absurd (false≢true same)
  one_row (x ∷ xs) (y ∷ ys) in_x in_y same =
      let here_x = and_parts (value_in_range symbols x) (list_all (value_in_range symbols) xs) in_x in
      let here_y = and_parts (value_in_range symbols y) (list_all (value_in_range symbols) ys) in_y in
      let both = and_parts (term_eq (term_at symbols x) (term_at symbols y)) (terms_eq (map (term_at symbols) xs) (map (term_at symbols) ys)) same in
      ap₂ (λ (v : Value) (vs : List Value). v ∷ vs)
      (one_term x y here_x.0 here_y.0 ((term_eq-Decides (term_at symbols x) (term_at symbols y)).0 both.0)) (one_row xs ys here_x.1 here_y.1 both.1)

-- ---- values of expressions

module _ (symbols : List Term) where
  value_known : (value : Value) → is_value symbols value ≡ true → value_in_range symbols value ≡ true
  value_known (values.Num number) is = refl
  value_known (values.Sym number) is = is

  -- a variable of a binding has a term, and one past its end has a number
  variable_term : (binding : List Value) (v : ℕ) → list_all (is_value symbols) binding ≡ true → is_value symbols (variable_value binding v) ≡ true
  variable_term [] v all = refl
  variable_term (first ∷ more) zero all = (and_parts (is_value symbols first) (list_all (is_value symbols) more) all).0
  variable_term (first ∷ more) (suc v) all = variable_term more v (and_parts (is_value symbols first) (list_all (is_value symbols) more) all).1

  pub value_ranges : (count : ℕ) (binding : List Value) (expr : Expr) (value : Value) → list_all (is_value symbols) binding ≡ true → IsWithin symbols count expr → expr_value binding expr ≡ Ok value → value_in_range symbols value ≡ true
  value_ranges count binding expr value all within is =
      value_known value (value_term symbols binding expr within.values (λ v reads. variable_term binding v all) value is)

  -- ---- values of arguments

  abbrev AllRange : List Value → Type 0
  AllRange list = (value : Value) → In value list → value_in_range symbols value ≡ true

  one_ranges : (count : ℕ) (expr : Expr) → IsWithin symbols count expr → (v : Valued) → expr_value [] expr ≡ v → AllRange (one_value v)
  one_ranges count expr within (Ok value) is other there =
      ⊎_elim (λ (same : value ≡ other). subst (λ (x : Value). value_in_range symbols x ≡ true) same (value_ranges count [] expr value refl within is)) (λ none. absurd none) there
  one_ranges count expr within (Err fault) is other there = absurd there

  numbers_range : (low high : Valued) → AllRange (range_values low high)
  numbers_range (Ok (values.Num low)) (Ok (values.Num high)) value there =
      let from = In-map_from (λ (k : ℕ). values.Num (low +ℤ pos k)) value (range_with_len 0 (count_of (high -ℤ low))) there in
      subst (λ (x : Value). value_in_range symbols x ≡ true) from.2 refl
  numbers_range (Ok (values.Num low)) (Ok (values.Sym high)) value there = absurd there
  numbers_range (Ok (values.Num low)) (Err fault) value there = absurd there
  numbers_range (Ok (values.Sym low)) high value there = absurd there
  numbers_range (Err fault) high value there = absurd there

  arg_range : (count : ℕ) (arg : Arg) → AreWithin symbols count (arg_exprs arg) → AllRange (arg_values arg)
  arg_range count (args.One expr) within = one_ranges count expr (within expr (inl refl)) (expr_value [] expr) refl
  arg_range count (args.Range low high) within = numbers_range (expr_value [] low) (expr_value [] high)

  -- ---- rows

  choices_range : (lists : List (List Value)) (row : List Value) → ((list : List Value) → In list lists → AllRange list) → In row (choices lists) → list_all (value_in_range symbols) row ≡ true
  choices_range [] row all there = ⊎_elim (λ (is : [] ≡ row). ap (list_all (value_in_range symbols)) (sym is)) (λ none. absurd none) there
  choices_range (here ∷ more) row all there =
      let first = In-flat_map_from (λ (value : Value). map (λ (rest : List Value). value ∷ rest) (choices more)) row here there in
      let rest = In-map_from (λ (r : List Value). first.0 ∷ r) row (choices more) first.2 in
      subst (λ (r : List Value). list_all (value_in_range symbols) r ≡ true) rest.2
      (and_from (value_in_range symbols first.0) (list_all (value_in_range symbols) rest.0) (all here (inl refl) first.0 first.1)
      (choices_range more rest.0 (λ list later. all list (inr later)) rest.1))

  tuple_range : (count : ℕ) (tuple : List Arg) (row : List Value) → AreWithin symbols count (tuple_exprs tuple) → In row (tuple_rows tuple) → list_all (value_in_range symbols) row ≡ true
  tuple_range count tuple row within there = choices_range (map arg_values tuple) row lists there
    where
      lists : (list : List Value) → In list (map arg_values tuple) → AllRange list
      lists list here =
          let from = In-map_from arg_values list tuple here in
          subst (λ (l : List Value). AllRange l) from.2 (arg_range count from.0 (λ expr own. within expr (In-flat_map arg_exprs from.0 expr tuple from.1 own)))

  in_if : (test : Bool) (row : List Value) (rows : List (List Value)) → In row (if test then rows else []) → In row rows
  in_if true row rows there = there
  in_if false row rows there = absurd there

  kind_range : (count : ℕ) (kind : Kind) (predicate : Signature) (row : List Value) → AreWithin symbols count (kind_exprs kind) → In row (fact_rows predicate kind) → list_all (value_in_range symbols) row ≡ true
  kind_range count (kinds.Facts fact) predicate row within there =
      let from = In-flat_map_from (λ (tuple : List Arg). if same_predicate predicate (tuple_predicate fact tuple) then tuple_rows tuple else []) row fact.tuples there in
      tuple_range count from.0 row (λ expr own. within expr (In-flat_map tuple_exprs from.0 expr fact.tuples from.1 own))
      (in_if (same_predicate predicate (tuple_predicate fact from.0)) row (tuple_rows from.0) from.2)
  kind_range count (kinds.Rule head body) predicate row within there = absurd there
  kind_range count (kinds.Const name value) predicate row within there = absurd there
  kind_range count (kinds.Show shown) predicate row within there = absurd there

  pub stated_range : (statements : List Statement) → StatementsAreWithin symbols statements → (predicate : Signature) (row : List Value) → In row (stated_rows statements predicate) → list_all (value_in_range symbols) row ≡ true
  stated_range statements within predicate row there =
      let from = In-flat_map_from (λ (statement : Statement). fact_rows predicate statement.kind) row statements there in
      kind_range (length from.0.vars) from.0.kind predicate row (within from.0 from.1) from.2
