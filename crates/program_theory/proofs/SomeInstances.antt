-- Each program has live instances.
use Rattle.std.proofs.Common.{◌≡◌, ℕ, zero, suc, ◌+◌, ◌<◌, ◌≤◌, ℤ, pos, negsuc, true, false, ◌&&◌, List, [], ◌∷◌, ◌++◌, length, map, refl, subst, ⊎_elim, inl, inr, arith}
use Rattle.std.specs.Prelude.{nat_lt, ◌==◌, int_le}
use Rattle.std.specs.List.{filter, flat_map, list_all, range_with_len}
use Rattle.std.proofs.lemmas.Bool.{and_parts, and_from, cases_Bool, eqb-true, ltb-true, ltb-false, leb-true}
use Rattle.tel_base.specs.Members.{In}
use Rattle.tel_base.proofs.Members.{In-append_left, In-append_right, In-map, In-flat_map, In-filter, In-filter_from, In-list_all}
use Rattle.tel_term.specs.declared.terms.Term.{Term}
use Rattle.tel_term.specs.declared.terms.Value.{Value}
use Rattle.tel_term.specs.declared.terms.Value.TheVariants as values
use Rattle.tel_term.specs.Arithmetic.{is_held}
use Rattle.tel_term.specs.Symbols.{IsTable}
use Rattle.tel_rule.specs.declared.statements.Head.{Head}
use Rattle.tel_rule.specs.declared.statements.Literal.{Literal}
use Rattle.tel_rule.specs.declared.statements.Kind.{Kind}
use Rattle.tel_rule.specs.declared.statements.Kind.TheVariants as kinds
use Rattle.tel_rule.specs.declared.statements.Statement.{Statement}
use Rattle.tel_semantics.specs.Tables.{tuple_rows}
use Rattle.live_instances.specs.Bindings.{is_value, is_binding, binding_cmp}
use Rattle.live_instances.specs.Instances.{AreLive, is_live}
use Rattle.live_instances.proofs.BindingOrder.{bindings-total, bindings-level}
use Rattle.program_theory.specs.Instances.{KindHasInstances, HaveInstances}
use Rattle.program_theory.specs.Laws.{ProgramsHaveInstances}
use Rattle.program_theory.proofs.RisingLists.{rising, rising-is}

-- ---- all values

in_range : (count low x : ℕ) → low ≤ x → x < low + count → In x (range_with_len low count)
in_range zero low x l m = absurd (omega (arith, l, m))
in_range (suc count) low x l m =
    ⊎_elim (λ (above : nat_lt low x ≡ true). inr (in_range count (low + 1) x (omega (arith, ltb-true low x above)) (omega (arith, m))))
    (λ (other : nat_lt low x ≡ false). inl (first low x l (ltb-false low x other))) (cases_Bool (nat_lt low x))
  where
    first : (low x : ℕ) → low ≤ x → x ≤ low → low ≡ x
    first low x l m = omega (arith, l, m)

-- the numbers from -1 - low to high
all_numbers : ℕ → ℕ → List Value
all_numbers low high = map (λ (n : ℕ). values.Num (negsuc n)) (range_with_len 0 (suc low)) ++ map (λ (n : ℕ). values.Num (pos n)) (range_with_len 0 (suc high))

number_there : (low high : ℕ) (number : ℤ) → (int_le (negsuc low) number && int_le number (pos high)) ≡ true → In (values.Num number) (all_numbers low high)
unfolding all_numbers
number_there low high (pos n) held =
    let both = and_parts (int_le (negsuc low) (pos n)) (int_le (pos n) (pos high)) held in
    In-append_right (values.Num (pos n)) (map (λ (m : ℕ). values.Num (negsuc m)) (range_with_len 0 (suc low))) (map (λ (m : ℕ). values.Num (pos m)) (range_with_len 0 (suc high)))
    (In-map (λ (m : ℕ). values.Num (pos m)) n (range_with_len 0 (suc high)) (in_range (suc high) 0 n (omega arith) (omega (arith, leb-true n high both.1))))
number_there low high (negsuc n) held =
    let both = and_parts (int_le (negsuc low) (negsuc n)) (int_le (negsuc n) (pos high)) held in
    In-append_left (values.Num (negsuc n)) (map (λ (m : ℕ). values.Num (negsuc m)) (range_with_len 0 (suc low))) (map (λ (m : ℕ). values.Num (pos m)) (range_with_len 0 (suc high)))
    (In-map (λ (m : ℕ). values.Num (negsuc m)) n (range_with_len 0 (suc low)) (in_range (suc low) 0 n (omega arith) (omega (arith, leb-true n low both.0))))

all_values : ℕ → ℕ → List Term → List Value
all_values low high symbols = all_numbers low high ++ map (λ (n : ℕ). values.Sym n) (range_with_len 0 (length symbols))

value_there : (low high : ℕ) (symbols : List Term) (value : Value) → is_value symbols value ≡ true → ((number : ℤ) → is_held number ≡ true → In (values.Num number) (all_numbers low high)) → In value (all_values low high symbols)
unfolding all_values
value_there low high symbols (values.Num number) is held = In-append_left (values.Num number) (all_numbers low high) (map (λ (n : ℕ). values.Sym n) (range_with_len 0 (length symbols))) (held number is)
value_there low high symbols (values.Sym number) is held =
    In-append_right (values.Sym number) (all_numbers low high) (map (λ (n : ℕ). values.Sym n) (range_with_len 0 (length symbols)))
    (In-map (λ (n : ℕ). values.Sym n) number (range_with_len 0 (length symbols)) (in_range (length symbols) 0 number (omega arith) (omega (arith, ltb-true number (length symbols) is))))

-- ---- all bindings

all_lists : ℕ → List Value → List (List Value)
all_lists zero some = [] ∷ []
all_lists (suc count) some = flat_map (λ (value : Value). map (λ (row : List Value). value ∷ row) (all_lists count some)) some

list_there : (some : List Value) (row : List Value) → ((value : Value) → In value row → In value some) → In row (all_lists (length row) some)
unfolding all_lists
list_there some [] all = inl refl
list_there some (value ∷ row) all =
    In-flat_map (λ (first : Value). map (λ (rest : List Value). first ∷ rest) (all_lists (length row) some)) value (value ∷ row) some (all value (inl refl))
    (In-map (λ (rest : List Value). value ∷ rest) row (all_lists (length row) some) (list_there some row (λ other found. all other (inr found))))

each_value : (symbols : List Term) (row : List Value) (value : Value) → list_all (is_value symbols) row ≡ true → In value row → is_value symbols value ≡ true
each_value symbols row value all found = In-list_all (is_value symbols) value row all found

binding_there : (low high : ℕ) (symbols : List Term) (count : ℕ) (binding : List Value) → ((number : ℤ) → is_held number ≡ true → In (values.Num number) (all_numbers low high)) → is_binding symbols count binding ≡ true
    → In binding (all_lists count (all_values low high symbols))
binding_there low high symbols count binding held is =
    let both = and_parts (length binding == count) (list_all (is_value symbols) binding) is in
    subst (λ (n : ℕ). In binding (all_lists n (all_values low high symbols))) (eqb-true (length binding) count both.0)
    (list_there (all_values low high symbols) binding (λ value found. value_there low high symbols value (each_value symbols binding value both.1 found) held))

-- ---- live instances

module _ (statements : List Statement) (symbols : List Term) (table : IsTable symbols) where
  some_live : (low high count : ℕ) (head : Head) (body : List Literal) → ((number : ℤ) → is_held number ≡ true → In (values.Num number) (all_numbers low high)) → (live : List (List Value)) × AreLive statements symbols count head body live
  some_live low high count head body held =
      let test = λ (binding : List Value). is_binding symbols count binding && is_live statements symbols head body binding in
      let all = all_lists count (all_values low high symbols) in
      let order = rising-is (binding_cmp symbols) (bindings-total symbols) (λ binding. is_binding symbols count binding ≡ true) (λ a b is_a is_b level. (bindings-level symbols count a b table is_a is_b).0 level)
      (filter test all) (λ binding found. (and_parts (is_binding symbols count binding) (is_live statements symbols head body binding) (In-filter_from test binding all found).1).0) in (
        rising (binding_cmp symbols) (bindings-total symbols) (filter test all),
        record {
          rise = order.rise;
          members = λ binding. (
            λ found. and_parts (is_binding symbols count binding) (is_live statements symbols head body binding) (In-filter_from test binding all ((order.members binding).0 found)).1,
            λ both. (order.members binding).1 (In-filter test binding all (binding_there low high symbols count binding held both.0) (and_from (is_binding symbols count binding) (is_live statements symbols head body binding) both.0 both.1)),
          );
        },
      )

  some_kind : (count : ℕ) (kind : Kind) → (live : List (List Value)) × KindHasInstances statements symbols count kind live
  some_kind count (kinds.Rule head body) = some_live 2147483647 2147483647 count head body (number_there 2147483647 2147483647)
  some_kind count (kinds.Facts fact) = (flat_map tuple_rows fact.tuples, refl)
  some_kind count (kinds.Const name value) = ([], refl)
  some_kind count (kinds.Show shown) = ([], refl)

  some_each : (some : List Statement) → (live : List (List (List Value))) × HaveInstances statements symbols some live
  some_each [] = ([], tt {0})
  some_each (statement ∷ more) =
      let here = some_kind (length statement.vars) statement.kind in
      let rest = some_each more in
      (here.0 ∷ rest.0, (here.1, rest.1))

pub programs-instances : ProgramsHaveInstances
programs-instances program table = some_each program.statements program.symbols table program.statements
