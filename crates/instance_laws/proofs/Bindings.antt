-- The bindings of so many variables to terms of a program are among those of some list.
use Rattle.std.proofs.Common.{◌≡◌, ℕ, zero, suc, ◌+◌, ◌<◌, ◌≤◌, ℤ, pos, negsuc, true, false, ◌&&◌, List, [], ◌∷◌, ◌++◌, length, map, refl, subst, ⊎_elim, inl, inr, arith}
use Rattle.std.specs.Prelude.{nat_lt, ◌==◌, int_le}
use Rattle.std.specs.List.{flat_map, list_all, range_with_len}
use Rattle.std.proofs.lemmas.Bool.{and_parts, cases_Bool, eqb-true, ltb-true, ltb-false, leb-true}
use Rattle.tel_base.specs.Members.{In}
use Rattle.tel_base.proofs.Members.{In-append_left, In-append_right, In-map, In-flat_map, In-list_all}
use Rattle.tel_term.specs.declared.terms.Term.{Term}
use Rattle.tel_term.specs.declared.terms.Value.{Value}
use Rattle.tel_term.specs.declared.terms.Value.TheVariants as values
use Rattle.tel_term.specs.Arithmetic.{is_held}
use Rattle.live_instances.specs.Bindings.{is_value, is_binding}

-- ---- all values

in_range : (count low x : ℕ) → low ≤ x → x < low + count → In x (range_with_len low count)
in_range zero low x l m = absurd (omega (arith, l, m))
in_range (suc count) low x l m =
    ⊎_elim (λ (above : nat_lt low x ≡ true). inr (in_range count (low + 1) x (omega (arith, ltb-true low x above)) (omega (arith, m))))
    (λ (other : nat_lt low x ≡ false). inl (first low x l (ltb-false low x other))) (cases_Bool (nat_lt low x))
  where
    first : (low x : ℕ) → low ≤ x → x ≤ low → low ≡ x
    first low x l m = omega (arith, l, m)

-- the numbers from -1 - low to high
all_numbers : ℕ → ℕ → List Value
all_numbers low high = map (λ (n : ℕ). values.Num (negsuc n)) (range_with_len 0 (suc low)) ++ map (λ (n : ℕ). values.Num (pos n)) (range_with_len 0 (suc high))

number_there : (low high : ℕ) (number : ℤ) → (int_le (negsuc low) number && int_le number (pos high)) ≡ true → In (values.Num number) (all_numbers low high)
unfolding all_numbers
number_there low high (pos n) held =
    let both = and_parts (int_le (negsuc low) (pos n)) (int_le (pos n) (pos high)) held in
    In-append_right (values.Num (pos n)) (map (λ (m : ℕ). values.Num (negsuc m)) (range_with_len 0 (suc low))) (map (λ (m : ℕ). values.Num (pos m)) (range_with_len 0 (suc high)))
    (In-map (λ (m : ℕ). values.Num (pos m)) n (range_with_len 0 (suc high)) (in_range (suc high) 0 n (omega arith) (omega (arith, leb-true n high both.1))))
number_there low high (negsuc n) held =
    let both = and_parts (int_le (negsuc low) (negsuc n)) (int_le (negsuc n) (pos high)) held in
    In-append_left (values.Num (negsuc n)) (map (λ (m : ℕ). values.Num (negsuc m)) (range_with_len 0 (suc low))) (map (λ (m : ℕ). values.Num (pos m)) (range_with_len 0 (suc high)))
    (In-map (λ (m : ℕ). values.Num (negsuc m)) n (range_with_len 0 (suc low)) (in_range (suc low) 0 n (omega arith) (omega (arith, leb-true n low both.0))))

all_values : ℕ → ℕ → List Term → List Value
all_values low high symbols = all_numbers low high ++ map (λ (n : ℕ). values.Sym n) (range_with_len 0 (length symbols))

value_there : (low high : ℕ) (symbols : List Term) (value : Value) → is_value symbols value ≡ true → ((number : ℤ) → is_held number ≡ true → In (values.Num number) (all_numbers low high)) → In value (all_values low high symbols)
unfolding all_values
value_there low high symbols (values.Num number) is held = In-append_left (values.Num number) (all_numbers low high) (map (λ (n : ℕ). values.Sym n) (range_with_len 0 (length symbols))) (held number is)
value_there low high symbols (values.Sym number) is held =
    In-append_right (values.Sym number) (all_numbers low high) (map (λ (n : ℕ). values.Sym n) (range_with_len 0 (length symbols)))
    (In-map (λ (n : ℕ). values.Sym n) number (range_with_len 0 (length symbols)) (in_range (length symbols) 0 number (omega arith) (omega (arith, ltb-true number (length symbols) is))))

-- ---- all bindings

all_lists : ℕ → List Value → List (List Value)
all_lists zero some = [] ∷ []
all_lists (suc count) some = flat_map (λ (value : Value). map (λ (row : List Value). value ∷ row) (all_lists count some)) some

list_there : (some : List Value) (row : List Value) → ((value : Value) → In value row → In value some) → In row (all_lists (length row) some)
unfolding all_lists
list_there some [] all = inl refl
list_there some (value ∷ row) all =
    In-flat_map (λ (first : Value). map (λ (rest : List Value). first ∷ rest) (all_lists (length row) some)) value (value ∷ row) some (all value (inl refl))
    (In-map (λ (rest : List Value). value ∷ rest) row (all_lists (length row) some) (list_there some row (λ other found. all other (inr found))))

binding_there : (low high : ℕ) (symbols : List Term) (count : ℕ) (binding : List Value) → ((number : ℤ) → is_held number ≡ true → In (values.Num number) (all_numbers low high)) → is_binding symbols count binding ≡ true
    → In binding (all_lists count (all_values low high symbols))
binding_there low high symbols count binding held is =
    let both = and_parts (length binding == count) (list_all (is_value symbols) binding) is in
    subst (λ (n : ℕ). In binding (all_lists n (all_values low high symbols))) (eqb-true (length binding) count both.0)
    (list_there (all_values low high symbols) binding (λ value found. value_there low high symbols value (In-list_all (is_value symbols) value binding both.1 found) held))

-- a list that has each binding
pub record HasBindings (symbols : List Term) (count : ℕ) : Type 0 where
  pub bindings : List (List Value)
  pub all : (binding : List Value) → is_binding symbols count binding ≡ true → In binding bindings

bindings_between : (low high : ℕ) (symbols : List Term) (count : ℕ) → ((number : ℤ) → is_held number ≡ true → In (values.Num number) (all_numbers low high)) → HasBindings symbols count
bindings_between low high symbols count held = record { bindings = all_lists count (all_values low high symbols); all = λ binding is. binding_there low high symbols count binding held is }

pub has_bindings : (symbols : List Term) (count : ℕ) → HasBindings symbols count
has_bindings symbols count = bindings_between 2147483647 2147483647 symbols count (number_there 2147483647 2147483647)
