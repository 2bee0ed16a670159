-- Values that are terms of the program.
use Rattle.std.proofs.Common.{◌≡◌, ℕ, zero, suc, Bool, true, List, [], ◌∷◌, map, refl, inl, inr}
use Rattle.std.specs.Prelude.{Ok, Option, Some, None, slice_get, slice_set, IsTrue}
use Rattle.std.specs.List.{list_all}
use Rattle.std.proofs.lemmas.Bool.{and_parts, and_from}
use Rattle.tel_base.specs.Members.{In}
use Rattle.tel_base.proofs.Members.{In-list_all}
use Rattle.tel_term.specs.declared.terms.Term.{Term}
use Rattle.tel_term.specs.declared.terms.Value.{Value}
use Rattle.tel_term.specs.declared.terms.Value.TheVariants as values
use Rattle.tel_term.specs.declared.exprs.Expr.{Expr}
use Rattle.tel_term.specs.Arithmetic.{variable_value, expr_value}
use Rattle.tel_term.specs.Order.{value_in_range}
use Rattle.live_instances.specs.Bindings.{is_value}
use Rattle.rule_plans.specs.Within.{values_in}
use Rattle.rule_plans.proofs.Exprs.{value_term}
use Rattle.plan_search.specs.Steps.{AreTerms}
use Rattle.plan_search.specs.Trying.{tries}
use Rattle.plan_search.proofs.Dropping.{In-get}

-- the value at each place, also past the end
pub place_term : (symbols : List Term) (env : List Value) → AreTerms symbols env → (v : ℕ) → is_value symbols (variable_value env v) ≡ true
place_term symbols [] all v = refl
place_term symbols (x ∷ env) all zero = (and_parts (is_value symbols x) (list_all (is_value symbols) env) all).0
place_term symbols (x ∷ env) all (suc v) = place_term symbols env (and_parts (is_value symbols x) (list_all (is_value symbols) env) all).1 v

-- the value of an expression
pub expr_term : (symbols : List Term) (env : List Value) (expr : Expr) (value : Value) → AreTerms symbols env → AreTerms symbols (values_in expr) → expr_value env expr ≡ Ok value → is_value symbols value ≡ true
expr_term symbols env expr value all own is =
    value_term symbols env expr (λ x there. In-list_all (is_value symbols) x (values_in expr) own there) (λ v reads. place_term symbols env all v) value is

in_range : (symbols : List Term) (value : Value) → is_value symbols value ≡ true → value_in_range symbols value ≡ true
in_range symbols (values.Num number) is = refl
in_range symbols (values.Sym number) is = is

pub known_value : (symbols : List Term) (env : List Value) (expr : Expr) (value : Value) → AreTerms symbols env → AreTerms symbols (values_in expr) → expr_value env expr ≡ Ok value → IsTrue (value_in_range symbols value)
known_value symbols env expr value all own is = in_range symbols value (expr_term symbols env expr value all own is)

-- ---- values that pass a test

pub all_set : (test : Value → Bool) (xs : List Value) (v : ℕ) (x : Value) → test x ≡ true → list_all test xs ≡ true → list_all test (slice_set xs v x) ≡ true
all_set test [] v x one all = refl
all_set test (y ∷ xs) zero x one all = and_from (test x) (list_all test xs) one (and_parts (test y) (list_all test xs) all).1
all_set test (y ∷ xs) (suc v) x one all =
    let both = and_parts (test y) (list_all test xs) all in
    and_from (test y) (list_all test (slice_set xs v x)) both.0 (all_set test xs v x one both.1)

some_in : (rows : List (List Value)) (turn : ℕ) (row : List Value) → slice_get (map (λ (r : List Value). Some r) rows) turn ≡ Some (Some row) → In row rows
some_in [] turn row e = absurd (cc)
some_in (r ∷ rows) zero row e = let same : Some r ≡ Some row = cc in let one : r ≡ row = cc in inl one
some_in (r ∷ rows) (suc turn) row e = inr (some_in rows turn row e)

place_in : (rows : List (List Value)) (places : List ℕ) (turn : ℕ) (row : List Value) → slice_get (map (slice_get rows) places) turn ≡ Some (Some row) → In row rows
place_in rows [] turn row e = absurd (cc)
place_in rows (p ∷ places) zero row e = let same : slice_get rows p ≡ Some row = cc in In-get rows p row same
place_in rows (p ∷ places) (suc turn) row e = place_in rows places turn row e

-- a row that is tried is one of the rows
pub tried_in : (rows : List (List Value)) (listed : Option (List ℕ)) (turn : ℕ) (row : List Value) → slice_get (tries rows listed) turn ≡ Some (Some row) → In row rows
tried_in rows None turn row e = some_in rows turn row e
tried_in rows (Some places) turn row e = place_in rows places turn row e
