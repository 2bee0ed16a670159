-- A key more among named predicates.
use Rattle.std.proofs.Common.{◌≡◌, Bool, true, false, ◌||◌, List, [], ◌∷◌, ◌++◌, refl, sym, ap, ◌∙◌, inl, inr}
use Rattle.std.specs.Prelude.{if◌then◌else◌}
use Rattle.std.specs.List.{list_any}
use Rattle.std.proofs.lemmas.Bool.{cases_Bool}
use Rattle.indexmap.specs.IndexSet.{IndexSet, insert_key}
use Rattle.tel_rule.specs.declared.statements.Signature.{Signature}
use Rattle.tel_semantics.specs.Tables.{same_predicate}
use Rattle.fact_rows.proofs.Heads.{one_predicate}
use Rattle.fact_instantiate.specs.declared.showing.Key.{Key}
use Rattle.fact_instantiate.specs.contracts.showing.KeyPartialEq.TheImpl.{eq-value}
use Rattle.fact_instantiate.specs.Named.{key_predicate, has_key}

or_none : (a : Bool) → (a || false) ≡ a
or_none true = refl
or_none false = refl

or_turn : (a b c : Bool) → (a || (b || c)) ≡ ((a || b) || c)
or_turn true b c = refl
or_turn false b c = refl

one_more : {X : Type 0} (test : X → Bool) (xs : List X) (x : X) → list_any test (xs ++ x ∷ []) ≡ (list_any test xs || test x)
one_more test [] x = or_none (test x)
one_more test (y ∷ ys) x = ap (λ (b : Bool). test y || b) (one_more test ys x) ∙ or_turn (test y) (list_any test ys) (test x)

-- whether a key is of a predicate
abbrev is_of : Signature → Key → Bool
is_of predicate key = same_predicate predicate (key_predicate key)

-- what `==` answers of keys
derived : (a b : Key) → eq-value.it a b ≡ is_of (key_predicate a) b
derived a b = by a.negative b.negative
  where
    by : (x y : Bool) → eq-value.it (record { negative = x; name = a.name; arity = a.arity }) (record { negative = y; name = b.name; arity = b.arity }) ≡ is_of (record { negative = x; name = a.name.now; arity = a.arity }) (record { negative = y; name = b.name; arity = b.arity })
    by true true = refl
    by true false = refl
    by false true = refl
    by false false = refl

module _ (keys : List Key) (key : Key) (predicate : Signature) where
  with_key : (b : Bool) → list_any (eq-value.it key) keys ≡ b → list_any (is_of predicate) (if b then keys else keys ++ key ∷ []) ≡ (list_any (is_of predicate) keys || is_of predicate key)
  with_key true is = elim (cases_Bool (is_of predicate key)) [
    | inl same ↦
        let there : list_any (is_of predicate) keys ≡ true =
        ap (λ (p : Signature). list_any (is_of p) keys) (one_predicate predicate (key_predicate key) same)
        ∙ ap (λ (test : Key → Bool). list_any test keys) (λ i other. sym (derived key other) i)
        ∙ is in
        there ∙ sym (ap (λ (b : Bool). b || is_of predicate key) there)
    | inr other ↦ sym (ap (λ (b : Bool). list_any (is_of predicate) keys || b) other ∙ or_none (list_any (is_of predicate) keys))
  ]
  with_key false is = one_more (is_of predicate) keys key

-- which predicates there are after one was added
pub key_added : {S : Type 0} (old new : IndexSet Key S) (key : Key) (predicate : Signature)
    → new.keys ≡ insert_key eq-value.it old.keys key → has_key new predicate ≡ (has_key old predicate || same_predicate predicate (key_predicate key))
key_added old new key predicate keys =
    ap (list_any (is_of predicate)) keys ∙ with_key old.keys key predicate (list_any (eq-value.it key) old.keys) refl
