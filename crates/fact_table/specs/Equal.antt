-- Rows that are equal, and what a hash takes of them.
use Rattle.std.specs.Prelude.{◌≡◌, ℕ, true, List, [], ◌∷◌, IsTrue, refl}
use Rattle.std.proofs.Common.{sym, ap, ◌∙◌, subst, true≢false, inl, inr}
use Rattle.std.specs.Hash as fed
use Rattle.std.specs.Cmp.{IsEquivalence, signed_Decides}
use Rattle.std.proofs.lemmas.Bool.{and_parts, and_from, cases_Bool, false_from_ne_true, eqb-true, eq-eqb}
use Rattle.tel_term.specs.declared.terms.Value.{Value}
use Rattle.tel_term.specs.declared.terms.Value.TheVariants as values
use Rattle.tel_term.specs.contracts.terms.ValueHash.TheImpl.{hash_input-value}
use Rattle.tel_rule.specs.Atoms.{value_eq, values_eq}

pub value_one : (x y : Value) → value_eq x y ≡ true → x ≡ y
value_one (values.Num m) (values.Num n) same = ap values.Num ((signed_Decides m n).0 same)
value_one (values.Num m) (values.Sym b) same = absurd (true≢false (sym same))
value_one (values.Sym a) (values.Num n) same = absurd (true≢false (sym same))
value_one (values.Sym a) (values.Sym b) same = ap values.Sym (eqb-true a b same)

pub value_itself : (x : Value) → value_eq x x ≡ true
value_itself (values.Num n) = (signed_Decides n n).1 refl
value_itself (values.Sym a) = eq-eqb a a refl

pub values_one : (xs ys : List Value) → values_eq xs ys ≡ true → xs ≡ ys
values_one [] [] same = refl
values_one [] (y ∷ ys) same = absurd (true≢false (sym same))
values_one (x ∷ xs) [] same = absurd (true≢false (sym same))
values_one (x ∷ xs) (y ∷ ys) same =
    let both = and_parts (value_eq x y) (values_eq xs ys) same in
    let first = value_one x y both.0 in
    let rest = values_one xs ys both.1 in
    λ i. first i ∷ rest i

pub values_itself : (xs : List Value) → values_eq xs xs ≡ true
values_itself [] = refl
values_itself (x ∷ xs) = and_from (value_eq x x) (values_eq xs xs) (value_itself x) (values_itself xs)

values_symm : (xs ys : List Value) → values_eq xs ys ≡ values_eq ys xs
values_symm xs ys = elim (cases_Bool (values_eq xs ys)) [
  | inl is ↦ is ∙ sym (subst (λ (zs : List Value). values_eq zs xs ≡ true) (values_one xs ys is) (values_itself xs))
  | inr isnt ↦
      isnt ∙ sym (false_from_ne_true (values_eq ys xs) (λ back. true≢false (sym (subst (λ (zs : List Value). values_eq zs ys ≡ true) (values_one ys xs back) (values_itself ys)) ∙ isnt)))
]

-- equality of rows is an equivalence
pub values_equiv : IsEquivalence values_eq
values_equiv = record {
  refl = values_itself;
  symm = values_symm;
  congr = λ xs ys zs same. ap (λ (ws : List Value). values_eq ws zs) (values_one xs ys same);
}

-- what a hash takes of a row: how many values it has, and each of them
abbrev pub fed_values : List Value → List (List ℕ)
fed_values row = fed.slice hash_input-value.it row

pub fed_alike : (x y : List Value) → IsTrue (values_eq x y) → fed_values x ≡ fed_values y
fed_alike x y same = ap fed_values (values_one x y same)
