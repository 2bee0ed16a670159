use Rattle.std.proofs.Common.{◌≡◌, ◌∙◌, ◌&&◌, List, [], ◌∷◌, refl}
use Rattle.std.specs.Cmp.Lexicographic.{pointwise}
use Rattle.tel_term.specs.declared.terms.Value.{Value}
use Rattle.tel_term.specs.declared.terms.Value.TheVariants as values
use Rattle.tel_term.specs.contracts.terms.ValuePartialEq.TheImpl.{eq-value}
use Rattle.tel_rule.specs.Atoms.{value_eq, values_eq}
use Rattle.fact_table.proofs.rows.RowPartialEq.eq.Goals as goal

value_same : (v w : Value) → eq-value.it v w ≡ value_eq v w
value_same (values.Num m) (values.Num n) = refl
value_same (values.Num m) (values.Sym t) = refl
value_same (values.Sym s) (values.Num n) = refl
value_same (values.Sym s) (values.Sym t) = refl

values_same : (xs ys : List Value) → pointwise eq-value.it xs ys ≡ values_eq xs ys
values_same [] [] = refl
values_same [] (y ∷ ys) = refl
values_same (x ∷ xs) [] = refl
values_same (x ∷ xs) (y ∷ ys) = let first = value_same x y in let rest = values_same xs ys in λ i. first i && rest i

pub returns : goal.returns
returns c = c.eq.ensures ∙ (λ i. pointwise eq-value.it (c.as_slice.ensures i) (c.as_slice-2.ensures i)) ∙ values_same c.args.self.now c.args.other.now
