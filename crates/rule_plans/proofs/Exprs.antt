-- What the value of an expression rests on, and of which kind it is.
use Rattle.std.proofs.Common.{◌≡◌, inl, ℕ, Bool, true, false, List, [], ◌∷◌, refl, sym, ap, ◌∙◌, subst}
use Rattle.std.specs.Prelude.{ℤ, ◌+ℤ◌, ◌-ℤ◌, ◌*ℤ◌, pos, neg_ℤ, int_div, int_rem, Ok, Err, Option, Some, None, if◌then◌else◌, IsTrue}
use Rattle.std.specs.Ordering.{int_eq}
use Rattle.tel_base.specs.Members.{In}
use Rattle.tel_base.proofs.Members.{In-append_left, In-append_right}
use Rattle.tel_term.specs.declared.arithmetic.EvalFault.TheVariants.{Undefined, Range}
use Rattle.tel_term.specs.declared.terms.Term.{Term}
use Rattle.tel_term.specs.declared.terms.Value.{Value}
use Rattle.tel_term.specs.declared.terms.Value.TheVariants as values
use Rattle.tel_term.specs.declared.exprs.SumOp.{SumOp}
use Rattle.tel_term.specs.declared.exprs.SumOp.TheVariants as sums
use Rattle.tel_term.specs.declared.exprs.ProductOp.{ProductOp}
use Rattle.tel_term.specs.declared.exprs.ProductOp.TheVariants as products
use Rattle.tel_term.specs.declared.exprs.Expr.{Expr}
use Rattle.tel_term.specs.Arithmetic.{Valued, variable_value, expr_value, layer_value, and_then, negated, held, is_held, summed, multiplied, applied, chained, valued}
use Rattle.rule_binding.specs.Binding.{vars_of, layer_vars, operand_vars, with_vars, whole_var, layer_whole}
use Rattle.rule_constants.proofs.ExprLayers.{Parts, bare, by_parts}
use Rattle.rule_constants.proofs.Kept.{fold-value, fold-var, fold-minus, fold-sum, fold-product}
use Rattle.live_instances.specs.Bindings.{is_value}
use Rattle.rule_plans.specs.Within.{values_in, layer_values}

-- ---- the value rests on the variables of the expression

abbrev pub Agree : List Value → List Value → List ℕ → Type 0
Agree a b vars = (v : ℕ) → In v vars → variable_value a v ≡ variable_value b v

module _ (a b : List Value) where
  abbrev Reads : Expr → Type 0
  Reads expr = Agree a b (vars_of expr) → expr_value a expr ≡ expr_value b expr

  each_reads : (Op : Type 0) (more : Parts Reads Op) → Agree a b (operand_vars (with_vars (bare Reads Op more))) → valued a (bare Reads Op more) ≡ valued b (bare Reads Op more)
  each_reads Op [] agree = refl
  each_reads Op (part ∷ more) agree =
      let here = part.1.1 (λ v there. agree v (In-append_left v (vars_of part.1.0) (operand_vars (with_vars (bare Reads Op more))) there)) in
      let later = each_reads Op more (λ v there. agree v (In-append_right v (vars_of part.1.0) (operand_vars (with_vars (bare Reads Op more))) there)) in
      ap (λ (x : Valued). (part.0, x) ∷ valued a (bare Reads Op more)) here ∙ ap (λ (xs : List (Op × Valued)). (part.0, expr_value b part.1.0) ∷ xs) later

  pub value_reads : (expr : Expr) → Agree a b (vars_of expr) → expr_value a expr ≡ expr_value b expr
  value_reads =
      by_parts Reads (record {
        value = λ value agree. fold-value Valued (layer_value a) value ∙ sym (fold-value Valued (layer_value b) value);
        var = λ v agree.
            fold-var Valued (layer_value a) v
            ∙ ap Ok (agree v (subst (λ (vars : List ℕ). In v vars) (sym (fold-var (List ℕ) layer_vars v)) (inl refl)))
            ∙ sym (fold-var Valued (layer_value b) v);
        minus = λ inner ih agree.
            fold-minus Valued (layer_value a) inner
            ∙ ap (λ (x : Valued). and_then x negated) (ih (λ v there. agree v (subst (λ (vars : List ℕ). In v vars) (sym (fold-minus (List ℕ) layer_vars inner)) there)))
            ∙ sym (fold-minus Valued (layer_value b) inner);
        sum = λ first more ih agree.
            let all = subst (λ (vars : List ℕ). Agree a b vars) (fold-sum (List ℕ) layer_vars first (bare Reads SumOp more)) agree in
            let here = ih (λ v there. all v (In-append_left v (vars_of first) (operand_vars (with_vars (bare Reads SumOp more))) there)) in
            let later = each_reads SumOp more (λ v there. all v (In-append_right v (vars_of first) (operand_vars (with_vars (bare Reads SumOp more))) there)) in
            fold-sum Valued (layer_value a) first (bare Reads SumOp more)
            ∙ ap (λ (x : Valued). chained summed x (valued a (bare Reads SumOp more))) here
            ∙ ap (λ (xs : List (SumOp × Valued)). chained summed (expr_value b first) xs) later
            ∙ sym (fold-sum Valued (layer_value b) first (bare Reads SumOp more));
        product = λ first more ih agree.
            let all = subst (λ (vars : List ℕ). Agree a b vars) (fold-product (List ℕ) layer_vars first (bare Reads ProductOp more)) agree in
            let here = ih (λ v there. all v (In-append_left v (vars_of first) (operand_vars (with_vars (bare Reads ProductOp more))) there)) in
            let later = each_reads ProductOp more (λ v there. all v (In-append_right v (vars_of first) (operand_vars (with_vars (bare Reads ProductOp more))) there)) in
            fold-product Valued (layer_value a) first (bare Reads ProductOp more)
            ∙ ap (λ (x : Valued). chained multiplied x (valued a (bare Reads ProductOp more))) here
            ∙ ap (λ (xs : List (ProductOp × Valued)). chained multiplied (expr_value b first) xs) later
            ∙ sym (fold-product Valued (layer_value b) first (bare Reads ProductOp more));
      })

-- ---- the value is a term of the program

module _ (symbols : List Term) where
  -- the value, if there is one, is a term of the program
  abbrev IsTermOf : Valued → Type 0
  IsTermOf x = (value : Value) → x ≡ Ok value → IsTrue (is_value symbols value)

  held_term : (n : ℤ) → IsTermOf (held n)
  held_term n = of (is_held n) refl
    where
      of : (t : Bool) → is_held n ≡ t → IsTermOf (if t then Ok (values.Num n) else Err Range)
      of true e value is = let same : values.Num n ≡ value = cc in subst (λ (v : Value). IsTrue (is_value symbols v)) same e
      of false e value is = absurd cc

  negated_term : (x : Valued) → IsTermOf (and_then x negated)
  negated_term (Ok (values.Num n)) value is = held_term (neg_ℤ n) value is
  negated_term (Ok (values.Sym s)) value is = absurd cc
  negated_term (Err fault) value is = absurd cc

  summed_term : (op : SumOp) (m n : ℤ) → IsTermOf (summed op m n)
  summed_term sums.Plus m n = held_term (m +ℤ n)
  summed_term sums.Minus m n = held_term (m -ℤ n)

  divided_term : (t : Bool) (n : ℤ) → IsTermOf (if t then Err Undefined else held n)
  divided_term true n value is = absurd cc
  divided_term false n value is = held_term n value is

  multiplied_term : (op : ProductOp) (m n : ℤ) → IsTermOf (multiplied op m n)
  multiplied_term products.Times m n = held_term (m *ℤ n)
  multiplied_term products.Divide m n = divided_term (int_eq n (pos 0)) (int_div m n)
  multiplied_term products.Remainder m n = divided_term (int_eq n (pos 0)) (int_rem m n)

  applied_term : (operation : ℤ → ℤ → Valued) → ((m n : ℤ) → IsTermOf (operation m n)) → (x y : Valued) → IsTermOf (applied operation x y)
  applied_term operation term (Ok (values.Num m)) (Ok (values.Num n)) value is = term m n value is
  applied_term operation term (Ok (values.Num m)) (Ok (values.Sym t)) value is = absurd cc
  applied_term operation term (Ok (values.Num m)) (Err fault) value is = absurd cc
  applied_term operation term (Ok (values.Sym s)) (Ok (values.Num n)) value is = absurd cc
  applied_term operation term (Ok (values.Sym s)) (Ok (values.Sym t)) value is = absurd cc
  applied_term operation term (Ok (values.Sym s)) (Err fault) value is = absurd cc
  applied_term operation term (Err fault) y value is = absurd cc

  chained_term : {Op : Type 0} (operation : Op → ℤ → ℤ → Valued) → ((op : Op) (m n : ℤ) → IsTermOf (operation op m n)) → (x : Valued) (more : List (Op × Valued)) → IsTermOf x → IsTermOf (chained operation x more)
  chained_term operation term x [] ok = ok
  chained_term operation term x (next ∷ more) ok =
      chained_term operation term (applied (operation next.0) x next.1) more (applied_term (operation next.0) (term next.0) x next.1)

  abbrev AreTerms : List Value → Type 0
  AreTerms xs = (value : Value) → In value xs → IsTrue (is_value symbols value)

  module _ (b : List Value) where
    abbrev HasTerms : List ℕ → Type 0
    HasTerms vars = (v : ℕ) → In v vars → IsTrue (is_value symbols (variable_value b v))

    abbrev Term_from : Expr → Type 0
    Term_from expr = AreTerms (values_in expr) → HasTerms (vars_of expr) → IsTermOf (expr_value b expr)

    pub value_term : (expr : Expr) → AreTerms (values_in expr) → HasTerms (vars_of expr) → IsTermOf (expr_value b expr)
    value_term =
        by_parts Term_from (record {
          value = λ value terms vars x is.
              let same : Ok value ≡ Ok x = sym (fold-value Valued (layer_value b) value) ∙ is in
              let at : value ≡ x = cc in
              subst (λ (v : Value). IsTrue (is_value symbols v)) at (terms value (subst (λ (xs : List Value). In value xs) (sym (fold-value (List Value) layer_values value)) (inl refl)));
          var = λ v terms vars x is.
              let same : Ok (variable_value b v) ≡ Ok x = sym (fold-var Valued (layer_value b) v) ∙ is in
              let at : variable_value b v ≡ x = cc in
              subst (λ (w : Value). IsTrue (is_value symbols w)) at (vars v (subst (λ (ws : List ℕ). In v ws) (sym (fold-var (List ℕ) layer_vars v)) (inl refl)));
          minus = λ inner ih terms vars x is. negated_term (expr_value b inner) x (sym (fold-minus Valued (layer_value b) inner) ∙ is);
          sum = λ first more ih terms vars x is.
              let own = ih
              (λ value there. terms value (subst (λ (xs : List Value). In value xs) (sym (fold-sum (List Value) layer_values first (bare Term_from SumOp more))) (In-append_left value (values_in first) _ there)))
              (λ v there. vars v (subst (λ (ws : List ℕ). In v ws) (sym (fold-sum (List ℕ) layer_vars first (bare Term_from SumOp more))) (In-append_left v (vars_of first) _ there))) in
              chained_term summed summed_term (expr_value b first) (valued b (bare Term_from SumOp more)) own x (sym (fold-sum Valued (layer_value b) first (bare Term_from SumOp more)) ∙ is);
          product = λ first more ih terms vars x is.
              let own = ih
              (λ value there. terms value (subst (λ (xs : List Value). In value xs) (sym (fold-product (List Value) layer_values first (bare Term_from ProductOp more))) (In-append_left value (values_in first) _ there)))
              (λ v there. vars v (subst (λ (ws : List ℕ). In v ws) (sym (fold-product (List ℕ) layer_vars first (bare Term_from ProductOp more))) (In-append_left v (vars_of first) _ there))) in
              chained_term multiplied multiplied_term (expr_value b first) (valued b (bare Term_from ProductOp more)) own x (sym (fold-product Valued (layer_value b) first (bare Term_from ProductOp more)) ∙ is);
        })

-- ---- an expression that is a variable as a whole

abbrev IsVar : Expr → Type 0
IsVar expr = (v : ℕ) → whole_var expr ≡ Some v → (vars_of expr ≡ v ∷ []) × ((b : List Value) → expr_value b expr ≡ Ok (variable_value b v))

no_var : {P : Type 0} (v : ℕ) → None ≡ Some v → P
no_var v e = absurd cc

pub whole_is : (expr : Expr) → IsVar expr
whole_is =
    by_parts IsVar (record {
      value = λ value v is. no_var v (sym (fold-value (Option ℕ) layer_whole value) ∙ is);
      var = λ w v is.
          let same : Some w ≡ Some v = sym (fold-var (Option ℕ) layer_whole w) ∙ is in
          let at : w ≡ v = cc in
          (fold-var (List ℕ) layer_vars w ∙ ap (λ (u : ℕ). u ∷ []) at, λ b. fold-var Valued (layer_value b) w ∙ ap (λ (u : ℕ). Ok (variable_value b u)) at);
      minus = λ inner ih v is. no_var v (sym (fold-minus (Option ℕ) layer_whole inner) ∙ is);
      sum = λ first more ih v is. no_var v (sym (fold-sum (Option ℕ) layer_whole first (bare IsVar SumOp more)) ∙ is);
      product = λ first more ih v is. no_var v (sym (fold-product (Option ℕ) layer_whole first (bare IsVar ProductOp more)) ∙ is);
    })
