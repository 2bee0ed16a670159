-- What stays when values in expressions are replaced; and that what stands in place of a constant names no constant.
use Rattle.std.proofs.Common.{◌≡◌, ℕ, Bool, true, false, List, [], ◌∷◌, ◌++◌, map, Option, Some, None, refl, sym, ap, subst, ◌∙◌, inl}
use Rattle.std.specs.Prelude.{ℤ, ◌+ℤ◌, ◌-ℤ◌, ◌*ℤ◌, pos, neg_ℤ, int_div, int_rem, Ok, Err, if◌then◌else◌}
use Rattle.std.specs.Ordering.{int_eq}
use Rattle.tel_base.specs.Members.{In}
use Rattle.tel_base.proofs.Members.{In-append_left}
use Rattle.tel_term.specs.declared.arithmetic.EvalFault.TheVariants.{Undefined, Range}
use Rattle.tel_term.specs.declared.terms.Value.{Value}
use Rattle.tel_term.specs.declared.terms.Value.TheVariants as values
use Rattle.tel_term.specs.declared.exprs.SumOp.{SumOp}
use Rattle.tel_term.specs.declared.exprs.SumOp.TheVariants as sums
use Rattle.tel_term.specs.declared.exprs.ProductOp.{ProductOp}
use Rattle.tel_term.specs.declared.exprs.ProductOp.TheVariants as products
use Rattle.tel_term.specs.declared.exprs.Expr.{Expr}
use Rattle.tel_term.specs.declared.exprs.Expr.TheVariants as exprs
use Rattle.tel_term.specs.declared.exprs.Expr.TheVariants.{rolls-Value, rolls-Var, rolls-Minus, rolls-Sum, rolls-Product}
use Rattle.tel_term.specs.declared.exprs.Expr.TheOpen.{Expr-F}
use Rattle.tel_term.specs.declared.exprs.Expr.TheOpen as layers
use Rattle.tel_term.specs.declared.exprs.Expr.TheFolds.{fold-Expr, fold-roll-Expr}
use Rattle.tel_term.specs.Arithmetic.{Valued, expr_value, layer_value, and_then, negated, held, is_held, summed, multiplied, applied, chained, valued}
use Rattle.rule_constants.specs.Constants.{linked, option_list, needs_of, layer_needs, operand_lists, has_variable, layer_has_variable, expr_replaced, Values, value_or, value_at, replacement}
use Rattle.rule_constants.specs.Operands.{each_needs, each_replaced}
use Rattle.rule_constants.proofs.ExprLayers.{needs-value, needs-minus, needs-sum, needs-product, replaced-value, replaced-var, replaced-minus, replaced-sum, replaced-product, value-replaced_minus, value-replaced_value, Parts, bare, by_parts}

-- ---- what doesn't look at values stays

module _ (X : Type 0) (layer : Expr-F X → X) where
  abbrev of_operands : (Op : Type 0) → List (Op × Expr) → List (Op × X)
  of_operands Op operands = map (λ (operand : Op × Expr). (operand.0, fold-Expr X layer operand.1)) operands

  pub fold-value : (value : Value) → fold-Expr X layer (exprs.Value value) ≡ layer (layers.Value value)
  fold-value value = ap (fold-Expr X layer) (sym (rolls-Value value)) ∙ fold-roll-Expr X layer (layers.Value value)

  pub fold-var : (variable : ℕ) → fold-Expr X layer (exprs.Var variable) ≡ layer (layers.Var variable)
  fold-var variable = ap (fold-Expr X layer) (sym (rolls-Var variable)) ∙ fold-roll-Expr X layer (layers.Var variable)

  pub fold-minus : (inner : Expr) → fold-Expr X layer (exprs.Minus inner) ≡ layer (layers.Minus (fold-Expr X layer inner))
  fold-minus inner = ap (fold-Expr X layer) (sym (rolls-Minus inner)) ∙ fold-roll-Expr X layer (layers.Minus inner)

  pub fold-sum : (first : Expr) (more : List (SumOp × Expr)) → fold-Expr X layer (exprs.Sum first more) ≡ layer (layers.Sum (fold-Expr X layer first) (of_operands SumOp more))
  fold-sum first more = ap (fold-Expr X layer) (sym (rolls-Sum first more)) ∙ fold-roll-Expr X layer (layers.Sum first more)

  pub fold-product : (first : Expr) (more : List (ProductOp × Expr)) → fold-Expr X layer (exprs.Product first more) ≡ layer (layers.Product (fold-Expr X layer first) (of_operands ProductOp more))
  fold-product first more = ap (fold-Expr X layer) (sym (rolls-Product first more)) ∙ fold-roll-Expr X layer (layers.Product first more)

  module _ (new : Value → Value) where
    abbrev Stays : Expr → Type 0
    Stays expr = fold-Expr X layer (expr_replaced new expr) ≡ fold-Expr X layer expr

    each-stays : (Op : Type 0) (more : Parts Stays Op) → of_operands Op (each_replaced new (bare Stays Op more)) ≡ of_operands Op (bare Stays Op more)
    each-stays Op [] = refl
    each-stays Op (part ∷ more) =
        ap (λ (x : X). (part.0, x) ∷ of_operands Op (each_replaced new (bare Stays Op more))) part.1.1
        ∙ ap (λ (xs : List (Op × X)). (part.0, fold-Expr X layer part.1.0) ∷ xs) (each-stays Op more)

    pub fold-kept : ((value : Value) → layer (layers.Value (new value)) ≡ layer (layers.Value value)) → (expr : Expr) → fold-Expr X layer (expr_replaced new expr) ≡ fold-Expr X layer expr
    fold-kept same =
        by_parts Stays (record {
          value = λ value. ap (fold-Expr X layer) (replaced-value new value) ∙ fold-value (new value) ∙ same value ∙ sym (fold-value value);
          var = λ variable. ap (fold-Expr X layer) (replaced-var new variable);
          minus = λ inner ih.
              ap (fold-Expr X layer) (replaced-minus new inner) ∙ fold-minus (expr_replaced new inner)
              ∙ ap (λ (x : X). layer (layers.Minus x)) ih ∙ sym (fold-minus inner);
          sum = λ first more ih.
              ap (fold-Expr X layer) (replaced-sum new first (bare Stays SumOp more)) ∙ fold-sum (expr_replaced new first) (each_replaced new (bare Stays SumOp more))
              ∙ ap (λ (x : X). layer (layers.Sum x (of_operands SumOp (each_replaced new (bare Stays SumOp more))))) ih
              ∙ ap (λ (xs : List (SumOp × X)). layer (layers.Sum (fold-Expr X layer first) xs)) (each-stays SumOp more)
              ∙ sym (fold-sum first (bare Stays SumOp more));
          product = λ first more ih.
              ap (fold-Expr X layer) (replaced-product new first (bare Stays ProductOp more)) ∙ fold-product (expr_replaced new first) (each_replaced new (bare Stays ProductOp more))
              ∙ ap (λ (x : X). layer (layers.Product x (of_operands ProductOp (each_replaced new (bare Stays ProductOp more))))) ih
              ∙ ap (λ (xs : List (ProductOp × X)). layer (layers.Product (fold-Expr X layer first) xs)) (each-stays ProductOp more)
              ∙ sym (fold-product first (bare Stays ProductOp more));
        })

-- a replaced expression has a variable where it had one
pub variable-kept : (new : Value → Value) (expr : Expr) → has_variable (expr_replaced new expr) ≡ has_variable expr
variable-kept new expr = fold-kept Bool layer_has_variable new (λ value. refl) expr

-- ---- an expression whose values name no constant

module _ (links : List (Option ℕ)) (new : Value → Value) where
  abbrev NamesNone : Expr → Type 0
  NamesNone expr = needs_of links (expr_replaced new expr) ≡ []

  each-names_none : (Op : Type 0) (more : Parts NamesNone Op) → operand_lists (each_needs links (each_replaced new (bare NamesNone Op more))) ≡ []
  each-names_none Op [] = refl
  each-names_none Op (part ∷ more) =
      ap (λ (xs : List ℕ). xs ++ operand_lists (each_needs links (each_replaced new (bare NamesNone Op more)))) part.1.1
      ∙ each-names_none Op more

  pub names_none : ((value : Value) → linked links (new value) ≡ None) → (expr : Expr) → needs_of links (expr_replaced new expr) ≡ []
  names_none none =
      by_parts NamesNone (record {
        value = λ value. ap (needs_of links) (replaced-value new value) ∙ needs-value links (new value) ∙ ap option_list (none value);
        var = λ variable. ap (needs_of links) (replaced-var new variable) ∙ needs-var variable;
        minus = λ inner ih. ap (needs_of links) (replaced-minus new inner) ∙ needs-minus links (expr_replaced new inner) ∙ ih;
        sum = λ first more ih.
            ap (needs_of links) (replaced-sum new first (bare NamesNone SumOp more)) ∙ needs-sum links (expr_replaced new first) (each_replaced new (bare NamesNone SumOp more))
            ∙ ap (λ (xs : List ℕ). xs ++ operand_lists (each_needs links (each_replaced new (bare NamesNone SumOp more)))) ih
            ∙ each-names_none SumOp more;
        product = λ first more ih.
            ap (needs_of links) (replaced-product new first (bare NamesNone ProductOp more)) ∙ needs-product links (expr_replaced new first) (each_replaced new (bare NamesNone ProductOp more))
            ∙ ap (λ (xs : List ℕ). xs ++ operand_lists (each_needs links (each_replaced new (bare NamesNone ProductOp more)))) ih
            ∙ each-names_none ProductOp more;
      })
    where
      needs-var : (variable : ℕ) → needs_of links (exprs.Var variable) ≡ []
      needs-var variable = fold-var (List ℕ) (layer_needs links) variable

-- an expression whose values stay stays
module _ (new : Value → Value) where
  abbrev IsSame : Expr → Type 0
  IsSame expr = expr_replaced new expr ≡ expr

  each-same : (Op : Type 0) (more : Parts IsSame Op) → each_replaced new (bare IsSame Op more) ≡ bare IsSame Op more
  each-same Op [] = refl
  each-same Op (part ∷ more) =
      ap (λ (x : Expr). (part.0, x) ∷ each_replaced new (bare IsSame Op more)) part.1.1
      ∙ ap (λ (xs : List (Op × Expr)). (part.0, part.1.0) ∷ xs) (each-same Op more)

  pub replaced-same : ((value : Value) → new value ≡ value) → (expr : Expr) → expr_replaced new expr ≡ expr
  replaced-same same =
      by_parts IsSame (record {
        value = λ value. replaced-value new value ∙ ap (λ (v : Value). exprs.Value v) (same value);
        var = λ variable. replaced-var new variable;
        minus = λ inner ih. replaced-minus new inner ∙ ap (λ (e : Expr). exprs.Minus e) ih;
        sum = λ first more ih.
            replaced-sum new first (bare IsSame SumOp more)
            ∙ ap (λ (e : Expr). exprs.Sum e (each_replaced new (bare IsSame SumOp more))) ih
            ∙ ap (λ (es : List (SumOp × Expr)). exprs.Sum first es) (each-same SumOp more);
        product = λ first more ih.
            replaced-product new first (bare IsSame ProductOp more)
            ∙ ap (λ (e : Expr). exprs.Product e (each_replaced new (bare IsSame ProductOp more))) ih
            ∙ ap (λ (es : List (ProductOp × Expr)). exprs.Product first es) (each-same ProductOp more);
      })

-- ---- the value of an expression whose constants have values that name no constant

module _ (links : List (Option ℕ)) where
  -- its value, if any, names no constant
  abbrev Ends : Valued → Type 0
  Ends x = (v : Value) → x ≡ Ok v → linked links v ≡ None

  number-ends : (n : ℤ) → Ends (Ok (values.Num n))
  number-ends n v is = let e : values.Num n ≡ v = cc in subst (λ (w : Value). linked links w ≡ None) e refl

  held-ends : (n : ℤ) → Ends (held n)
  held-ends n = of (is_held n)
    where
      of : (b : Bool) → Ends (if b then Ok (values.Num n) else Err Range)
      of true v is = number-ends n v is
      of false v is = absurd cc

  negated-ends : (x : Valued) → Ends (and_then x negated)
  negated-ends (Ok (values.Num n)) v is = held-ends (neg_ℤ n) v is
  negated-ends (Ok (values.Sym s)) v is = absurd cc
  negated-ends (Err fault) v is = absurd cc

  summed-ends : (op : SumOp) (m n : ℤ) → Ends (summed op m n)
  summed-ends sums.Plus m n = held-ends (m +ℤ n)
  summed-ends sums.Minus m n = held-ends (m -ℤ n)

  divided-ends : (b : Bool) (n : ℤ) → Ends (if b then Err Undefined else held n)
  divided-ends true n v is = absurd cc
  divided-ends false n v is = held-ends n v is

  multiplied-ends : (op : ProductOp) (m n : ℤ) → Ends (multiplied op m n)
  multiplied-ends products.Times m n = held-ends (m *ℤ n)
  multiplied-ends products.Divide m n = divided-ends (int_eq n (pos 0)) (int_div m n)
  multiplied-ends products.Remainder m n = divided-ends (int_eq n (pos 0)) (int_rem m n)

  applied-ends : (operation : ℤ → ℤ → Valued) → ((m n : ℤ) → Ends (operation m n)) → (x y : Valued) → Ends (applied operation x y)
  applied-ends operation ends (Ok (values.Num m)) (Ok (values.Num n)) v is = ends m n v is
  applied-ends operation ends (Ok (values.Num m)) (Ok (values.Sym t)) v is = absurd cc
  applied-ends operation ends (Ok (values.Num m)) (Err fault) v is = absurd cc
  applied-ends operation ends (Ok (values.Sym s)) (Ok (values.Num n)) v is = absurd cc
  applied-ends operation ends (Ok (values.Sym s)) (Ok (values.Sym t)) v is = absurd cc
  applied-ends operation ends (Ok (values.Sym s)) (Err fault) v is = absurd cc
  applied-ends operation ends (Err fault) y v is = absurd cc

  chained-ends : {Op : Type 0} (operation : Op → ℤ → ℤ → Valued) → ((op : Op) (m n : ℤ) → Ends (operation op m n)) → (x : Valued) (more : List (Op × Valued)) → Ends x → Ends (chained operation x more)
  chained-ends operation ends x [] ok = ok
  chained-ends operation ends x (next ∷ more) ok =
      chained-ends operation ends (applied (operation next.0) x next.1) more (applied-ends (operation next.0) (ends next.0) x next.1)

  module _ (K : Values) where
    -- each of these has a value that names no constant
    abbrev AreEnded : List ℕ → Type 0
    AreEnded needs = (n : ℕ) → In n needs → (w : Value) × (K n ≡ Some w) × (linked links w ≡ None)

    pub replacement-ends : (u : Value) → AreEnded (option_list (linked links u)) → linked links (replacement links K u) ≡ None
    replacement-ends u ended = of (linked links u) refl ended
      where
        of : (o : Option ℕ) → linked links u ≡ o → AreEnded (option_list o) → linked links (value_or u (value_at K o)) ≡ None
        of None e h = e
        of (Some n) e h = let g = h n (inl refl) in ap (λ (x : Option Value). linked links (value_or u x)) g.1 ∙ g.2

    abbrev IsEnded : Expr → Type 0
    IsEnded expr = AreEnded (needs_of links expr) → Ends (expr_value [] (expr_replaced (replacement links K) expr))

    from-ends : (x y : Valued) → x ≡ y → Ends y → Ends x
    from-ends x y e ends v is = ends v (sym e ∙ is)

    pub value-ends : (expr : Expr) → AreEnded (needs_of links expr) → (v : Value) → expr_value [] (expr_replaced (replacement links K) expr) ≡ Ok v → linked links v ≡ None
    value-ends =
        by_parts IsEnded (record {
          value = λ value h v is.
              let e : Ok (replacement links K value) ≡ Ok v = sym (value-replaced_value [] (replacement links K) value) ∙ is in
              let same : replacement links K value ≡ v = cc in
              subst (λ (w : Value). linked links w ≡ None) same (replacement-ends value (subst AreEnded (needs-value links value) h));
          var = λ variable h.
              from-ends (expr_value [] (expr_replaced (replacement links K) (exprs.Var variable))) (Ok (values.Num (pos 0)))
              (ap (expr_value []) (replaced-var (replacement links K) variable) ∙ fold-var Valued (layer_value []) variable) (number-ends (pos 0));
          minus = λ inner ih h.
              from-ends (expr_value [] (expr_replaced (replacement links K) (exprs.Minus inner))) (and_then (expr_value [] (expr_replaced (replacement links K) inner)) negated)
              (value-replaced_minus [] (replacement links K) inner) (negated-ends (expr_value [] (expr_replaced (replacement links K) inner)));
          sum = λ first more ih h. sum-ends first (bare IsEnded SumOp more) ih (subst AreEnded (needs-sum links first (bare IsEnded SumOp more)) h);
          product = λ first more ih h. product-ends first (bare IsEnded ProductOp more) ih (subst AreEnded (needs-product links first (bare IsEnded ProductOp more)) h);
        })
      where
        left : (xs ys : List ℕ) → AreEnded (xs ++ ys) → AreEnded xs
        left xs ys h n i = h n (In-append_left n xs ys i)

        sum-ends : (first : Expr) (more : List (SumOp × Expr)) → IsEnded first → AreEnded (needs_of links first ++ operand_lists (each_needs links more)) → Ends (expr_value [] (expr_replaced (replacement links K) (exprs.Sum first more)))
        sum-ends first more ih h =
            let new = replacement links K in
            let x = expr_value [] (expr_replaced new first) in
            let ys = valued [] (each_replaced new more) in
            from-ends (expr_value [] (expr_replaced new (exprs.Sum first more))) (chained summed x ys)
            (ap (expr_value []) (replaced-sum new first more) ∙ fold-sum Valued (layer_value []) (expr_replaced new first) (each_replaced new more))
            (chained-ends summed summed-ends x ys (ih (left (needs_of links first) (operand_lists (each_needs links more)) h)))

        product-ends : (first : Expr) (more : List (ProductOp × Expr)) → IsEnded first → AreEnded (needs_of links first ++ operand_lists (each_needs links more)) → Ends (expr_value [] (expr_replaced (replacement links K) (exprs.Product first more)))
        product-ends first more ih h =
            let new = replacement links K in
            let x = expr_value [] (expr_replaced new first) in
            let ys = valued [] (each_replaced new more) in
            from-ends (expr_value [] (expr_replaced new (exprs.Product first more))) (chained multiplied x ys)
            (ap (expr_value []) (replaced-product new first more) ∙ fold-product Valued (layer_value []) (expr_replaced new first) (each_replaced new more))
            (chained-ends multiplied multiplied-ends x ys (ih (left (needs_of links first) (operand_lists (each_needs links more)) h)))
