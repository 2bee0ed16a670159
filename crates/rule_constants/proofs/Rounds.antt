-- Rounds: values stay, a definition has one value, and what names one without a value has none.
use Rattle.std.proofs.Common.{◌≡◌, ℕ, zero, suc, ◌+◌, Bool, true, false, not, List, [], ◌∷◌, ◌++◌, Option, Some, None, refl, sym, ap, subst, ◌∙◌, ◌⊎◌, inl, ⊎_elim, arith}
use Rattle.std.specs.Prelude.{◌&&◌, is_some, slice_get, if◌then◌else◌}
use Rattle.std.proofs.lemmas.Bool.{and_parts, and_from, false≢true}
use Rattle.tel_base.proofs.Members.{In, In-append_left, In-append_right, In-list_all, list_all-from_In}
use Rattle.tel_term.specs.declared.terms.Value.{Value}
use Rattle.tel_term.specs.declared.exprs.SumOp.{SumOp}
use Rattle.tel_term.specs.declared.exprs.ProductOp.{ProductOp}
use Rattle.tel_term.specs.declared.exprs.Expr.{Expr}
use Rattle.tel_term.specs.declared.exprs.Expr.TheVariants as exprs
use Rattle.tel_term.specs.Arithmetic.{expr_value}
use Rattle.tel_rule.specs.declared.statements.Kind.{Kind}
use Rattle.tel_rule.specs.declared.statements.Kind.TheVariants as kinds
use Rattle.tel_rule.specs.declared.statements.Statement.{Statement}
use Rattle.rule_constants.specs.Constants.{linked, option_list, needs_of, operand_lists, has_variable, expr_replaced, Values, value_or, value_at, replacement, all_known, ok_value, defined_value, kind_value, statement_value, next_values, values_after}
use Rattle.rule_constants.specs.Operands.{each_needs, each_replaced}
use Rattle.rule_constants.specs.Solving.{kind_needs, statement_needs, definition_needs, HasNone, AreSound}
use Rattle.rule_constants.proofs.ExprLayers.{needs-value, needs-minus, needs-sum, needs-product, replaced-value, replaced-var, replaced-minus, replaced-sum, replaced-product, Parts, bare, by_parts}

-- ---- values that agree on what is named give one expression

abbrev Agree : Values → Values → List ℕ → Type 0
Agree K L needs = (n : ℕ) → In n needs → K n ≡ L n

abbrev Same : List (Option ℕ) → Values → Values → Expr → Type 0
Same links K L expr = Agree K L (needs_of links expr) → expr_replaced (replacement links K) expr ≡ expr_replaced (replacement links L) expr

at-link : (K L : Values) (value : Value) (link : Option ℕ) → Agree K L (option_list link) → value_or value (value_at K link) ≡ value_or value (value_at L link)
at-link K L value None h = refl
at-link K L value (Some n) h = ap (value_or value) (h n (inl refl))

each-agree : (Op : Type 0) (links : List (Option ℕ)) (K L : Values) (more : Parts (Same links K L) Op) → Agree K L (operand_lists (each_needs links (bare (Same links K L) Op more))) → each_replaced (replacement links K) (bare (Same links K L) Op more) ≡ each_replaced (replacement links L) (bare (Same links K L) Op more)
each-agree Op links K L [] h = refl
each-agree Op links K L (part ∷ more) h =
    let e = part.1.1 (λ n i. h n (In-append_left n (needs_of links part.1.0) (operand_lists (each_needs links (bare (Same links K L) Op more))) i)) in
    let r = each-agree Op links K L more (λ n i. h n (In-append_right n (needs_of links part.1.0) (operand_lists (each_needs links (bare (Same links K L) Op more))) i)) in
    ap (λ (x : Expr). (part.0, x) ∷ each_replaced (replacement links K) (bare (Same links K L) Op more)) e
    ∙ ap (λ (xs : List (Op × Expr)). (part.0, expr_replaced (replacement links L) part.1.0) ∷ xs) r

agreeing : (links : List (Option ℕ)) (K L : Values) (expr : Expr) → Same links K L expr
agreeing links K L =
    by_parts (Same links K L) (record {
      value = λ value h. replaced-value (replacement links K) value ∙ ap (λ (v : Value). exprs.Value v) (at-link K L value (linked links value) (subst (λ (ns : List ℕ). Agree K L ns) (needs-value links value) h)) ∙ sym (replaced-value (replacement links L) value);
      var = λ variable h. replaced-var (replacement links K) variable ∙ sym (replaced-var (replacement links L) variable);
      minus = λ inner ih h. replaced-minus (replacement links K) inner ∙ ap (λ (e : Expr). exprs.Minus e) (ih (subst (λ (ns : List ℕ). Agree K L ns) (needs-minus links inner) h)) ∙ sym (replaced-minus (replacement links L) inner);
      sum = λ first more ih h. sum-agrees first more ih (subst (λ (ns : List ℕ). Agree K L ns) (needs-sum links first (bare (Same links K L) SumOp more)) h);
      product = λ first more ih h. product-agrees first more ih (subst (λ (ns : List ℕ). Agree K L ns) (needs-product links first (bare (Same links K L) ProductOp more)) h);
    })
  where
    sum-agrees : (first : Expr) (more : Parts (Same links K L) SumOp) → Same links K L first → Agree K L (needs_of links first ++ operand_lists (each_needs links (bare (Same links K L) SumOp more))) → expr_replaced (replacement links K) (exprs.Sum first (bare (Same links K L) SumOp more)) ≡ expr_replaced (replacement links L) (exprs.Sum first (bare (Same links K L) SumOp more))
    sum-agrees first more ih h =
        let ops = bare (Same links K L) SumOp more in
        let e = ih (λ n i. h n (In-append_left n (needs_of links first) (operand_lists (each_needs links ops)) i)) in
        let r = each-agree SumOp links K L more (λ n i. h n (In-append_right n (needs_of links first) (operand_lists (each_needs links ops)) i)) in
        replaced-sum (replacement links K) first ops
        ∙ ap (λ (x : Expr). exprs.Sum x (each_replaced (replacement links K) ops)) e
        ∙ ap (λ (xs : List (SumOp × Expr)). exprs.Sum (expr_replaced (replacement links L) first) xs) r
        ∙ sym (replaced-sum (replacement links L) first ops)

    product-agrees : (first : Expr) (more : Parts (Same links K L) ProductOp) → Same links K L first → Agree K L (needs_of links first ++ operand_lists (each_needs links (bare (Same links K L) ProductOp more))) → expr_replaced (replacement links K) (exprs.Product first (bare (Same links K L) ProductOp more)) ≡ expr_replaced (replacement links L) (exprs.Product first (bare (Same links K L) ProductOp more))
    product-agrees first more ih h =
        let ops = bare (Same links K L) ProductOp more in
        let e = ih (λ n i. h n (In-append_left n (needs_of links first) (operand_lists (each_needs links ops)) i)) in
        let r = each-agree ProductOp links K L more (λ n i. h n (In-append_right n (needs_of links first) (operand_lists (each_needs links ops)) i)) in
        replaced-product (replacement links K) first ops
        ∙ ap (λ (x : Expr). exprs.Product x (each_replaced (replacement links K) ops)) e
        ∙ ap (λ (xs : List (ProductOp × Expr)). exprs.Product (expr_replaced (replacement links L) first) xs) r
        ∙ sym (replaced-product (replacement links L) first ops)

-- ---- one round more

-- what has a value among these has the same one there
abbrev pub BelowOn : List ℕ → Values → Values → Type 0
BelowOn needs K L = (n : ℕ) → In n needs → (v : Value) → K n ≡ Some v → L n ≡ Some v

given : (K : Values) (n : ℕ) → is_some (K n) ≡ true → (v : Value) × (K n ≡ Some v)
given K n is = of (K n) refl is
  where
    of : (o : Option Value) → K n ≡ o → is_some o ≡ true → (v : Value) × (K n ≡ Some v)
    of None e some = absurd (false≢true some)
    of (Some v) e some = (v, e)

-- the test of a definition passes where it has a value
passes : (test : Bool) (x : Option Value) (v : Value) → (if test then x else None) ≡ Some v → (test ≡ true) × (x ≡ Some v)
passes true x v h = (refl, h)
passes false x v h = absurd cc

passed : (test : Bool) (x : Option Value) → test ≡ true → (if test then x else None) ≡ x
passed test x is = rw is refl

-- the value of a definition without variables, where all that it names have values
pub defined_known : (links : List (Option ℕ)) (K : Values) (expr : Expr) → has_variable expr ≡ false → all_known K (needs_of links expr) ≡ true → defined_value links K expr ≡ ok_value (expr_value [] (expr_replaced (replacement links K) expr))
defined_known links K expr none known =
    passed (not (has_variable expr) && all_known K (needs_of links expr)) (ok_value (expr_value [] (expr_replaced (replacement links K) expr))) (and_from (not (has_variable expr)) (all_known K (needs_of links expr)) (ap not none) known)

pub defined-grows : (links : List (Option ℕ)) (K L : Values) (expr : Expr) (v : Value) → BelowOn (needs_of links expr) K L → defined_value links K expr ≡ Some v → defined_value links L expr ≡ Some v
defined-grows links K L expr v below h =
    let needs = needs_of links expr in
    let p = passes (not (has_variable expr) && all_known K needs) (ok_value (expr_value [] (expr_replaced (replacement links K) expr))) v h in
    let both = and_parts (not (has_variable expr)) (all_known K needs) p.0 in
    let known : (n : ℕ) → In n needs → is_some (K n) ≡ true = λ n i. In-list_all (λ (m : ℕ). is_some (K m)) n needs both.1 i in
    let other : (n : ℕ) → In n needs → is_some (L n) ≡ true = λ n i. let g = given K n (known n i) in ap is_some (below n i g.0 g.1) in
    let all : all_known L needs ≡ true = list_all-from_In (λ (m : ℕ). is_some (L m)) needs other in
    let agree : Agree K L needs = λ n i. let g = given K n (known n i) in g.1 ∙ sym (below n i g.0 g.1) in
    let test : (not (has_variable expr) && all_known L needs) ≡ true = and_from (not (has_variable expr)) (all_known L needs) both.0 all in
    passed (not (has_variable expr) && all_known L needs) (ok_value (expr_value [] (expr_replaced (replacement links L) expr))) test
    ∙ ap (λ (e : Expr). ok_value (expr_value [] e)) (sym (agreeing links K L expr agree))
    ∙ p.1

statement-grows : (links : List (Option ℕ)) (K L : Values) (s : Option Statement) (v : Value) → BelowOn (statement_needs links s) K L → statement_value links K s ≡ Some v → statement_value links L s ≡ Some v
statement-grows links K L None v below h = absurd cc
statement-grows links K L (Some s) v below h = of s.kind below h
  where
    of : (kind : Kind) → BelowOn (kind_needs links kind) K L → kind_value links K kind ≡ Some v → kind_value links L kind ≡ Some v
    of (kinds.Const name expr) b e = defined-grows links K L expr v b e
    of (kinds.Rule head body) b e = absurd cc
    of (kinds.Facts fact) b e = absurd cc
    of (kinds.Show shown) b e = absurd cc

statement-needs : (links : List (Option ℕ)) (K : Values) (s : Option Statement) (v : Value) → statement_value links K s ≡ Some v → (n : ℕ) → In n (statement_needs links s) → is_some (K n) ≡ true
statement-needs links K None v h = absurd cc
statement-needs links K (Some s) v h = of s.kind h
  where
    of : (kind : Kind) → kind_value links K kind ≡ Some v → (n : ℕ) → In n (kind_needs links kind) → is_some (K n) ≡ true
    of (kinds.Const name expr) e n i =
        let needs = needs_of links expr in
        let p = passes (not (has_variable expr) && all_known K needs) (ok_value (expr_value [] (expr_replaced (replacement links K) expr))) v e in
        In-list_all (λ (m : ℕ). is_some (K m)) n needs (and_parts (not (has_variable expr)) (all_known K needs) p.0).1 i
    of (kinds.Rule head body) e n i = absurd i
    of (kinds.Facts fact) e n i = absurd i
    of (kinds.Show shown) e n i = absurd i

module _ (statements : List Statement) (links : List (Option ℕ)) where
  abbrev after : ℕ → Values
  after rounds = values_after statements links rounds

  abbrev needs : ℕ → List ℕ
  needs number = definition_needs statements links number

  pub next-grows : (K L : Values) (n : ℕ) (v : Value) → BelowOn (needs n) K L → next_values statements links K n ≡ Some v → next_values statements links L n ≡ Some v
  next-grows K L n v below h = statement-grows links K L (slice_get statements n) v below h

  pub stays : (k n : ℕ) (v : Value) → after k n ≡ Some v → after (suc k) n ≡ Some v
  stays zero n v h = absurd cc
  stays (suc k) n v h = next-grows (after k) (after (suc k)) n v (λ m i w e. stays k m w e) h

  pub stays_for : (j k m n : ℕ) (v : Value) → m ≡ j + k → after k n ≡ Some v → after m n ≡ Some v
  stays_for zero k m n v is h = subst (λ (r : ℕ). after r n ≡ Some v) (sym (let e : m ≡ k = omega (arith, is) in e)) h
  stays_for (suc j) k m n v is h =
      let e : m ≡ suc (j + k) = omega (arith, is) in
      subst (λ (r : ℕ). after r n ≡ Some v) (sym e) (stays (j + k) n v (stays_for j k (j + k) n v refl h))

  -- a definition has one value
  pub one : (j k n : ℕ) (v w : Value) → after j n ≡ Some v → after k n ≡ Some w → v ≡ w
  one j k n v w a b =
      let x = stays_for k j (k + j) n v refl a in
      let y = stays_for j k (k + j) n w (omega arith) b in
      cc (x, y)

  -- what names one without a value has none in the round after
  pub none_after : (k n m : ℕ) → In m (needs n) → after k m ≡ None → after (suc k) n ≡ None
  none_after k n m i none = of (after (suc k) n) refl
    where
      of : (o : Option Value) → after (suc k) n ≡ o → after (suc k) n ≡ None
      of None e = e
      of (Some v) e =
          let some : is_some (after k m) ≡ true = statement-needs links (after k) (slice_get statements n) v e m i in
          absurd (false≢true (sym (ap is_some none) ∙ some))

  -- where each of some definitions names one of them, or one that never has a value, none has a value
  pub none_inside : (ys : List ℕ) (t : ℕ) → HasNone statements links t ⊎ In t ys → ((p : ℕ) → In p ys → (q : ℕ) × In q (needs p) × (In q ys ⊎ (q ≡ t))) → (k p : ℕ) → In p ys → after k p ≡ None
  none_inside ys t target inside zero p i = refl
  none_inside ys t target inside (suc k) p i =
      let w = inside p i in
      let at_target : after k t ≡ None = ⊎_elim (λ h. h k) (λ m. none_inside ys t target inside k t m) target in
      let at : after k w.0 ≡ None = ⊎_elim (λ m. none_inside ys t target inside k w.0 m) (λ e. subst (λ (q : ℕ). after k q ≡ None) (sym e) at_target) w.2 in
      none_after k p w.0 w.1 at

  -- what has no value under known values of all that it names never has one
  pub none_by_itself : (K : Values) → AreSound statements links K → (n : ℕ) → ((m : ℕ) → In m (needs n) → is_some (K m) ≡ true) → next_values statements links K n ≡ None → HasNone statements links n
  none_by_itself K sound n known none zero = refl
  none_by_itself K sound n known none (suc k) = of (after (suc k) n) refl
    where
      below : BelowOn (needs n) (after k) K
      below m i v e =
          let g = given K m (known m i) in
          let same : v ≡ g.0 = one k sound.0 m v g.0 e (sound.1 m g.0 g.1) in
          g.1 ∙ ap (λ (w : Value). Some w) (sym same)

      of : (o : Option Value) → after (suc k) n ≡ o → after (suc k) n ≡ None
      of None e = e
      of (Some v) e = let e' : next_values statements links K n ≡ Some v = next-grows (after k) K n v below e in absurd cc
