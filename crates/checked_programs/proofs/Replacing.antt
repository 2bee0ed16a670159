-- The expressions of a program with its constants replaced speak of its terms, too.
use Rattle.std.proofs.Common.{◌≡◌, ◌⊎◌, inl, inr, ℕ, zero, suc, Bool, true, false, not, ◌&&◌, List, [], ◌∷◌, ◌++◌, map, length, Option, Some, None, refl, sym, ap, subst, ◌∙◌, ⊎_elim}
use Rattle.std.specs.Prelude.{Ok, Err, IsTrue, slice_get, if◌then◌else◌}
use Rattle.std.specs.List.{flat_map}
use Rattle.std.proofs.lemmas.List.{map-append}
use Rattle.tel_base.specs.Members.{In}
use Rattle.tel_base.proofs.Members.{In-append_cases, In-append_left, In-append_right, In-map_from}
use Rattle.tel_term.specs.declared.terms.Term.{Term}
use Rattle.tel_term.specs.declared.terms.Value.{Value}
use Rattle.tel_term.specs.declared.exprs.SumOp.{SumOp}
use Rattle.tel_term.specs.declared.exprs.ProductOp.{ProductOp}
use Rattle.tel_term.specs.declared.exprs.Expr.{Expr}
use Rattle.tel_term.specs.Arithmetic.{Valued, expr_value}
use Rattle.tel_rule.specs.declared.formulas.Atom.{Atom}
use Rattle.tel_rule.specs.declared.formulas.Formula.{Formula, map-Formula}
use Rattle.tel_rule.specs.declared.formulas.Formula.TheVariants.{rolls-Const, rolls-Atom, rolls-Unary, rolls-Binary, rolls-Many}
use Rattle.tel_rule.specs.declared.formulas.Formula.TheOpen.{Formula-F}
use Rattle.tel_rule.specs.declared.formulas.Formula.TheOpen as layers
use Rattle.tel_rule.specs.declared.formulas.Formula.TheViews.{roll-Formula}
use Rattle.tel_rule.specs.declared.formulas.Formula.TheFolds.{fold-Formula, fold-roll-Formula, ind-Formula}
use Rattle.tel_rule.specs.declared.statements.Arg.{Arg}
use Rattle.tel_rule.specs.declared.statements.Arg.TheVariants as args
use Rattle.tel_rule.specs.declared.statements.Head.{Head}
use Rattle.tel_rule.specs.declared.statements.Head.TheVariants as heads
use Rattle.tel_rule.specs.declared.statements.LitItem.{LitItem}
use Rattle.tel_rule.specs.declared.statements.LitItem.TheVariants as items
use Rattle.tel_rule.specs.declared.statements.Literal.{Literal}
use Rattle.tel_rule.specs.declared.statements.Kind.{Kind}
use Rattle.tel_rule.specs.declared.statements.Kind.TheVariants as kinds
use Rattle.tel_rule.specs.declared.statements.Statement.{Statement}
use Rattle.rule_binding.specs.Binding.{layer_vars}
use Rattle.rule_constants.specs.Constants.{links_of, linked, Values, value_at, value_or, replacement, HasValue, values_after, statement_value, kind_value, has_variable, all_known, needs_of, ok_value, expr_replaced}
use Rattle.rule_constants.specs.Replaced.{atom_replaced, layer_replaced, formula_replaced, item_replaced, literal_replaced, head_replaced, arg_replaced, kind_replaced, statement_replaced, AreValues}
use Rattle.rule_constants.specs.Operands.{each_replaced}
use Rattle.rule_constants.proofs.ExprLayers.{replaced-value, replaced-var, replaced-minus, replaced-sum, replaced-product, Parts, bare, by_parts}
use Rattle.rule_constants.proofs.Kept.{fold-value, fold-var, fold-minus, fold-sum, fold-product, fold-kept}
use Rattle.live_instances.specs.Bindings.{is_value}
use Rattle.live_instances.specs.Instances.{layer_exprs, item_exprs, head_exprs}
use Rattle.rule_plans.specs.Within.{IsWithin, AreWithin, values_in, layer_values, operand_values, arg_exprs, tuple_exprs, kind_exprs, StatementsAreWithin}
use Rattle.rule_plans.proofs.Exprs.{value_term}
use Rattle.checked_programs.specs.Laws.{ReplacedAreWithin}
use Rattle.checked_programs.proofs.Nearness.{of_operands}

-- ---- the values of an expression

module _ (P : Value → Type 0) (new : Value → Value) (keeps : (value : Value) → P value → P (new value)) where
  abbrev All : Expr → Type 0
  All expr = (value : Value) → In value (values_in expr) → P value

  abbrev Keeps : Expr → Type 0
  Keeps expr = All expr → All (expr_replaced new expr)

  one-value : (first value : Value) → In value (first ∷ []) → P first → P value
  one-value first value there h = ⊎_elim (λ same. subst P same h) (λ none. absurd none) there

  each-keeps : (Op : Type 0) (more : Parts Keeps Op) → ((value : Value) → In value (operand_values (of_operands (List Value) layer_values Op (bare Keeps Op more))) → P value) → (value : Value) → In value (operand_values (of_operands (List Value) layer_values Op (each_replaced new (bare Keeps Op more)))) → P value
  each-keeps Op [] all value there = absurd there
  each-keeps Op (part ∷ more) all value there =
      ⊎_elim
      (λ here. part.1.1 (λ v in_part. all v (In-append_left v (values_in part.1.0) (operand_values (of_operands (List Value) layer_values Op (bare Keeps Op more))) in_part)) value here)
      (λ later. each-keeps Op more (λ v in_more. all v (In-append_right v (values_in part.1.0) (operand_values (of_operands (List Value) layer_values Op (bare Keeps Op more))) in_more)) value later)
      (In-append_cases value (values_in (expr_replaced new part.1.0)) (operand_values (of_operands (List Value) layer_values Op (each_replaced new (bare Keeps Op more)))) there)

  pub values-kept : (expr : Expr) → All expr → All (expr_replaced new expr)
  values-kept =
      by_parts Keeps (record {
        value = λ own all value there.
            one-value (new own) value
            (subst (λ (xs : List Value). In value xs) (ap values_in (replaced-value new own) ∙ fold-value (List Value) layer_values (new own)) there)
            (keeps own (all own (subst (λ (xs : List Value). In own xs) (sym (fold-value (List Value) layer_values own)) (inl refl))));
        var = λ v all value there.
            absurd (subst (λ (xs : List Value). In value xs) (ap values_in (replaced-var new v) ∙ fold-var (List Value) layer_values v) there);
        minus = λ inner ih all value there.
            ih (λ v in_inner. all v (subst (λ (xs : List Value). In v xs) (sym (fold-minus (List Value) layer_values inner)) in_inner)) value
            (subst (λ (xs : List Value). In value xs) (ap values_in (replaced-minus new inner) ∙ fold-minus (List Value) layer_values (expr_replaced new inner)) there);
        sum = λ first more ih all value there.
            let whole = λ (v : Value) (in_all : In v (values_in first ++ operand_values (of_operands (List Value) layer_values SumOp (bare Keeps SumOp more)))). all v (subst (λ (xs : List Value). In v xs) (sym (fold-sum (List Value) layer_values first (bare Keeps SumOp more))) in_all) in
            ⊎_elim
            (λ here. ih (λ v in_first. whole v (In-append_left v (values_in first) (operand_values (of_operands (List Value) layer_values SumOp (bare Keeps SumOp more))) in_first)) value here)
            (λ later. each-keeps SumOp more (λ v in_more. whole v (In-append_right v (values_in first) (operand_values (of_operands (List Value) layer_values SumOp (bare Keeps SumOp more))) in_more)) value later)
            (In-append_cases value (values_in (expr_replaced new first)) (operand_values (of_operands (List Value) layer_values SumOp (each_replaced new (bare Keeps SumOp more))))
            (subst (λ (xs : List Value). In value xs) (ap values_in (replaced-sum new first (bare Keeps SumOp more)) ∙ fold-sum (List Value) layer_values (expr_replaced new first) (each_replaced new (bare Keeps SumOp more))) there));
        product = λ first more ih all value there.
            let whole = λ (v : Value) (in_all : In v (values_in first ++ operand_values (of_operands (List Value) layer_values ProductOp (bare Keeps ProductOp more)))). all v (subst (λ (xs : List Value). In v xs) (sym (fold-product (List Value) layer_values first (bare Keeps ProductOp more))) in_all) in
            ⊎_elim
            (λ here. ih (λ v in_first. whole v (In-append_left v (values_in first) (operand_values (of_operands (List Value) layer_values ProductOp (bare Keeps ProductOp more))) in_first)) value here)
            (λ later. each-keeps ProductOp more (λ v in_more. whole v (In-append_right v (values_in first) (operand_values (of_operands (List Value) layer_values ProductOp (bare Keeps ProductOp more))) in_more)) value later)
            (In-append_cases value (values_in (expr_replaced new first)) (operand_values (of_operands (List Value) layer_values ProductOp (each_replaced new (bare Keeps ProductOp more))))
            (subst (λ (xs : List Value). In value xs) (ap values_in (replaced-product new first (bare Keeps ProductOp more)) ∙ fold-product (List Value) layer_values (expr_replaced new first) (each_replaced new (bare Keeps ProductOp more))) there));
      })

-- ---- the expressions of a statement

flat-mapped : {X Z : Type 0} (p : X → List Z) (f : X → X) (g : Z → Z) → ((x : X) → p (f x) ≡ map g (p x)) → (xs : List X) → flat_map p (map f xs) ≡ map g (flat_map p xs)
flat-mapped p f g same [] = refl
flat-mapped {X} {Z} p f g same (x ∷ xs) =
    ap (λ (zs : List Z). zs ++ flat_map p (map f xs)) (same x) ∙ ap (λ (zs : List Z). map g (p x) ++ zs) (flat-mapped p f g same xs)
    ∙ sym (map-append g (p x) (flat_map p xs))

module _ (new : Value → Value) where
  abbrev exprs_of : Formula → List Expr
  exprs_of f = fold-Formula (List Expr) layer_exprs f

  abbrev Mapped : Formula → Type 0
  Mapped f = exprs_of (formula_replaced new f) ≡ map (expr_replaced new) (exprs_of f)

  rolled : (z : Formula-F Formula) → exprs_of (roll-Formula z) ≡ layer_exprs (map-Formula Formula (List Expr) exprs_of z)
  rolled z = fold-roll-Formula (List Expr) layer_exprs z

  replaced-rolled : (z : Formula-F Formula) → formula_replaced new (roll-Formula z) ≡ layer_replaced new (map-Formula Formula Formula (formula_replaced new) z)
  replaced-rolled z = fold-roll-Formula Formula (layer_replaced new) z

  each-mapped : (fs : List ((f : Formula) × Mapped f)) → flat_map (λ (list : List Expr). list) (map exprs_of (map (formula_replaced new) (map (λ e. e.0) fs))) ≡ map (expr_replaced new) (flat_map (λ (list : List Expr). list) (map exprs_of (map (λ e. e.0) fs)))
  each-mapped [] = refl
  each-mapped (f ∷ fs) =
      let later = flat_map (λ (list : List Expr). list) (map exprs_of (map (λ (e : (f : Formula) × Mapped f). e.0) fs)) in
      ap (λ (xs : List Expr). xs ++ flat_map (λ (list : List Expr). list) (map exprs_of (map (formula_replaced new) (map (λ (e : (f : Formula) × Mapped f). e.0) fs)))) f.1
      ∙ ap (λ (xs : List Expr). map (expr_replaced new) (exprs_of f.0) ++ xs) (each-mapped fs)
      ∙ sym (map-append (expr_replaced new) (exprs_of f.0) later)

  one-layer : (y : Formula-F ((f : Formula) × Mapped f)) → Mapped (roll-Formula (map-Formula ((f : Formula) × Mapped f) Formula (λ e. e.0) y))
  one-layer (layers.Const op) =
      ap exprs_of (replaced-rolled (layers.Const op) ∙ sym (rolls-Const op)) ∙ rolled (layers.Const op) ∙ ap (map (expr_replaced new)) (sym (rolled (layers.Const op)))
  one-layer (layers.Atom atom) =
      ap exprs_of (replaced-rolled (layers.Atom atom) ∙ sym (rolls-Atom (atom_replaced new atom))) ∙ rolled (layers.Atom (atom_replaced new atom))
      ∙ ap (map (expr_replaced new)) (sym (rolled (layers.Atom atom)))
  one-layer (layers.Unary op e) =
      ap exprs_of (replaced-rolled (layers.Unary op e.0) ∙ sym (rolls-Unary op (formula_replaced new e.0))) ∙ rolled (layers.Unary op (formula_replaced new e.0))
      ∙ e.1 ∙ ap (map (expr_replaced new)) (sym (rolled (layers.Unary op e.0)))
  one-layer (layers.Binary op d e) =
      ap exprs_of (replaced-rolled (layers.Binary op d.0 e.0) ∙ sym (rolls-Binary op (formula_replaced new d.0) (formula_replaced new e.0)))
      ∙ rolled (layers.Binary op (formula_replaced new d.0) (formula_replaced new e.0))
      ∙ ap (λ (xs : List Expr). xs ++ exprs_of (formula_replaced new e.0)) d.1 ∙ ap (λ (xs : List Expr). map (expr_replaced new) (exprs_of d.0) ++ xs) e.1
      ∙ sym (map-append (expr_replaced new) (exprs_of d.0) (exprs_of e.0)) ∙ ap (map (expr_replaced new)) (sym (rolled (layers.Binary op d.0 e.0)))
  one-layer (layers.Many op es) =
      let fs = map (λ (e : (f : Formula) × Mapped f). e.0) es in
      ap exprs_of (replaced-rolled (layers.Many op fs) ∙ sym (rolls-Many op (map (formula_replaced new) fs)))
      ∙ rolled (layers.Many op (map (formula_replaced new) fs))
      ∙ each-mapped es ∙ ap (map (expr_replaced new)) (sym (rolled (layers.Many op fs)))

  formula-mapped : (f : Formula) → Mapped f
  formula-mapped = ind-Formula Mapped (λ x y is. subst (λ (z : Formula-F Formula). Mapped (roll-Formula z)) is (one-layer y))

  item-mapped : (item : LitItem) → item_exprs (item_replaced new item) ≡ map (expr_replaced new) (item_exprs item)
  item-mapped (items.Atom atom) = refl
  item-mapped (items.Tel formula) = formula-mapped formula
  item-mapped (items.Compare relation left right) = refl

  head-mapped : (head : Head) → head_exprs (head_replaced new head) ≡ map (expr_replaced new) (head_exprs head)
  head-mapped (heads.Normal atom) = refl
  head-mapped (heads.Choice atom) = refl
  head-mapped heads.None = refl

  arg-mapped : (arg : Arg) → arg_exprs (arg_replaced new arg) ≡ map (expr_replaced new) (arg_exprs arg)
  arg-mapped (args.One expr) = refl
  arg-mapped (args.Range low high) = refl

  tuple-mapped : (tuple : List Arg) → tuple_exprs (map (arg_replaced new) tuple) ≡ map (expr_replaced new) (tuple_exprs tuple)
  tuple-mapped tuple = flat-mapped arg_exprs (arg_replaced new) (expr_replaced new) arg-mapped tuple

  body-mapped : (body : List Literal) → flat_map (λ (literal : Literal). item_exprs literal.item) (map (literal_replaced new) body) ≡ map (expr_replaced new) (flat_map (λ (literal : Literal). item_exprs literal.item) body)
  body-mapped body = flat-mapped (λ (literal : Literal). item_exprs literal.item) (literal_replaced new) (expr_replaced new) (λ literal. item-mapped literal.item) body

  kind-mapped : (kind : Kind) → kind_exprs (kind_replaced new kind) ≡ map (expr_replaced new) (kind_exprs kind)
  kind-mapped (kinds.Rule head body) =
      ap (λ (xs : List Expr). xs ++ flat_map (λ (literal : Literal). item_exprs literal.item) (map (literal_replaced new) body)) (head-mapped head)
      ∙ ap (λ (xs : List Expr). map (expr_replaced new) (head_exprs head) ++ xs) (body-mapped body)
      ∙ sym (map-append (expr_replaced new) (head_exprs head) (flat_map (λ (literal : Literal). item_exprs literal.item) body))
  kind-mapped (kinds.Facts fact) = flat-mapped tuple_exprs (map (arg_replaced new)) (expr_replaced new) tuple-mapped fact.tuples
  kind-mapped (kinds.Const name value) = refl
  kind-mapped (kinds.Show shown) = refl

-- ---- the values of constants

module _ (statements : List Statement) (symbols : List Term) (within : StatementsAreWithin symbols statements) where
  abbrev IsTerm : Value → Type 0
  IsTerm value = IsTrue (is_value symbols value)

  abbrev AreTerms : Values → Type 0
  AreTerms known = (number : ℕ) (value : Value) → known number ≡ Some value → IsTerm value

  or-term : (value : Value) (found : Option Value) → ((other : Value) → found ≡ Some other → IsTerm other) → IsTerm value → IsTerm (value_or value found)
  or-term value None terms h = h
  or-term value (Some other) terms h = terms other refl

  at-term : (known : Values) (link : Option ℕ) → AreTerms known → (other : Value) → value_at known link ≡ Some other → IsTerm other
  at-term known None terms other is = absurd cc
  at-term known (Some number) terms other is = terms number other is

  pub replacement-term : (links : List (Option ℕ)) (known : Values) → AreTerms known → (value : Value) → IsTerm value → IsTerm (replacement links known value)
  replacement-term links known terms value h = or-term value (value_at known (linked links value)) (at-term known (linked links value) terms) h

  module _ (links : List (Option ℕ)) (known : Values) (terms : AreTerms known) where
    ok-term : (expr : Expr) → ((value : Value) → In value (values_in expr) → IsTerm value) → (x : Valued) → expr_value [] (expr_replaced (replacement links known) expr) ≡ x → (value : Value) → ok_value x ≡ Some value → IsTerm value
    ok-term expr all (Err fault) e value is = absurd cc
    ok-term expr all (Ok found) e value is =
        let same : found ≡ value = cc in
        subst IsTerm same
        (value_term symbols [] (expr_replaced (replacement links known) expr) (values-kept IsTerm (replacement links known) (replacement-term links known terms) expr all) (λ v there. refl) found e)

    defined-term : (expr : Expr) → ((value : Value) → In value (values_in expr) → IsTerm value) → (test : Bool) (value : Value) → (if test then ok_value (expr_value [] (expr_replaced (replacement links known) expr)) else None) ≡ Some value → IsTerm value
    defined-term expr all false value is = absurd cc
    defined-term expr all true value is = ok-term expr all (expr_value [] (expr_replaced (replacement links known) expr)) refl value is

    kind-term : (kind : Kind) → ((expr : Expr) → In expr (kind_exprs kind) → (value : Value) → In value (values_in expr) → IsTerm value) → (value : Value) → kind_value links known kind ≡ Some value → IsTerm value
    kind-term (kinds.Rule head body) all value is = absurd cc
    kind-term (kinds.Facts fact) all value is = absurd cc
    kind-term (kinds.Const name expr) all value is = defined-term expr (all expr (inl refl)) (not (has_variable expr) && all_known known (needs_of links expr)) value is
    kind-term (kinds.Show shown) all value is = absurd cc

    statement-term : (found : Option Statement) → ((statement : Statement) → found ≡ Some statement → In statement statements) → (value : Value) → statement_value links known found ≡ Some value → IsTerm value
    statement-term None in_all value is = absurd cc
    statement-term (Some statement) in_all value is = kind-term statement.kind (λ expr there. (within statement (in_all statement refl) expr there).values) value is

  got-in : {X : Type 0} (xs : List X) (k : ℕ) (x : X) → slice_get xs k ≡ Some x → In x xs
  got-in [] k x is = absurd cc
  got-in (y ∷ xs) zero x is = let same : y ≡ x = cc in inl same
  got-in (y ∷ xs) (suc k) x is = inr (got-in xs k x is)

  after-terms : (links : List (Option ℕ)) (rounds : ℕ) → AreTerms (values_after statements links rounds)
  after-terms links zero number value is = absurd cc
  after-terms links (suc rounds) number value is =
      statement-term links (values_after statements links rounds) (after-terms links rounds) (slice_get statements number) (λ statement e. got-in statements number statement e) value is

  value-is-term : (number : ℕ) (value : Value) → HasValue statements symbols number value → IsTerm value
  value-is-term number value has = after-terms (links_of statements symbols) has.0 number value has.1

  pub known-terms : (known : Values) → AreValues statements symbols known → AreTerms known
  known-terms known are number value is = value-is-term number value ((are number value).0 is)

  expr-within : (new : Value → Value) → ((value : Value) → IsTerm value → IsTerm (new value)) → (count : ℕ) (expr : Expr) → IsWithin symbols count expr → IsWithin symbols count (expr_replaced new expr)
  expr-within new keeps count expr h = record {
    vars = λ v there. h.vars v (subst (λ (xs : List ℕ). In v xs) (fold-kept (List ℕ) layer_vars new (λ value. refl) expr) there);
    values = values-kept IsTerm new keeps expr h.values;
  }

  exprs-within : (new : Value → Value) → ((value : Value) → IsTerm value → IsTerm (new value)) → (count : ℕ) (list : List Expr) → AreWithin symbols count list → AreWithin symbols count (map (expr_replaced new) list)
  exprs-within new keeps count list h expr there =
      let found = In-map_from (expr_replaced new) expr list there in
      subst (λ (x : Expr). IsWithin symbols count x) found.2 (expr-within new keeps count found.0 (h found.0 found.1))

  pub statements-within : (new : Value → Value) → ((value : Value) → IsTerm value → IsTerm (new value)) → StatementsAreWithin symbols (map (statement_replaced new) statements)
  statements-within new keeps statement there =
      let found = In-map_from (statement_replaced new) statement statements there in
      subst (λ (s : Statement). AreWithin symbols (length s.vars) (kind_exprs s.kind)) found.2
      (subst (λ (list : List Expr). AreWithin symbols (length found.0.vars) list) (sym (kind-mapped new found.0.kind)) (exprs-within new keeps (length found.0.vars) (kind_exprs found.0.kind) (within found.0 found.1)))

pub replaced_within : ReplacedAreWithin
replaced_within program replaced is within =
    let new = replacement (links_of program.statements program.symbols) is.known in
    let all = statements-within program.statements program.symbols within new (replacement-term program.statements program.symbols within (links_of program.statements program.symbols) is.known (known-terms program.statements program.symbols within is.known is.values)) in
    subst (λ (symbols : List Term). StatementsAreWithin symbols replaced.statements) (sym is.symbols)
    (subst (λ (statements : List Statement). StatementsAreWithin program.symbols statements) (sym is.statements) all)
