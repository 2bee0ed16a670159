-- What the equations and comparisons of a body say of a binding that makes an instance.
use Rattle.std.proofs.Common.{◌≡◌, inl, inr, ℕ, ◌<◌, true, false, List, refl, sym, ap, ap₂, ◌∙◌, subst, ⊎_elim, true≢false}
use Rattle.std.specs.Prelude.{Ok, Err, Option, Some, None, IsTrue}
use Rattle.std.specs.List.{list_all, flat_map}
use Rattle.std.specs.Ordering.{match_ordering}
use Rattle.std.specs.declared.cmp.Ordering.{Ordering}
use Rattle.std.specs.declared.cmp.Ordering.TheVariants.{Less, Equal, Greater}
use Rattle.std.proofs.lemmas.Bool.{and_parts}
use Rattle.tel_base.specs.Members.{In}
use Rattle.tel_base.proofs.Members.{In-append_cases, In-list_all, In-flat_map_from}
use Rattle.tel_term.specs.declared.terms.Term.{Term}
use Rattle.tel_term.specs.declared.terms.Value.{Value}
use Rattle.tel_term.specs.declared.terms.Value.TheVariants as values
use Rattle.tel_term.specs.declared.exprs.Expr.{Expr}
use Rattle.tel_term.specs.Arithmetic.{Valued, expr_value}
use Rattle.tel_term.specs.Order.{value_cmp, value_in_range}
use Rattle.tel_term.specs.Symbols.{IsTable}
use Rattle.tel_term.proofs.Ordered.{values-level}
use Rattle.tel_rule.specs.declared.statements.Head.{Head}
use Rattle.tel_rule.specs.declared.statements.Relation.{Relation}
use Rattle.tel_rule.specs.declared.statements.Relation.TheVariants as relations
use Rattle.tel_rule.specs.declared.statements.LitItem.{LitItem}
use Rattle.tel_rule.specs.declared.statements.LitItem.TheVariants as items
use Rattle.tel_rule.specs.declared.statements.Literal.{Literal}
use Rattle.rule_binding.specs.Binding.{whole_var, Equation, relation_equations, item_equations, equations_of}
use Rattle.live_instances.specs.Bindings.{is_value}
use Rattle.live_instances.specs.Instances.{item_exprs, rule_exprs, has_value, both_relate, compares, makes_instance}
use Rattle.join_plans.specs.Join.{at}
use Rattle.join_plans.specs.Goals.{Goal, HasValue, IsMet, AreMet}
use Rattle.rule_plans.specs.Goals.{ok_value, expression_of, side_goals, equation_goals, item_goals, body_goals}
use Rattle.rule_plans.specs.Within.{AreWithin}
use Rattle.rule_plans.proofs.Exprs.{value_reads, value_term, whole_is}
use Rattle.rule_plans.proofs.Atoms.{item_in_rule}

value_known : (symbols : List Term) (value : Value) → is_value symbols value ≡ true → value_in_range symbols value ≡ true
value_known symbols (values.Num number) is = refl
value_known symbols (values.Sym number) is = is

level : (order : Ordering) → match_ordering order false true false ≡ true → order ≡ Equal
level Less h = absurd (true≢false (sym h))
level Equal h = refl
level Greater h = absurd (true≢false (sym h))

-- both sides have this value
pub record HaveValue (b : List Value) (equation : Equation) : Type 0 where
  pub value : Value
  pub left : expr_value b equation.left ≡ Ok value
  pub right : expr_value b equation.right ≡ Ok value

-- an equation of a body, with the literal that it is
pub record IsLiteral (head : Head) (body : List Literal) (equation : Equation) : Type 0 where
  pub literal : Literal
  pub there : In literal body
  pub is : literal.item ≡ items.Compare relations.Equal equation.left equation.right
  pub left : In equation.left (rule_exprs head body)
  pub right : In equation.right (rule_exprs head body)

module _ (head : Head) (body : List Literal) where
  left_in : (literal : Literal) (relation : Relation) (left right : Expr) → In literal body → literal.item ≡ items.Compare relation left right → In left (rule_exprs head body)
  left_in literal relation left right there is =
      item_in_rule head body literal left there (subst (λ (item : LitItem). In left (item_exprs item)) (sym is) (inl refl))

  right_in : (literal : Literal) (relation : Relation) (left right : Expr) → In literal body → literal.item ≡ items.Compare relation left right → In right (rule_exprs head body)
  right_in literal relation left right there is =
      item_in_rule head body literal right there (subst (λ (item : LitItem). In right (item_exprs item)) (sym is) (inr (inl refl)))

  relation_literal : (literal : Literal) (relation : Relation) (left right : Expr) (equation : Equation) → In literal body → literal.item ≡ items.Compare relation left right → In equation (relation_equations left right relation) → IsLiteral head body equation
  relation_literal literal relations.Equal left right equation there is h =
      ⊎_elim
      (λ (same : record { left = left; right = right } ≡ equation). subst (λ (e : Equation). IsLiteral head body e) same
      (record { literal = literal; there = there; is = is; left = left_in literal relations.Equal left right there is; right = right_in literal relations.Equal left right there is }))
      (λ none. absurd none) h
  relation_literal literal relations.Unequal left right equation there is h = absurd h
  relation_literal literal relations.Less left right equation there is h = absurd h
  relation_literal literal relations.LessEqual left right equation there is h = absurd h
  relation_literal literal relations.Greater left right equation there is h = absurd h
  relation_literal literal relations.GreaterEqual left right equation there is h = absurd h

  item_literal : (literal : Literal) (item : LitItem) (equation : Equation) → In literal body → literal.item ≡ item → In equation (item_equations item) → IsLiteral head body equation
  item_literal literal (items.Atom atom) equation there is h = absurd h
  item_literal literal (items.Tel formula) equation there is h = absurd h
  item_literal literal (items.Compare relation left right) equation there is h = relation_literal literal relation left right equation there is h

  pub equation_literal : (equation : Equation) → In equation (equations_of body) → IsLiteral head body equation
  equation_literal equation there =
      let from = In-flat_map_from (λ (l : Literal). item_equations l.item) equation body there in
      item_literal from.0 from.0.item equation from.1 refl from.2

  module _ (symbols : List Term) (count : ℕ) (table : IsTable symbols) (within : AreWithin symbols count (rule_exprs head body)) (b : List Value) (terms : (v : ℕ) → v < count → IsTrue (is_value symbols (at b v)))
      (makes : makes_instance symbols head body b ≡ true) where
    compared : (literal : Literal) (item : LitItem) → In literal body → literal.item ≡ item → compares symbols b item ≡ true
    compared literal item there is =
        let both = and_parts (list_all (λ (expr : Expr). has_value (expr_value b expr)) (rule_exprs head body)) (list_all (λ (l : Literal). compares symbols b l.item) body) makes in
        ap (compares symbols b) (sym is) ∙ In-list_all (λ (l : Literal). compares symbols b l.item) literal body both.1 there

    term_of : (expr : Expr) (value : Value) → In expr (rule_exprs head body) → expr_value b expr ≡ Ok value → value_in_range symbols value ≡ true
    term_of expr value there is =
        let one = within expr there in
        value_known symbols value (value_term symbols b expr one.values (λ v reads. terms v (one.vars v reads)) value is)

    sides : (equation : Equation) (x y : Valued) → In equation.left (rule_exprs head body) → In equation.right (rule_exprs head body) → expr_value b equation.left ≡ x → expr_value b equation.right ≡ y → both_relate symbols relations.Equal x y ≡ true
        → HaveValue b equation
    sides equation (Ok x) (Ok y) l r left right h =
        let same = (values-level symbols x y table (term_of equation.left x l left) (term_of equation.right y r right)).0 (level (value_cmp symbols x y) h) in
        record { value = x; left = left; right = right ∙ ap Ok (sym same) }
    sides equation (Ok x) (Err fault) l r left right h = absurd (true≢false (sym h))
    sides equation (Err fault) y l r left right h = absurd (true≢false (sym h))

    pub equation_holds : (equation : Equation) → In equation (equations_of body) → HaveValue b equation
    equation_holds equation there =
        let literal = equation_literal equation there in
        sides equation (expr_value b equation.left) (expr_value b equation.right) literal.left literal.right refl refl
        (compared literal.literal (items.Compare relations.Equal equation.left equation.right) literal.there literal.is)

    -- ---- the goals of the body, of a list of values that goes on with the binding

    module _ (e : List Value) (same : (v : ℕ) → v < count → at e v ≡ at b v) where
      stays : (expr : Expr) → In expr (rule_exprs head body) → expr_value e expr ≡ expr_value b expr
      stays expr there = value_reads e b expr (λ v reads. same v ((within expr there).vars v reads))

      side_met : (side other : Expr) (value : Value) (whole : Option ℕ) → whole_var side ≡ whole → In side (rule_exprs head body) → In other (rule_exprs head body) → expr_value b side ≡ Ok value → expr_value b other ≡ Ok value
          → AreMet e (side_goals other whole)
      side_met side other value None is s o left right goal there = absurd there
      side_met side other value (Some v) is s o left right goal there =
          ⊎_elim
          (λ (at_goal : HasValue v (expression_of other) ≡ goal). subst (λ (g : Goal). IsMet e g) at_goal
          (ap ok_value (stays other o ∙ right ∙ sym left ∙ sym (stays side s) ∙ (whole_is side v is).1 e)))
          (λ none. absurd none) there

      equations_met : (goal : Goal) → In goal (flat_map equation_goals (equations_of body)) → IsMet e goal
      equations_met goal there =
          let from = In-flat_map_from equation_goals goal (equations_of body) there in
          let literal = equation_literal from.0 from.1 in
          let holds = equation_holds from.0 from.1 in
          ⊎_elim (λ l. side_met from.0.left from.0.right holds.value (whole_var from.0.left) refl literal.left literal.right holds.left holds.right goal l)
          (λ r. side_met from.0.right from.0.left holds.value (whole_var from.0.right) refl literal.right literal.left holds.right holds.left goal r)
          (In-append_cases goal (side_goals from.0.right (whole_var from.0.left)) (side_goals from.0.left (whole_var from.0.right)) from.2)

      item_met : (literal : Literal) (item : LitItem) → In literal body → literal.item ≡ item → AreMet e (item_goals symbols item)
      item_met literal (items.Atom atom) l is goal there = absurd there
      item_met literal (items.Tel formula) l is goal there = absurd there
      item_met literal (items.Compare relation left right) l is goal there =
          ⊎_elim
          (λ at_goal. subst (λ (g : Goal). IsMet e g) at_goal
          (ap₂ (both_relate symbols relation) (stays left (left_in literal relation left right l is)) (stays right (right_in literal relation left right l is))
          ∙ compared literal (items.Compare relation left right) l is))
          (λ none. absurd none) there

      pub body_met : AreMet e (body_goals symbols body)
      body_met goal there =
          ⊎_elim (λ l. equations_met goal l)
          (λ r. let from = In-flat_map_from (λ (l : Literal). item_goals symbols l.item) goal body r in item_met from.0 from.0.item from.1 refl goal from.2)
          (In-append_cases goal (flat_map equation_goals (equations_of body)) (flat_map (λ (l : Literal). item_goals symbols l.item) body) there)
