-- The goals of a body are sound and of terms of the program.
use Rattle.std.proofs.Common.{◌≡◌, inl, inr, ℕ, ◌<◌, ◌≤◌, List, [], ◌∷◌, ◌++◌, refl, sym, subst, ⊎_elim, arith}
use Rattle.std.specs.Prelude.{Option, Some, None}
use Rattle.tel_base.specs.Members.{In}
use Rattle.tel_base.proofs.Members.{In-append_left, In-append_right, In-append_cases, In-map, list_all-from_In}
use Rattle.tel_term.specs.declared.terms.Term.{Term}
use Rattle.tel_term.specs.declared.exprs.Expr.{Expr}
use Rattle.tel_rule.specs.declared.statements.Relation.{Relation}
use Rattle.tel_rule.specs.declared.statements.Relation.TheVariants as relations
use Rattle.tel_rule.specs.declared.statements.LitItem.{LitItem}
use Rattle.tel_rule.specs.declared.statements.LitItem.TheVariants as items
use Rattle.tel_rule.specs.declared.statements.Literal.{Literal}
use Rattle.rule_binding.specs.Binding.{vars_of, whole_var}
use Rattle.live_instances.specs.Bindings.{is_value}
use Rattle.live_instances.specs.Instances.{item_exprs}
use Rattle.rule_plans.specs.Within.{values_in, IsWithin, AreWithin}
use Rattle.rule_plans.proofs.Exprs.{whole_is}
use Rattle.plan_search.specs.Steps.{AreTerms}
use Rattle.plan_order.specs.declared.goals.Goal.{Goal}
use Rattle.plan_order.specs.declared.goals.Goal.TheVariants as goals
use Rattle.plan_order.specs.Goals.{AreBelow, IsSound, GoalHasTerms}
use Rattle.rule_goals.specs.Said.{Said, Row, Equal, Compare, said, all_said, Numbers, own_place, next_free, arg_places, behind_args, arg_said, args_said, table_of, row_said, behind_row, item_rows, behind_item, body_rows, behind_body, side_said, sides_said, equation_said, comparison_said, equations_said, comparisons_said, SayBody, SayRows}
use Rattle.rule_goals.specs.Laws.{body_exprs, AreFit}

-- ---- places grow

next_least : (free : ℕ) (whole : Option ℕ) → free ≤ next_free free whole
next_least free None = omega arith
next_least free (Some v) = omega arith

args_least : (free : ℕ) (args : List Expr) → free ≤ behind_args free args
args_least free [] = omega arith
args_least free (arg ∷ args) =
    let one = next_least free (whole_var arg) in
    let more = args_least (next_free free (whole_var arg)) args in
    omega (arith, one, more)

row_least : (free : ℕ) (args : List Expr) (table : Option ℕ) → free ≤ behind_row free args table
row_least free args None = omega arith
row_least free args (Some t) = args_least free args

item_least : (number : Numbers) (free nots : ℕ) (item : LitItem) → free ≤ behind_item number free nots item
item_least number free nots (items.Atom atom) = row_least free atom.args (table_of number nots atom)
item_least number free nots (items.Tel formula) = omega arith
item_least number free nots (items.Compare relation left right) = omega arith

body_least : (number : Numbers) (free : ℕ) (body : List Literal) → free ≤ behind_body number free body
body_least number free [] = omega arith
body_least number free (literal ∷ body) =
    let one = item_least number free literal.nots literal.item in
    let more = body_least number (behind_item number free literal.nots literal.item) body in
    omega (arith, one, more)

-- ---- what is said fits

module _ (symbols : List Term) (vars count : ℕ) (wide : vars ≤ count) where
  abbrev Sound : Said → Type 0
  Sound (Row table where_to) = AreBelow count where_to
  Sound (Equal place expr reads) = (place < count) × (reads ≡ vars_of expr) × AreBelow count reads
  Sound (Compare relation left right reads) = (reads ≡ vars_of left ++ vars_of right) × AreBelow count reads

  abbrev Terms : Said → Type 0
  Terms (Row table where_to) = Unit {0}
  Terms (Equal place expr reads) = AreTerms symbols (values_in expr)
  Terms (Compare relation left right reads) = AreTerms symbols (values_in left) × AreTerms symbols (values_in right)

  pub record Fits (one : Said) : Type 0 where
    pub sound : Sound one
    pub terms : Terms one

  abbrev AllFit : List Said → Type 0
  AllFit list = (one : Said) → In one list → Fits one

  no_more : AllFit []
  no_more one there = absurd there

  both_fit : (xs ys : List Said) → AllFit xs → AllFit ys → AllFit (xs ++ ys)
  both_fit xs ys left right one there = ⊎_elim (λ a. left one a) (λ b. right one b) (In-append_cases one xs ys there)

  one_fits : (one : Said) → Fits one → AllFit (one ∷ [])
  one_fits one fits other there = ⊎_elim (λ (same : one ≡ other). subst (λ (o : Said). Fits o) same fits) (λ none. absurd none) there

  reads_below : (expr : Expr) → IsWithin symbols vars expr → AreBelow count (vars_of expr)
  reads_below expr within v there = let less = within.vars v there in omega (arith, less, wide)

  are_terms : (expr : Expr) → IsWithin symbols vars expr → AreTerms symbols (values_in expr)
  are_terms expr within = list_all-from_In (is_value symbols) (values_in expr) (λ value there. within.values value there)

  whole_below : (expr : Expr) (v : ℕ) → whole_var expr ≡ Some v → IsWithin symbols vars expr → v < count
  whole_below expr v is within = reads_below expr within v (subst (λ (ws : List ℕ). In v ws) (sym (whole_is expr v is).0) (inl refl))

  equal_fits : (place : ℕ) (expr : Expr) → place < count → IsWithin symbols vars expr → AllFit (Equal place expr (vars_of expr) ∷ [])
  equal_fits place expr less within = one_fits (Equal place expr (vars_of expr)) (record { sound = (less, refl, reads_below expr within); terms = are_terms expr within })

  -- ---- arguments

  own_below : (free : ℕ) (arg : Expr) (whole : Option ℕ) → whole_var arg ≡ whole → next_free free whole ≤ count → IsWithin symbols vars arg → own_place free whole < count
  own_below free arg None is least within = omega (arith, least)
  own_below free arg (Some v) is least within = whole_below arg v is within

  arg_fits : (free : ℕ) (arg : Expr) (whole : Option ℕ) → next_free free whole ≤ count → IsWithin symbols vars arg → AllFit (arg_said free arg whole)
  arg_fits free arg None least within = equal_fits free arg (omega (arith, least)) within
  arg_fits free arg (Some v) least within = no_more

  places_below : (free : ℕ) (args : List Expr) → behind_args free args ≤ count → AreWithin symbols vars args → AreBelow count (arg_places free args)
  places_below free [] least within v there = absurd there
  places_below free (arg ∷ args) least within v there =
      let next = next_free free (whole_var arg) in
      let more = args_least next args in
      let enough : next ≤ count = omega (arith, more, least) in
      ⊎_elim
      (λ (same : own_place free (whole_var arg) ≡ v). subst (λ (w : ℕ). w < count) same (own_below free arg (whole_var arg) refl enough (within arg (inl refl))))
      (λ later. places_below next args least (λ expr here. within expr (inr here)) v later)
      there

  args_fit : (free : ℕ) (args : List Expr) → behind_args free args ≤ count → AreWithin symbols vars args → AllFit (args_said free args)
  args_fit free [] least within = no_more
  args_fit free (arg ∷ args) least within =
      let next = next_free free (whole_var arg) in
      let more = args_least next args in
      let enough : next ≤ count = omega (arith, more, least) in
      both_fit (arg_said free arg (whole_var arg)) (args_said next args) (arg_fits free arg (whole_var arg) enough (within arg (inl refl)))
      (args_fit next args least (λ expr here. within expr (inr here)))

  row_fits : (free : ℕ) (args : List Expr) (table : Option ℕ) → behind_row free args table ≤ count → AreWithin symbols vars args → AllFit (row_said free args table)
  row_fits free args None least within = no_more
  row_fits free args (Some t) least within =
      both_fit (Row t (arg_places free args) ∷ []) (args_said free args) (one_fits (Row t (arg_places free args)) (record { sound = places_below free args least within; terms = tt })) (args_fit free args least within)

  item_fits : (number : Numbers) (free nots : ℕ) (item : LitItem) → behind_item number free nots item ≤ count → AreWithin symbols vars (item_exprs item) → AllFit (item_rows number free nots item)
  item_fits number free nots (items.Atom atom) least within = row_fits free atom.args (table_of number nots atom) least within
  item_fits number free nots (items.Tel formula) least within = no_more
  item_fits number free nots (items.Compare relation left right) least within = no_more

  first_within : (literal : Literal) (body : List Literal) → AreWithin symbols vars (body_exprs (literal ∷ body)) → AreWithin symbols vars (item_exprs literal.item)
  first_within literal body within expr there = within expr (In-append_left expr (item_exprs literal.item) (body_exprs body) there)

  more_within : (literal : Literal) (body : List Literal) → AreWithin symbols vars (body_exprs (literal ∷ body)) → AreWithin symbols vars (body_exprs body)
  more_within literal body within expr there = within expr (In-append_right expr (item_exprs literal.item) (body_exprs body) there)

  rows_fit : (number : Numbers) (free : ℕ) (body : List Literal) → behind_body number free body ≤ count → AreWithin symbols vars (body_exprs body) → AllFit (body_rows number free body)
  rows_fit number free [] least within = no_more
  rows_fit number free (literal ∷ body) least within =
      let next = behind_item number free literal.nots literal.item in
      let more = body_least number next body in
      let enough : next ≤ count = omega (arith, more, least) in
      both_fit (item_rows number free literal.nots literal.item) (body_rows number next body) (item_fits number free literal.nots literal.item enough (first_within literal body within))
      (rows_fit number next body least (more_within literal body within))

  -- ---- equations and comparisons

  side_fits : (side other : Expr) (whole : Option ℕ) → whole_var side ≡ whole → IsWithin symbols vars side → IsWithin symbols vars other → AllFit (side_said other whole)
  side_fits side other None is within within_other = no_more
  side_fits side other (Some v) is within within_other = equal_fits v other (whole_below side v is within) within_other

  sides_fit : (left right : Expr) (relation : Relation) → IsWithin symbols vars left → IsWithin symbols vars right → AllFit (sides_said left right relation)
  sides_fit left right relations.Equal a b = both_fit (side_said right (whole_var left)) (side_said left (whole_var right)) (side_fits left right (whole_var left) refl a b) (side_fits right left (whole_var right) refl b a)
  sides_fit left right relations.Unequal a b = no_more
  sides_fit left right relations.Less a b = no_more
  sides_fit left right relations.LessEqual a b = no_more
  sides_fit left right relations.Greater a b = no_more
  sides_fit left right relations.GreaterEqual a b = no_more

  equation_fits : (item : LitItem) → AreWithin symbols vars (item_exprs item) → AllFit (equation_said item)
  equation_fits (items.Atom atom) within = no_more
  equation_fits (items.Tel formula) within = no_more
  equation_fits (items.Compare relation left right) within = sides_fit left right relation (within left (inl refl)) (within right (inr (inl refl)))

  comparison_fits : (item : LitItem) → AreWithin symbols vars (item_exprs item) → AllFit (comparison_said item)
  comparison_fits (items.Atom atom) within = no_more
  comparison_fits (items.Tel formula) within = no_more
  comparison_fits (items.Compare relation left right) within =
      let a = within left (inl refl) in
      let b = within right (inr (inl refl)) in
      one_fits (Compare relation left right (vars_of left ++ vars_of right)) (record {
        sound = (refl, λ v there. ⊎_elim (λ here. reads_below left a v here) (λ here. reads_below right b v here) (In-append_cases v (vars_of left) (vars_of right) there));
        terms = (are_terms left a, are_terms right b);
      })

  equations_fit : (body : List Literal) → AreWithin symbols vars (body_exprs body) → AllFit (equations_said body)
  equations_fit [] within = no_more
  equations_fit (literal ∷ body) within = both_fit (equation_said literal.item) (equations_said body) (equation_fits literal.item (first_within literal body within)) (equations_fit body (more_within literal body within))

  comparisons_fit : (body : List Literal) → AreWithin symbols vars (body_exprs body) → AllFit (comparisons_said body)
  comparisons_fit [] within = no_more
  comparisons_fit (literal ∷ body) within =
      both_fit (comparison_said literal.item) (comparisons_said body) (comparison_fits literal.item (first_within literal body within)) (comparisons_fit body (more_within literal body within))

  -- ---- goals

  sound_from : (goal : Goal) → Sound (said goal) → IsSound count goal
  sound_from (goals.Row predicate where_to) sound = sound
  sound_from (goals.Equal place expr reads) sound = sound
  sound_from (goals.Compare relation left right reads) sound = sound

  terms_from : (goal : Goal) → Terms (said goal) → GoalHasTerms symbols goal
  terms_from (goals.Row predicate where_to) terms = terms
  terms_from (goals.Equal place expr reads) terms = terms
  terms_from (goals.Compare relation left right reads) terms = terms

  list_fits : (list : List Goal) → AllFit (all_said list) → AreFit symbols count list
  list_fits list all = record {
    sound = λ goal there. sound_from goal (all (said goal) (In-map said goal list there)).sound;
    terms = λ goal there. terms_from goal (all (said goal) (In-map said goal list there)).terms;
  }

pub goals_fit : (number : Numbers) (symbols : List Term) (vars : ℕ) (body : List Literal) (places : ℕ) (list : List Goal) → SayBody number vars body places list → AreWithin symbols vars (body_exprs body) → AreFit symbols places list
goals_fit number symbols vars body places list say within =
    let least = body_least number vars body in
    let are = say.places_are in
    let wide : vars ≤ places = omega (arith, least, are) in
    let end : behind_body number vars body ≤ places = omega (arith, are) in
    list_fits symbols vars places wide list
    (subst (λ (l : List Said). AllFit symbols vars places wide l) (sym say.goals_are)
    (both_fit symbols vars places wide (body_rows number vars body) (equations_said body ++ comparisons_said body) (rows_fit symbols vars places wide number vars body end within)
    (both_fit symbols vars places wide (equations_said body) (comparisons_said body) (equations_fit symbols vars places wide body within) (comparisons_fit symbols vars places wide body within))))

pub row_goals_fit : (number : Numbers) (symbols : List Term) (vars : ℕ) (body : List Literal) (places : ℕ) (list : List Goal) → SayRows number vars body places list → AreWithin symbols vars (body_exprs body) → AreFit symbols places list
row_goals_fit number symbols vars body places list say within =
    let least = body_least number vars body in
    let are = say.places_are in
    let wide : vars ≤ places = omega (arith, least, are) in
    let end : behind_body number vars body ≤ places = omega (arith, are) in
    list_fits symbols vars places wide list (subst (λ (l : List Said). AllFit symbols vars places wide l) (sym say.goals_are) (rows_fit symbols vars places wide number vars body end within))
