-- What has no operation has a value.
use Rattle.std.proofs.Common.{◌≡◌, ◌∙◌, inl, inr, ℕ, Bool, true, false, not, ◌&&◌, List, [], ◌∷◌, ◌++◌, map, refl, sym, ap, subst, ⊎_elim, true≢false}
use Rattle.std.specs.Prelude.{Ok, Err, Option, Some, None, slice_set, if◌then◌else◌}
use Rattle.std.specs.List.{list_all}
use Rattle.std.proofs.lemmas.Bool.{cases_Bool}
use Rattle.tel_base.specs.Members.{In}
use Rattle.tel_base.proofs.Members.{In-append_cases, In-flat_map, In-flat_map_from}
use Rattle.tel_term.specs.declared.terms.Term.{Term}
use Rattle.tel_term.specs.declared.terms.Value.{Value}
use Rattle.tel_term.specs.declared.arithmetic.EvalFault.{EvalFault}
use Rattle.tel_term.specs.declared.arithmetic.EvalFault.TheVariants.{Range}
use Rattle.tel_term.specs.declared.exprs.SumOp.{SumOp}
use Rattle.tel_term.specs.declared.exprs.ProductOp.{ProductOp}
use Rattle.tel_term.specs.declared.exprs.Expr.{Expr}
use Rattle.tel_term.specs.Arithmetic.{Valued, variable_value, expr_value, layer_value}
use Rattle.tel_rule.specs.declared.formulas.Atom.{Atom}
use Rattle.tel_rule.specs.declared.statements.Head.{Head}
use Rattle.tel_rule.specs.declared.statements.Literal.{Literal}
use Rattle.tel_rule.specs.declared.statements.Kind.TheVariants as kinds
use Rattle.tel_rule.specs.declared.statements.Statement.{Statement}
use Rattle.tel_semantics.specs.Tables.{is_table}
use Rattle.rule_binding.specs.Binding.{has, vars_of, whole_var, equations_of, row_vars, body_of, Setting, var_set, side_set, sets, possible, AreSettings}
use Rattle.rule_binding.specs.Laws.{AreInSomeOrder}
use Rattle.rule_binding.proofs.Settings.{some_order}
use Rattle.rule_constants.proofs.ExprLayers.{bare, by_parts}
use Rattle.rule_constants.proofs.Kept.{fold-value, fold-var, fold-minus, fold-sum, fold-product}
use Rattle.live_instances.specs.Instances.{table_atoms, rule_exprs}
use Rattle.live_instances.specs.Reached.{first_fault, set_by, HasOutcome, RuleLeavesRange, KindLeavesRange, LeavesRange}
use Rattle.rule_plans.proofs.Bodies.{equation_literal}
use Rattle.range_faults.specs.Stops.{Stop, is_range, stopped, stop}
use Rattle.range_faults.specs.Operations.{layer_operates, operates, operation_of, operations}

-- ---- expressions

-- an expression that is no operation has a value
abbrev HasValue : Expr → Type 0
HasValue expr = operates expr ≡ false → (b : List Value) → (x : Value) × (expr_value b expr ≡ Ok x)

pub has_value : (expr : Expr) → HasValue expr
has_value =
    by_parts HasValue (record {
      value = λ value isnt b. (value, fold-value Valued (layer_value b) value);
      var = λ v isnt b. (variable_value b v, fold-var Valued (layer_value b) v);
      minus = λ inner ih isnt b. absurd (true≢false (sym (fold-minus Bool layer_operates inner) ∙ isnt));
      sum = λ first more ih isnt b. absurd (true≢false (sym (fold-sum Bool layer_operates first (bare HasValue SumOp more)) ∙ isnt));
      product = λ first more ih isnt b. absurd (true≢false (sym (fold-product Bool layer_operates first (bare HasValue ProductOp more)) ∙ isnt));
    })

module _ (b : List Value) where
  one_same : (expr : Expr) (rest : List Expr) (t : Bool) → operates expr ≡ t → first_fault (map (expr_value b) ((if t then expr ∷ [] else []) ++ rest)) ≡ first_fault (expr_value b expr ∷ map (expr_value b) rest)
  one_same expr rest true is = refl
  one_same expr rest false is = sym (ap (λ (v : Valued). first_fault (v ∷ map (expr_value b) rest)) (has_value expr is b).1)

  rest_same : (v : Valued) (xs ys : List Valued) → first_fault xs ≡ first_fault ys → first_fault (v ∷ xs) ≡ first_fault (v ∷ ys)
  rest_same (Ok x) xs ys same = same
  rest_same (Err fault) xs ys same = refl

  pub faults_same : (exprs : List Expr) → first_fault (map (expr_value b) (operations exprs)) ≡ first_fault (map (expr_value b) exprs)
  faults_same [] = refl
  faults_same (expr ∷ exprs) = one_same expr (operations exprs) (operates expr) refl ∙ rest_same (expr_value b expr) (map (expr_value b) (operations exprs)) (map (expr_value b) exprs) (faults_same exprs)

-- the setting equations stop where they would stop by all expressions
pub stop_same : (exprs : List Expr) (settings : List Setting) (env : List Value) → stop (operations exprs) env settings ≡ stop exprs env settings
stop_same exprs [] env = ap (λ (fault : Option EvalFault). if◌then◌else◌ {A = Option Stop} (is_range fault) (Some (record { unset = []; env = env })) None) (faults_same env exprs)
stop_same exprs (setting ∷ more) env =
    λ i. stopped (Some (record { unset = set_by (setting ∷ more); env = env })) (λ (value : Value). stop_same exprs more (slice_set env setting.var value) i) (expr_value env setting.value)

-- ---- rules without an operation

own_operation : (expr : Expr) (t : Bool) → operates expr ≡ t → t ≡ true → In expr (if t then expr ∷ [] else [])
own_operation expr true is so = inl refl
own_operation expr false is so = absurd (true≢false (sym so))

none_operates : (exprs : List Expr) → operations exprs ≡ [] → (expr : Expr) → In expr exprs → operates expr ≡ false
none_operates exprs none expr there = elim (cases_Bool (operates expr)) [
  | inl is ↦ absurd (subst (λ (l : List Expr). In expr l) none (In-flat_map operation_of expr expr exprs there (own_operation expr (operates expr) refl is)))
  | inr isnt ↦ isnt
]

var_value : (bound : List ℕ) (other : Expr) (setting : Setting) (whole : Option ℕ) → In setting (var_set (has bound) other whole) → other ≡ setting.value
var_value bound other setting None found = absurd found
var_value bound other setting (Some v) found = by (not (has bound v) && list_all (has bound) (vars_of other)) found
  where
    by : (t : Bool) → In setting (if t then record { var = v; value = other } ∷ [] else []) → other ≡ setting.value
    by false h = absurd h
    by true h = ⊎_elim (λ (same : record { var = v; value = other } ≡ setting). ap (λ (s : Setting). s.value) same) (λ none. absurd none) h

module _ (head : Head) (body : List Literal) where
  one_inside : (bound : List ℕ) (setting : Setting) → In setting (possible (has bound) (equations_of body)) → In setting.value (rule_exprs head body)
  one_inside bound setting found =
      let from = In-flat_map_from (sets (has bound)) setting (equations_of body) found in
      let equation = from.0 in
      let literal = equation_literal head body equation from.1 in
      ⊎_elim (λ h. subst (λ (e : Expr). In e (rule_exprs head body)) (var_value bound equation.right setting (whole_var equation.left) h) literal.right)
      (λ h. subst (λ (e : Expr). In e (rule_exprs head body)) (var_value bound equation.left setting (whole_var equation.right) h) literal.left)
      (In-append_cases setting (side_set (has bound) equation.left equation.right) (side_set (has bound) equation.right equation.left) from.2)

  module _ (statements : List Statement) (atoms : List Atom) (b : List Value) (none : operations (rule_exprs head body) ≡ []) where
    no_outcome : (bound : List ℕ) (settings : List Setting) → AreInSomeOrder (equations_of body) bound settings → HasOutcome statements atoms (rule_exprs head body) b settings (Some Range) → ⊥
    no_outcome bound [] are outcome =
        let no_fault : first_fault (map (expr_value b) (rule_exprs head body)) ≡ None = sym (faults_same b (rule_exprs head body)) ∙ ap (λ (l : List Expr). first_fault (map (expr_value b) l)) none in
        let clash = sym no_fault ∙ outcome.1 in
        absurd cc
    no_outcome bound (setting ∷ more) are (inl outcome) =
        let value = has_value setting.value (none_operates (rule_exprs head body) none setting.value (one_inside bound setting are.0)) b in
        let clash = sym value.1 ∙ outcome.1 in
        absurd cc
    no_outcome bound (setting ∷ more) are (inr outcome) = no_outcome (setting.var ∷ bound) more are.1 outcome.1

-- a rule without an operation doesn't leave the range
pub never_leaves : (statements : List Statement) (symbols : List Term) (rule : Statement) (head : Head) (body : List Literal) → rule.kind ≡ kinds.Rule head body → operations (rule_exprs head body) ≡ [] → LeavesRange statements symbols rule → ⊥
never_leaves statements symbols rule head body is none leaves =
    let own : RuleLeavesRange statements symbols rule head body = subst (KindLeavesRange statements symbols rule) is leaves in
    let settings_are : AreSettings (equations_of body) (row_vars (is_table statements) body) own.settings = subst (λ (l : List Literal). AreSettings (equations_of l) (row_vars (is_table statements) l) own.settings) (ap body_of is) own.are in
    no_outcome head body statements (table_atoms statements body) own.binding none (row_vars (is_table statements) body) own.settings (some_order (equations_of body) (row_vars (is_table statements) body) own.settings settings_are) own.reached
