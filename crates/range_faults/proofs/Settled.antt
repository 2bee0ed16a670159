-- Setting equations, in their order: each sets a variable that wasn't bound, by variables that were.
use Rattle.std.proofs.Common.{◌≡◌, inl, inr, ℕ, ◌<◌, Bool, true, false, not, ◌&&◌, List, [], ◌∷◌, refl, sym, ap, subst, ◌∙◌, ⊎_elim, true≢false}
use Rattle.std.specs.Prelude.{Option, Some, None, ◌==◌, IsTrue, IsFalse, if◌then◌else◌}
use Rattle.std.specs.List.{list_all}
use Rattle.std.proofs.lemmas.Bool.{and_parts, or_cases, or_right, false_from_ne_true, eqb-true}
use Rattle.tel_base.specs.Members.{In}
use Rattle.tel_base.proofs.Members.{In-append_cases, In-flat_map_from}
use Rattle.tel_term.specs.declared.terms.Term.{Term}
use Rattle.tel_term.specs.declared.exprs.Expr.{Expr}
use Rattle.tel_rule.specs.declared.statements.Head.{Head}
use Rattle.tel_rule.specs.declared.statements.Literal.{Literal}
use Rattle.rule_binding.specs.Binding.{has, vars_of, whole_var, equations_of, Setting, var_set, side_set, sets, possible, AreSettings}
use Rattle.rule_binding.specs.Laws.{AreInSomeOrder}
use Rattle.rule_binding.proofs.Settings.{some_order}
use Rattle.live_instances.specs.Instances.{rule_exprs}
use Rattle.live_instances.specs.Reached.{set_by}
use Rattle.rule_plans.specs.Within.{IsWithin, AreWithin}
use Rattle.rule_plans.proofs.Exprs.{whole_is}
use Rattle.rule_plans.proofs.Bodies.{equation_literal}

-- a setting equation that comes where these variables are bound
pub record IsFine (symbols : List Term) (count : ℕ) (bound : List ℕ) (setting : Setting) : Type 0 where
  pub new : IsFalse (has bound setting.var)
  pub known : IsTrue (list_all (has bound) (vars_of setting.value))
  pub small : setting.var < count
  pub within : IsWithin symbols count setting.value

abbrev pub AreFine : List Term → ℕ → List ℕ → List Setting → Type 0
AreFine symbols count bound [] = Unit {0}
AreFine symbols count bound (setting ∷ more) = IsFine symbols count bound setting × AreFine symbols count (setting.var ∷ bound) more

module _ (symbols : List Term) (count : ℕ) (head : Head) (body : List Literal) (within : AreWithin symbols count (rule_exprs head body)) where
  var_fine : (bound : List ℕ) (side other : Expr) (setting : Setting) (whole : Option ℕ) → whole_var side ≡ whole → In side (rule_exprs head body) → In other (rule_exprs head body) → In setting (var_set (has bound) other whole) → IsFine symbols count bound setting
  var_fine bound side other setting None is here there found = absurd found
  var_fine bound side other setting (Some v) is here there found = by (not (has bound v) && list_all (has bound) (vars_of other)) refl found
    where
      by : (t : Bool) → (not (has bound v) && list_all (has bound) (vars_of other)) ≡ t → In setting (if t then record { var = v; value = other } ∷ [] else []) → IsFine symbols count bound setting
      by false e h = absurd h
      by true e h =
          let both = and_parts (not (has bound v)) (list_all (has bound) (vars_of other)) e in
          let own : IsFine symbols count bound (record { var = v; value = other }) = record {
            new = false_from_ne_true (has bound v) (λ t. true≢false (sym both.0 ∙ ap not t));
            known = both.1;
            small = (within side here).vars v (subst (λ (ws : List ℕ). In v ws) (sym (whole_is side v is).0) (inl refl));
            within = within other there;
          } in
          ⊎_elim (λ (same : record { var = v; value = other } ≡ setting). subst (λ (s : Setting). IsFine symbols count bound s) same own) (λ none. absurd none) h

  one_fine : (bound : List ℕ) (setting : Setting) → In setting (possible (has bound) (equations_of body)) → IsFine symbols count bound setting
  one_fine bound setting found =
      let from = In-flat_map_from (sets (has bound)) setting (equations_of body) found in
      let equation = from.0 in
      let literal = equation_literal head body equation from.1 in
      ⊎_elim (λ h. var_fine bound equation.left equation.right setting (whole_var equation.left) refl literal.left literal.right h)
      (λ h. var_fine bound equation.right equation.left setting (whole_var equation.right) refl literal.right literal.left h)
      (In-append_cases setting (side_set (has bound) equation.left equation.right) (side_set (has bound) equation.right equation.left) from.2)

  all_fine : (bound : List ℕ) (settings : List Setting) → AreInSomeOrder (equations_of body) bound settings → AreFine symbols count bound settings
  all_fine bound [] are = tt
  all_fine bound (setting ∷ more) are = (one_fine bound setting are.0, all_fine (setting.var ∷ bound) more are.1)

  pub settings_fine : (bound : List ℕ) (settings : List Setting) → AreSettings (equations_of body) bound settings → AreFine symbols count bound settings
  settings_fine bound settings are = all_fine bound settings (some_order (equations_of body) bound settings are)

-- a variable that is bound isn't set
pub not_set : (symbols : List Term) (count : ℕ) (bound : List ℕ) (settings : List Setting) (v : ℕ) → AreFine symbols count bound settings → IsTrue (has bound v) → has (set_by settings) v ≡ false
not_set symbols count bound [] v fine is = refl
not_set symbols count bound (setting ∷ more) v fine is =
    false_from_ne_true (has (set_by (setting ∷ more)) v)
    (λ there. elim (or_cases (setting.var == v) (has (set_by more) v) there) [
      | inl same ↦ true≢false (sym (subst (λ (u : ℕ). IsTrue (has bound u)) (sym (eqb-true setting.var v same)) is) ∙ fine.0.new)
      | inr later ↦ true≢false (sym later ∙ not_set symbols count (setting.var ∷ bound) more v fine.1 (or_right (setting.var == v) (has bound v) is))
    ])

-- a variable that is set is one of a rule
pub set_small : (symbols : List Term) (count : ℕ) (bound : List ℕ) (settings : List Setting) (v : ℕ) → AreFine symbols count bound settings → IsTrue (has (set_by settings) v) → v < count
set_small symbols count bound [] v fine is = absurd (true≢false (sym is))
set_small symbols count bound (setting ∷ more) v fine is = elim (or_cases (setting.var == v) (has (set_by more) v) is) [
  | inl same ↦ subst (λ (u : ℕ). u < count) (eqb-true setting.var v same) fine.0.small
  | inr later ↦ set_small symbols count (setting.var ∷ bound) more v fine.1 later
]
