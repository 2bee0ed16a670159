-- Marks of the variables that rows bind, and what a search for the faults of a rule begins with.
use Rattle.std.proofs.Common.{◌≡◌, inl, ℕ, ◌<◌, Bool, true, false, List, length, refl, sym, ap, subst, ⊎_elim}
use Rattle.std.specs.Prelude.{Option, Some, None}
use Rattle.tel_base.specs.Members.{In}
use Rattle.tel_base.proofs.Members.{In-flat_map_from}
use Rattle.tel_term.specs.declared.terms.Term.{Term}
use Rattle.tel_term.specs.declared.exprs.Expr.{Expr}
use Rattle.tel_rule.specs.declared.statements.Head.{Head}
use Rattle.tel_rule.specs.declared.statements.Literal.{Literal}
use Rattle.tel_rule.specs.declared.statements.Kind.{Kind}
use Rattle.tel_rule.specs.declared.statements.Signature.{Signature}
use Rattle.tel_rule.specs.declared.statements.Statement.{Statement}
use Rattle.tel_semantics.specs.Tables.{is_table}
use Rattle.rule_binding.specs.Binding.{whole_var, one_var, row_vars, body_of, equations_of, Setting, AreSettings, SettingsOf}
use Rattle.rule_settings.specs.Candidates.{AreMarked}
use Rattle.live_instances.specs.Instances.{rule_exprs, table_atoms}
use Rattle.rule_plans.specs.Goals.{Rows}
use Rattle.rule_plans.specs.Within.{AreWithin, kind_exprs}
use Rattle.rule_plans.proofs.Exprs.{whole_is}
use Rattle.rule_plans.proofs.Atoms.{atom_in_rule}
use Rattle.plan_search.specs.declared.steps.Step.{Step}
use Rattle.plan_search.specs.Steps.{Tables}
use Rattle.plan_order.specs.declared.goals.Goal.{Goal}
use Rattle.rule_goals.specs.Said.{Numbers}
use Rattle.rule_goals.specs.Numbers.{has_number}
use Rattle.rule_goals.proofs.Stuck.{atom_vars, vars_are}
use Rattle.range_faults.specs.Operations.{operations}
use Rattle.range_faults.specs.Rules.{IsRuleIn, IsRangePlan, IsSearch, Tells}

pub tells_by : (answer : Bool) (P : Type 0) → (answer ≡ true → P) → (answer ≡ false → P → ⊥) → Tells answer P
tells_by true P some none = some refl
tells_by false P some none = none refl

module _ (number : Numbers) (statements : List Statement) (rows : Rows) (tables : Tables) (symbols : List Term) (rule : Statement) (head : Head) (body : List Literal) (rule_in : IsRuleIn number statements rows tables symbols rule head body) where
  rule_within : AreWithin symbols (length rule.vars) (rule_exprs head body)
  rule_within = subst (λ (kind : Kind). AreWithin symbols (length rule.vars) (kind_exprs kind)) rule_in.is (rule_in.inside.program.within rule rule_in.inside.there)

  whole_one : (arg : Expr) (v : ℕ) (whole : Option ℕ) → whole_var arg ≡ whole → In arg (rule_exprs head body) → In v (one_var whole) → v < length rule.vars
  whole_one arg v None is there own = absurd own
  whole_one arg v (Some w) is there own =
      ⊎_elim (λ (same : w ≡ v). subst (λ (u : ℕ). u < length rule.vars) same ((rule_within arg there).vars w (subst (λ (l : List ℕ). In w l) (sym (whole_is arg w is).0) (inl refl)))) (λ none. absurd none) own

  -- the variables that rows bind are those of the rule
  row_var_below : (v : ℕ) → In v (row_vars (is_table statements) body) → v < length rule.vars
  row_var_below v there =
      let from = In-flat_map_from atom_vars v (table_atoms statements body) (subst (λ (l : List ℕ). In v l) (vars_are statements body) there) in
      let arg = In-flat_map_from (λ (e : Expr). one_var (whole_var e)) v from.0.args from.2 in
      whole_one arg.0 v (whole_var arg.0) refl (atom_in_rule statements head body from.0 arg.0 from.1 arg.1) arg.2

  pub marks_of : (marks : List Bool) (vars : ℕ) → vars ≡ length rule.vars → (((v : ℕ) → In v (row_vars (λ (predicate : Signature). has_number (number predicate)) body) → v < vars) → AreMarked marks (row_vars (λ (predicate : Signature). has_number (number predicate)) body)) → AreMarked marks (row_vars (is_table statements) body)
  marks_of marks vars count given =
      let same : ◌≡◌ {A = Signature → Bool} (λ (predicate : Signature). has_number (number predicate)) (is_table statements) = λ i predicate. rule_in.inside.program.numbered.tables_have predicate i in
      subst (λ (t : Signature → Bool). AreMarked marks (row_vars t body)) same
      (given (λ v there. subst (λ (n : ℕ). v < n) (sym count) (row_var_below v (subst (λ (t : Signature → Bool). In v (row_vars t body)) same there))))

  pub settings_of : (settings : List Setting) → AreSettings (equations_of body) (row_vars (is_table statements) body) settings → SettingsOf (is_table statements) rule settings
  settings_of settings are = subst (λ (l : List Literal). AreSettings (equations_of l) (row_vars (is_table statements) l) settings) (sym (ap body_of rule_in.is)) are

  pub by_slices : (exprs : List Expr) (settings : List Setting) (steps others : List Step) (places : ℕ) (late lates : List Goal) → others ≡ steps → lates ≡ late → IsSearch number statements rows tables symbols rule head body exprs settings steps places late → IsSearch number statements rows tables symbols rule head body exprs settings others places lates
  by_slices exprs settings steps others places late lates same_steps same_late is =
      subst (λ (l : List Step). IsSearch number statements rows tables symbols rule head body exprs settings l places lates) (sym same_steps)
      (subst (λ (l : List Goal). IsSearch number statements rows tables symbols rule head body exprs settings steps places l) (sym same_late) is)

  pub search_of : (exprs : List Expr) (settings : List Setting) (steps : List Step) (places : ℕ) (late : List Goal) → exprs ≡ operations (rule_exprs head body) → AreSettings (equations_of body) (row_vars (is_table statements) body) settings → IsRangePlan statements rows tables symbols rule body steps places late
      → IsSearch number statements rows tables symbols rule head body exprs settings steps places late
  search_of exprs settings steps places late exprs_are are plan = record { rule_in = rule_in; exprs_are = exprs_are; settings_are = settings_of settings are; plan = plan }
