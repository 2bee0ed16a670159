-- Rules of a program whose variables are all bound, and plans of the search for their faults.
use Rattle.std.specs.Prelude.{◌≡◌, ◌↔◌, ℕ, Bool, true, false, List, map, length, replicate, IsTrue}
use Rattle.tel_base.specs.Members.{In}
use Rattle.tel_term.specs.declared.terms.Term.{Term}
use Rattle.tel_term.specs.declared.terms.Value.{Value}
use Rattle.tel_term.specs.declared.exprs.Expr.{Expr}
use Rattle.tel_rule.specs.declared.statements.Head.{Head}
use Rattle.tel_rule.specs.declared.statements.Literal.{Literal}
use Rattle.tel_rule.specs.declared.statements.Kind.TheVariants as kinds
use Rattle.tel_rule.specs.declared.statements.Statement.{Statement}
use Rattle.tel_semantics.specs.Tables.{is_table}
use Rattle.rule_binding.specs.Binding.{has, row_vars, Setting, SettingsOf}
use Rattle.live_instances.specs.Instances.{rule_exprs}
use Rattle.live_instances.specs.Reached.{set_by}
use Rattle.join_plans.specs.Join.{answers, IsPlan}
use Rattle.join_plans.specs.Goals as plans
use Rattle.rule_plans.specs.Goals.{Rows, place_count, row_goals}
use Rattle.plan_search.specs.declared.steps.Step.{Step}
use Rattle.plan_search.specs.Steps.{Tables, plan_of, AreTerms, HaveTerms}
use Rattle.plan_order.specs.declared.goals.Goal.{Goal}
use Rattle.plan_order.specs.Goals.{meant}
use Rattle.rule_goals.specs.Said.{Numbers, all_said}
use Rattle.range_faults.specs.Laws.{AreParted, AreBegun}
use Rattle.range_faults.specs.Ranges.{IsBoundProgram}
use Rattle.range_faults.specs.Stops.{AllAgree}
use Rattle.range_faults.specs.Operations.{operations}
use Rattle.range_faults.specs.Testing.{all_agree}

-- a statement of such a program
pub record IsIn (number : Numbers) (statements : List Statement) (rows : Rows) (tables : Tables) (symbols : List Term) (statement : Statement) : Type 0 where
  pub program : IsBoundProgram number statements rows tables symbols
  pub there : In statement statements

-- a rule of it, with this head and body
pub record IsRuleIn (number : Numbers) (statements : List Statement) (rows : Rows) (tables : Tables) (symbols : List Term) (rule : Statement) (head : Head) (body : List Literal) : Type 0 where
  pub inside : IsIn number statements rows tables symbols rule
  pub is : rule.kind ≡ kinds.Rule head body

-- the answer tells whether this holds
abbrev pub Tells : Bool → Type 0 → Type 0
Tells true P = P
Tells false P = P → ⊥

-- steps that find the values at so many places with which the search begins, and the goals that are late
pub record IsRangePlan (statements : List Statement) (rows : Rows) (tables : Tables) (symbols : List Term) (rule : Statement) (body : List Literal) (steps : List Step) (places : ℕ) (late : List Goal) : Type 0 where
  pub places_are : places ≡ place_count statements rows (length rule.vars) body
  pub early : List plans.Goal
  pub parted : (settings : List Setting) → SettingsOf (is_table statements) rule settings → AreParted (set_by settings) (row_goals statements rows (length rule.vars) body) early (map (meant tables symbols) late)
  pub runs : IsPlan (replicate places false) (plan_of tables symbols steps)
  pub terms : HaveTerms symbols steps
  pub finds : (env w : List Value) → length env ≡ places → In w (answers (plan_of tables symbols steps) env) ↔ AreBegun (length rule.vars) places (row_vars (is_table statements) body) early w
  pub values : (env w : List Value) → length env ≡ places → In w (answers (plan_of tables symbols steps) env) → AreTerms symbols w
  pub agreement : (unset : List ℕ) (env : List Value) → IsTrue (all_agree (has unset) env (all_said late)) ↔ AllAgree unset env (map (meant tables symbols) late)

-- a rule with its operations, its setting equations and a plan of the search for its faults
pub record IsSearch (number : Numbers) (statements : List Statement) (rows : Rows) (tables : Tables) (symbols : List Term) (rule : Statement) (head : Head) (body : List Literal) (exprs : List Expr) (settings : List Setting) (steps : List Step) (places : ℕ) (late : List Goal) : Type 0 where
  pub rule_in : IsRuleIn number statements rows tables symbols rule head body
  pub exprs_are : exprs ≡ operations (rule_exprs head body)
  pub settings_are : SettingsOf (is_table statements) rule settings
  pub plan : IsRangePlan statements rows tables symbols rule body steps places late
