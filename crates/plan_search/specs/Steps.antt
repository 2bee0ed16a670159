-- What the steps of a plan mean, and when a search by them can be made.
use Rattle.std.specs.Prelude.{ℕ, List, map, IsTrue}
use Rattle.std.specs.List.{list_all}
use Rattle.tel_base.specs.Members.{In}
use Rattle.tel_term.specs.declared.terms.Term.{Term}
use Rattle.tel_term.specs.declared.terms.Value.{Value}
use Rattle.live_instances.specs.Bindings.{is_value}
use Rattle.join_plans.specs.Join as plans
use Rattle.fact_table.specs.Rows.{rows_of}
use Rattle.rule_plans.specs.Goals.{expression_of, comparison_of}
use Rattle.rule_plans.specs.Within.{values_in}
use Rattle.plan_search.specs.declared.steps.Step.{Step}
use Rattle.plan_search.specs.declared.steps.Step.TheVariants as steps

-- the rows of all tables, by predicate
abbrev pub Tables : Type 0
Tables = List (List (List Value))

abbrev pub step_of : Tables → List Term → Step → plans.Step
step_of tables symbols (steps.Row predicate columns) = plans.Row columns (rows_of tables predicate)
step_of tables symbols (steps.Equal column expr) = plans.Equal column (expression_of expr.now)
step_of tables symbols (steps.Compare relation left right) = plans.Compare (comparison_of symbols relation left.now right.now)

abbrev pub plan_of : Tables → List Term → List Step → List plans.Step
plan_of tables symbols steps = map (step_of tables symbols) steps

-- ---- terms of the program

abbrev pub AreTerms : List Term → List Value → Type 0
AreTerms symbols values = IsTrue (list_all (is_value symbols) values)

-- the expressions of a step are of terms of the program
abbrev pub HasTerms : List Term → Step → Type 0
HasTerms symbols (steps.Row predicate columns) = Unit {0}
HasTerms symbols (steps.Equal column expr) = AreTerms symbols (values_in expr.now)
HasTerms symbols (steps.Compare relation left right) = AreTerms symbols (values_in left.now) × AreTerms symbols (values_in right.now)

abbrev pub HaveTerms : List Term → List Step → Type 0
HaveTerms symbols steps = (step : Step) → In step steps → HasTerms symbols step

-- the rows are of terms of the program
abbrev pub RowsHaveTerms : List Term → Tables → Type 0
RowsHaveTerms symbols tables = (predicate : ℕ) (row : List Value) → In row (rows_of tables predicate) → AreTerms symbols row
