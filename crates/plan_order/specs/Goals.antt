-- What goals ask for, and when they are ready.
use Rattle.std.specs.Prelude.{◌≡◌, ℕ, ◌<◌, Bool, true, List, ◌++◌, IsTrue}
use Rattle.std.specs.List.{list_all}
use Rattle.tel_base.specs.Members.{In}
use Rattle.tel_term.specs.declared.terms.Term.{Term}
use Rattle.rule_binding.specs.Binding.{vars_of}
use Rattle.join_plans.specs.Join.{is_known}
use Rattle.join_plans.specs.Goals as plans
use Rattle.fact_table.specs.Rows.{rows_of}
use Rattle.rule_plans.specs.Goals.{expression_of, comparison_of}
use Rattle.rule_plans.specs.Within.{values_in}
use Rattle.plan_search.specs.Steps.{Tables, AreTerms}
use Rattle.plan_order.specs.declared.goals.Goal.{Goal}
use Rattle.plan_order.specs.declared.goals.Goal.TheVariants as goals

-- what a goal means, where the tables have these rows
abbrev pub meant : Tables → List Term → Goal → plans.Goal
meant tables symbols (goals.Row predicate places) = plans.IsRow places (rows_of tables predicate)
meant tables symbols (goals.Equal place expr reads) = plans.HasValue place (expression_of expr.now)
meant tables symbols (goals.Compare relation left right reads) = plans.Compares (comparison_of symbols relation left.now right.now)

abbrev pub AreBelow : ℕ → List ℕ → Type 0
AreBelow count places = (v : ℕ) → In v places → v < count

-- the places of a goal are among so many, and it reads those of the variables of its expressions
abbrev pub IsSound : ℕ → Goal → Type 0
IsSound count (goals.Row predicate places) = AreBelow count places
IsSound count (goals.Equal place expr reads) = (place < count) × (reads ≡ vars_of expr.now) × AreBelow count reads
IsSound count (goals.Compare relation left right reads) = (reads ≡ vars_of left.now ++ vars_of right.now) × AreBelow count reads

-- the expressions of a goal are of terms of the program
abbrev pub GoalHasTerms : List Term → Goal → Type 0
GoalHasTerms symbols (goals.Row predicate places) = Unit {0}
GoalHasTerms symbols (goals.Equal place expr reads) = AreTerms symbols (values_in expr.now)
GoalHasTerms symbols (goals.Compare relation left right reads) = AreTerms symbols (values_in left.now) × AreTerms symbols (values_in right.now)

abbrev pub GoalsHaveTerms : List Term → List Goal → Type 0
GoalsHaveTerms symbols list = (goal : Goal) → In goal list → GoalHasTerms symbols goal

-- whether what a goal reads has values, by these marks
abbrev pub ready : List Bool → Goal → Bool
ready known (goals.Row predicate places) = true
ready known (goals.Equal place expr reads) = list_all (is_known known) reads
ready known (goals.Compare relation left right reads) = list_all (is_known known) reads

-- the places that a goal gives a value have one
abbrev pub IsDone : List Bool → Goal → Type 0
IsDone known (goals.Row predicate places) = (v : ℕ) → In v places → IsTrue (is_known known v)
IsDone known (goals.Equal place expr reads) = IsTrue (is_known known place)
IsDone known (goals.Compare relation left right reads) = Unit {0}
