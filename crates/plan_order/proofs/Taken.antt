-- What it is to take a goal.
use Rattle.std.proofs.Common.{◌≡◌, ◌∙◌, ℕ, true, List, ◌++◌, length, refl, sym, ap, subst, Bor}
use Rattle.std.specs.Prelude.{Bool, IsTrue}
use Rattle.std.specs.List.{list_all}
use Rattle.tel_base.specs.Members.{In}
use Rattle.tel_term.specs.declared.exprs.Expr.{Expr}
use Rattle.tel_rule.specs.declared.statements.Relation.{Relation}
use Rattle.rule_binding.specs.Binding.{vars_of}
use Rattle.join_plans.specs.declared.columns.Column.{Column}
use Rattle.join_plans.specs.Join.{place, is_known, IsRight, learn, IsPlan}
use Rattle.join_plans.specs.Goals as plans
use Rattle.join_plans.proofs.Exact.{length-learn, length-learn_all}
use Rattle.fact_table.specs.Rows.{rows_of}
use Rattle.rule_plans.specs.Goals.{expression_of}
use Rattle.plan_search.specs.declared.steps.Step.TheVariants as steps
use Rattle.plan_order.specs.declared.goals.Goal.TheVariants as goals
use Rattle.plan_order.specs.Taking.{AreColumns, Takes}
use Rattle.plan_order.proofs.Steps.{learn_grows, learn_all_grows, right_known, all_right_known, is_ready, is_clear}

pub row_taken : (predicate : ℕ) (places : List ℕ) (old new : List Bool) (cs : List Column) → AreColumns places old new cs → Takes (goals.Row predicate places) old new (steps.Row predicate cs)
row_taken predicate places old new cs are = record {
  asks = λ tables symbols. ap (λ (l : List ℕ). plans.IsRow l (rows_of tables predicate)) are.same;
  runs = λ tables symbols more plan. (are.right, subst (λ (k : List Bool). IsPlan k more) are.learnt plan);
  done = λ v there. subst (λ (k : List Bool). IsTrue (is_known k v)) (sym are.learnt) (all_right_known old cs are.right v (subst (λ (l : List ℕ). In v l) (sym are.same) there));
  grows = λ v is. subst (λ (k : List Bool). IsTrue (is_known k v)) (sym are.learnt) (learn_all_grows old cs v is);
  long = ap length are.learnt ∙ length-learn_all old cs;
  terms = λ symbols own. tt;
}

pub equal_taken :
    (p : ℕ) (expr : Bor Expr) (reads : List ℕ) (old new : List Bool) (c : Column) → place c ≡ p → IsRight old c → new ≡ learn old c → reads ≡ vars_of expr.now → list_all (is_known old) reads ≡ true
    → Takes (goals.Equal p expr reads) old new (steps.Equal c expr)
equal_taken p expr reads old new c at right learnt are all = record {
  asks = λ tables symbols. ap (λ (q : ℕ). plans.HasValue q (expression_of expr.now)) at;
  runs = λ tables symbols more plan. (is_ready old expr.now (subst (λ (l : List ℕ). list_all (is_known old) l ≡ true) are all), right, subst (λ (k : List Bool). IsPlan k more) learnt plan);
  done = subst (λ (k : List Bool). IsTrue (is_known k p)) (sym learnt) (subst (λ (q : ℕ). IsTrue (is_known (learn old c) q)) at (right_known old c right));
  grows = λ v is. subst (λ (k : List Bool). IsTrue (is_known k v)) (sym learnt) (learn_grows old c v is);
  long = ap length learnt ∙ length-learn old c;
  terms = λ symbols own. own;
}

pub compare_taken :
    (relation : Relation) (left right : Bor Expr) (reads : List ℕ) (old : List Bool) → reads ≡ vars_of left.now ++ vars_of right.now → list_all (is_known old) reads ≡ true
    → Takes (goals.Compare relation left right reads) old old (steps.Compare relation left right)
compare_taken relation left right reads old are all = record {
  asks = λ tables symbols. refl;
  runs = λ tables symbols more plan. (is_clear symbols relation old left.now right.now (subst (λ (l : List ℕ). list_all (is_known old) l ≡ true) are all), plan);
  done = tt;
  grows = λ v is. is;
  long = refl;
  terms = λ symbols own. own;
}
