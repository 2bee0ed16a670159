-- Steps for the goals of a rule.
use Rattle.std.proofs.Common.{ℕ, subst}
use Rattle.std.specs.Prelude.{false, replicate}
use Rattle.join_plans.specs.Join.{IsPlan}
use Rattle.plan_search.specs.Steps.{plan_of}
use Rattle.plan_order.specs.Laws.{OrderedGoalsAreRulePlans}

pub ordered_rule_plans : OrderedGoalsAreRulePlans
ordered_rule_plans statements symbols rows vars body tables places goals steps are ordered = record {
  runs = subst (λ (n : ℕ). IsPlan (replicate n false) (plan_of tables symbols steps)) are.places_are ordered.runs;
  all = λ goal there. (ordered.asks goal).1 (are.all goal there);
  only = λ goal there. are.only goal ((ordered.asks goal).0 there);
}
