-- The goals of a rule whose variables are all bound have an order, and that is a plan of the rule.
use Rattle.std.proofs.Common.{◌≡◌, ℕ, List, length, sym, ap, subst}
use Rattle.std.specs.Prelude.{Result, Ok, Err, IfErr}
use Rattle.tel_base.specs.Members.{In}
use Rattle.tel_base.proofs.Members.{In-append_right}
use Rattle.tel_term.specs.declared.terms.Term.{Term}
use Rattle.tel_rule.specs.declared.statements.Head.{Head}
use Rattle.tel_rule.specs.declared.statements.Literal.{Literal}
use Rattle.tel_rule.specs.declared.statements.Statement.{Statement}
use Rattle.rule_binding.specs.Binding.{body_of}
use Rattle.live_instances.specs.Instances.{head_exprs}
use Rattle.rule_plans.specs.Goals.{Rows}
use Rattle.rule_plans.specs.Within.{AreWithin}
use Rattle.plan_search.specs.declared.steps.Step.{Step}
use Rattle.plan_search.specs.Steps.{Tables}
use Rattle.plan_order.specs.declared.goals.Goal.{Goal}
use Rattle.plan_order.specs.Goals.{IsSound}
use Rattle.plan_order.specs.Passing.{IsOrdered, IsStuck}
use Rattle.plan_order.proofs.RuleGoals.{ordered_rule_plans}
use Rattle.rule_goals.specs.Said.{Numbers}
use Rattle.rule_goals.specs.Numbers.{AreNumbered}
use Rattle.rule_goals.specs.Laws.{AreGoalsOf, body_exprs, AreFit}
use Rattle.rule_goals.proofs.Meant.{rule_goals_are}
use Rattle.rule_goals.proofs.Stuck.{bound_rules}
use Rattle.live_bindings.specs.declared.fault.LiveFault.{LiveFault}
use Rattle.live_bindings.specs.declared.fault.LiveFault.TheVariants as faults
use Rattle.live_bindings.specs.Limits.{IfLarge}
use Rattle.live_bindings.specs.Planned.{IsPlanned}
use Rattle.rule_bindings.specs.Bound.{IsBoundRule, IsPlanFor}

-- ---- what an answer says

pub large_then : (P Q : Type 0) (fault : LiveFault) → (P → Q) → IfLarge fault P → IfLarge fault Q
large_then P Q faults.Large so says = so says
large_then P Q faults.Memory so says = tt

pub err_then : {X : Type 0} (result : Result X LiveFault) (P Q : Type 0) → (P → Q) → IfErr result (λ fault. IfLarge fault P) → IfErr result (λ fault. IfLarge fault Q)
err_then (Ok found) P Q so says = tt
err_then (Err fault) P Q so says = large_then P Q fault so says

-- ---- plans

pub planned_by : (tables : Tables) (symbols : List Term) (places : ℕ) (head : Head) (body : List Literal) (statements : List Statement) (rows : Rows) (steps others : List Step) (vars count : ℕ)
    → others ≡ steps → count ≡ vars → IsPlanned tables symbols steps places vars head body statements rows → IsPlanned tables symbols others places count head body statements rows
planned_by tables symbols places head body statements rows steps others vars count same counted planned =
    subst (λ (l : List Step). IsPlanned tables symbols l places count head body statements rows) (sym same)
    (subst (λ (n : ℕ). IsPlanned tables symbols steps places n head body statements rows) (sym counted) planned)

module _ (number : Numbers) (statements : List Statement) (rows : Rows) (tables : Tables) (symbols : List Term) (rule : Statement) (head : Head) (body : List Literal) (bound : IsBoundRule number statements rows tables symbols rule head body) where
  body_within : AreWithin symbols (length rule.vars) (body_exprs body)
  body_within expr there = bound.within expr (In-append_right expr (head_exprs head) (body_exprs body) there)

  -- the goals that were made
  module _ (vars places : ℕ) (list : List Goal) (count : vars ≡ length rule.vars)
      (goals : (ss : List Statement) (terms : List Term) (rs : Rows) (ts : Tables) → AreNumbered number ss rs ts → AreGoalsOf ss terms rs ts vars body places list)
      (fit : (terms : List Term) → AreWithin terms vars (body_exprs body) → AreFit terms places list) where
    are : AreGoalsOf statements symbols rows tables (length rule.vars) body places list
    are = subst (λ (n : ℕ). AreGoalsOf statements symbols rows tables n body places list) count (goals statements symbols rows tables bound.numbered)

    fits : AreFit symbols places list
    fits = fit symbols (subst (λ (n : ℕ). AreWithin symbols n (body_exprs body)) (sym count) body_within)

    pub all_sound : (goal : Goal) → In goal list → IsSound places goal
    all_sound = fits.sound

    pub not_stuck : IsStuck places list → ⊥
    not_stuck =
        let own = ap body_of (sym bound.is) in
        bound_rules statements symbols rows tables rule places list
        (subst (λ (b : List Literal). AreGoalsOf statements symbols rows tables (length rule.vars) b places list) own are) fits
        (subst (λ (b : List Literal). AreWithin symbols (length rule.vars) (body_exprs b)) own body_within) bound.bound

    pub is_plan : (steps : List Step) → IsOrdered tables symbols places list steps → IsPlanFor statements rows tables symbols (length rule.vars) head body steps places
    is_plan steps ordered = record {
      planned = record {
        table = bound.table;
        rows_are = bound.rows_are;
        within = bound.within;
        plan = ordered_rule_plans statements symbols rows (length rule.vars) body tables places list steps (rule_goals_are statements symbols rows tables (length rule.vars) body places list are) ordered;
        places_are = are.places_are;
      };
      terms = ordered.terms fits.terms;
    }
