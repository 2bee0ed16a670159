-- What a search by a plan of a rule finds.
use Rattle.std.proofs.Common.{◌≡◌, ◌≤◌, ℕ, List, length, replicate, sym, ap, ◌∙◌, subst}
use Rattle.std.specs.Prelude.{pos, false}
use Rattle.std.proofs.lemmas.List.{length-replicate}
use Rattle.tel_term.specs.declared.terms.Term.{Term}
use Rattle.tel_term.specs.declared.terms.Value.{Value}
use Rattle.tel_term.specs.declared.terms.Value.TheVariants as values
use Rattle.tel_rule.specs.declared.statements.Head.{Head}
use Rattle.tel_rule.specs.declared.statements.Literal.{Literal}
use Rattle.tel_rule.specs.declared.statements.Statement.{Statement}
use Rattle.join_plans.specs.Join.{answers, IsPlan}
use Rattle.rule_plans.specs.Goals.{Rows, rule_atoms}
use Rattle.rule_plans.specs.Laws.{AreTheLive}
use Rattle.rule_plans.proofs.Atoms.{after_atoms_least}
use Rattle.rule_plans.proofs.Live.{rule_plans_find}
use Rattle.plan_search.specs.declared.steps.Step.{Step}
use Rattle.plan_search.specs.Steps.{Tables, plan_of, AreTerms}
use Rattle.live_bindings.specs.Planned.{IsPlanned}
use Rattle.live_bindings.proofs.Found.{zeros_terms}

module _ (tables : Tables) (symbols : List Term) (steps : List Step) (places vars : ℕ) (head : Head) (body : List Literal) (statements : List Statement) (rows : Rows) (planned : IsPlanned tables symbols steps places vars head body statements rows) (env : List Value) (is : env ≡ replicate places (values.Num (pos 0))) where
  long : length env ≡ places
  long = ap length is ∙ length-replicate places (values.Num (pos 0))

  pub runs : IsPlan (replicate (length env) false) (plan_of tables symbols steps)
  runs = subst (λ (n : ℕ). IsPlan (replicate n false) (plan_of tables symbols steps)) (sym (long ∙ planned.places_are)) planned.plan.runs

  pub enough : vars ≤ length env
  enough = subst (λ (n : ℕ). vars ≤ n) (sym (long ∙ planned.places_are)) (after_atoms_least vars (rule_atoms statements rows body))

  pub env_terms : AreTerms symbols env
  env_terms = subst (λ (e : List Value). AreTerms symbols e) (sym is) (zeros_terms symbols places)

  pub found_live : AreTheLive statements symbols vars head body (answers (plan_of tables symbols steps) env)
  found_live = rule_plans_find statements symbols rows vars head body (plan_of tables symbols steps) env planned.table planned.rows_are planned.within planned.plan (long ∙ planned.places_are)
