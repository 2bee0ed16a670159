-- A draft when a goal is taken or stays.
use Rattle.std.proofs.Common.{◌≡◌, ◌∙◌, ◌⊎◌, inl, inr, ℕ, false, List, [], ◌∷◌, ◌++◌, map, refl, sym, ap, subst, ⊎_elim}
use Rattle.std.specs.Prelude.{Bool, IsTrue, Some, slice_get, replicate}
use Rattle.std.proofs.lemmas.List.{append_assoc}
use Rattle.tel_base.specs.Members.{In}
use Rattle.tel_base.proofs.Members.{In-append_left, In-append_right, In-append_cases, In-map}
use Rattle.tel_term.specs.declared.terms.Term.{Term}
use Rattle.join_plans.specs.Join as plans
use Rattle.join_plans.specs.Join.{is_known, IsPlan}
use Rattle.join_plans.specs.Goals as plans_goals
use Rattle.join_plans.specs.Goals.{goal_of}
use Rattle.plan_search.specs.declared.steps.Step.{Step}
use Rattle.plan_search.specs.Steps.{Tables, step_of, plan_of, HasTerms}
use Rattle.plan_search.proofs.Dropping.{In-get}
use Rattle.plan_order.specs.declared.goals.Goal.{Goal}
use Rattle.plan_order.specs.declared.goals.Goal.TheVariants as goals
use Rattle.plan_order.specs.Goals.{meant, IsDone}
use Rattle.plan_order.specs.Taking.{Takes}
use Rattle.plan_order.specs.Passing.{IsDraft}

pub done_grows : (old new : List Bool) → ((v : ℕ) → IsTrue (is_known old v) → IsTrue (is_known new v)) → (goal : Goal) → IsDone old goal → IsDone new goal
done_grows old new grows (goals.Row predicate places) done = λ v there. grows v (done v there)
done_grows old new grows (goals.Equal place expr reads) done = grows place done
done_grows old new grows (goals.Compare relation left right reads) done = tt

pub some_same : {X : Type 0} (x y : X) → Some x ≡ Some y → x ≡ y
some_same x y e = cc

module _ (tables : Tables) (symbols : List Term) (places : ℕ) (goals : List Goal) (next rest : List ℕ) (n : ℕ) where
  map_last : (before : List Step) (step : Step) → plan_of tables symbols (before ++ step ∷ []) ≡ plan_of tables symbols before ++ step_of tables symbols step ∷ []
  map_last [] step = refl
  map_last (one ∷ before) step = ap (λ (l : List plans.Step). step_of tables symbols one ∷ l) (map_last before step)

  goals_last : (before : List Step) (step : Step) → map goal_of (plan_of tables symbols (before ++ step ∷ [])) ≡ map goal_of (plan_of tables symbols before) ++ goal_of (step_of tables symbols step) ∷ []
  goals_last [] step = refl
  goals_last (one ∷ before) step = ap (λ (l : List plans_goals.Goal). goal_of (step_of tables symbols one) ∷ l) (goals_last before step)

  module _ (old new : List Bool) (before after : List Step) (goal : Goal) (step : Step) (is : slice_get goals n ≡ Some goal) (takes : Takes goal old new step) (more_is : after ≡ before ++ step ∷ []) (draft : IsDraft tables symbols places goals (next ++ n ∷ rest) old before) where
    asked : (g : plans_goals.Goal) → In g (map goal_of (plan_of tables symbols before)) ⊎ (goal_of (step_of tables symbols step) ≡ g) → In g (map goal_of (plan_of tables symbols after))
    asked g here =
        subst (λ (l : List plans_goals.Goal). In g l) (sym (ap (λ (l : List Step). map goal_of (plan_of tables symbols l)) more_is ∙ goals_last before step))
        (⊎_elim (λ old_one. In-append_left g (map goal_of (plan_of tables symbols before)) (goal_of (step_of tables symbols step) ∷ []) old_one) (λ same. In-append_right g (map goal_of (plan_of tables symbols before)) (goal_of (step_of tables symbols step) ∷ []) (inl same)) here)

    only_more : (g : plans_goals.Goal) → In g (map goal_of (plan_of tables symbols after)) → In g (map (meant tables symbols) goals)
    only_more g there =
        ⊎_elim (λ old_one. draft.only g old_one)
        (λ last. ⊎_elim (λ (same : goal_of (step_of tables symbols step) ≡ g). subst (λ (h : plans_goals.Goal). In h (map (meant tables symbols) goals)) (sym (takes.asks tables symbols) ∙ same) (In-map (meant tables symbols) goal goals (In-get goals n goal is))) (λ none. absurd none) last)
        (In-append_cases g (map goal_of (plan_of tables symbols before)) (goal_of (step_of tables symbols step) ∷ [])
        (subst (λ (l : List plans_goals.Goal). In g l) (ap (λ (l : List Step). map goal_of (plan_of tables symbols l)) more_is ∙ goals_last before step) there))

    abbrev Each : ℕ → Goal → Type 0
    Each m other = In m (next ++ rest) ⊎ (In (meant tables symbols other) (map goal_of (plan_of tables symbols after)) × IsDone new other)

    taken_now : (m : ℕ) (other : Goal) → slice_get goals m ≡ Some other → n ≡ m → Each m other
    taken_now m other is_other same =
        let one : goal ≡ other = some_same goal other (sym is ∙ ap (slice_get goals) same ∙ is_other) in
        subst (λ (o : Goal). Each m o) one (inr (asked (meant tables symbols goal) (inr (takes.asks tables symbols)), takes.done))

    each_more : (m : ℕ) (other : Goal) → slice_get goals m ≡ Some other → Each m other
    each_more m other is_other =
        ⊎_elim
        (λ in_left. ⊎_elim (λ (in_next : In m next). inl (In-append_left m next rest in_next))
        (λ later. ⊎_elim (λ (same : n ≡ m). taken_now m other is_other same) (λ (in_rest : In m rest). inl (In-append_right m next rest in_rest)) later)
        (In-append_cases m next (n ∷ rest) in_left))
        (λ both. inr (asked (meant tables symbols other) (inl both.0), done_grows old new takes.grows other both.1))
        (draft.each m other is_other)

    pub draft_taken : IsDraft tables symbols places goals (next ++ rest) new after
    draft_taken = record {
      leads = λ more plan.
          subst (λ (l : List plans.Step). IsPlan (replicate places false) l)
          (sym (append_assoc (plan_of tables symbols before) (step_of tables symbols step ∷ []) more) ∙ ap (λ (l : List plans.Step). l ++ more) (sym (ap (plan_of tables symbols) more_is ∙ map_last before step)))
          (draft.leads (step_of tables symbols step ∷ more) (takes.runs tables symbols more plan));
      only = only_more;
      each = each_more;
      terms = λ own one there.
          ⊎_elim (λ (earlier : In one before). draft.terms own one earlier)
          (λ last. ⊎_elim (λ (same : step ≡ one). subst (λ (s : Step). HasTerms symbols s) same (takes.terms symbols (own goal (In-get goals n goal is)))) (λ none. absurd none) last)
          (In-append_cases one before (step ∷ []) (subst (λ (l : List Step). In one l) more_is there));
    }

  pub draft_kept : (known : List Bool) (steps : List Step) → IsDraft tables symbols places goals (next ++ n ∷ rest) known steps → IsDraft tables symbols places goals ((next ++ n ∷ []) ++ rest) known steps
  draft_kept known steps draft = subst (λ (l : List ℕ). IsDraft tables symbols places goals l known steps) (sym (append_assoc next (n ∷ []) rest)) draft
