-- What a pass over goals that are left keeps.
use Rattle.std.proofs.Common.{◌≡◌, ◌∙◌, ℕ, ◌+◌, ◌<◌, ◌≤◌, List, [], ◌∷◌, ◌++◌, length, sym, ap, subst, ⊎_elim, arith}
use Rattle.std.specs.Prelude.{Bool, true, false, IsFalse, Some, slice_get}
use Rattle.std.proofs.lemmas.List.{length-append}
use Rattle.tel_base.specs.Members.{In}
use Rattle.tel_base.proofs.Members.{In-append_cases}
use Rattle.plan_search.specs.declared.steps.Step.{Step}
use Rattle.plan_order.specs.declared.goals.Goal.{Goal}
use Rattle.plan_order.specs.Goals.{ready}
use Rattle.plan_order.specs.Taking.{Takes, TakesOr, Offers}
use Rattle.plan_order.specs.Passing.{Keeps, AreInside, AreUnready}
use Rattle.plan_order.proofs.Drafts.{some_same, draft_taken, draft_kept}

-- `next` are those that stay of the goals that were seen, `rest` are those to come
pub record IsPassing (goals : List Goal) (left next rest : List ℕ) (old known : List Bool) (before steps : List Step) (seen : ℕ) : Type 0 where
  pub keeps : Keeps goals left (next ++ rest) old known before steps
  pub inside : AreInside goals next
  pub long : length known ≡ length old
  pub fewer : length next ≤ seen
  pub quiet : length next ≡ seen → AreUnready goals next known

module _ (goals : List Goal) (left next rest : List ℕ) (old known : List Bool) (before steps : List Step) (seen n : ℕ) (goal : Goal) (is : slice_get goals n ≡ Some goal) (p : IsPassing goals left next (n ∷ rest) old known before steps seen) where
  pub passing_taken : (new : List Bool) (after : List Step) (step : Step) → Takes goal known new step → after ≡ steps ++ step ∷ [] → IsPassing goals left next rest old new before after (seen + 1)
  passing_taken new after step takes more = record {
    keeps = λ tables symbols places draft. draft_taken tables symbols places goals next rest n known new steps after goal step is takes more (p.keeps tables symbols places draft);
    inside = p.inside;
    long = takes.long ∙ p.long;
    fewer = omega (arith, p.fewer);
    quiet = λ same. let less = p.fewer in absurd (omega (arith, same, less));
  }

  unready_more : length next ≡ seen → IsFalse (ready known goal) → AreUnready goals (next ++ n ∷ []) known
  unready_more same unready m other there is_other =
      ⊎_elim (λ (earlier : In m next). p.quiet same m other earlier is_other)
      (λ last. ⊎_elim (λ (e : n ≡ m). let one : goal ≡ other = some_same goal other (sym is ∙ ap (slice_get goals) e ∙ is_other) in subst (λ (g : Goal). IsFalse (ready known g)) one unready) (λ none. absurd none) last)
      (In-append_cases m next (n ∷ []) there)

  pub passing_kept : n < length goals → IsFalse (ready known goal) → IsPassing goals left (next ++ n ∷ []) rest old known before steps (seen + 1)
  passing_kept less unready = record {
    keeps = λ tables symbols places draft. draft_kept tables symbols places goals next rest n known steps (p.keeps tables symbols places draft);
    inside = λ m there. ⊎_elim (λ (earlier : In m next). p.inside m earlier) (λ last. ⊎_elim (λ (e : n ≡ m). subst (λ (k : ℕ). k < length goals) e less) (λ none. absurd none) last) (In-append_cases m next (n ∷ []) there);
    long = p.long;
    fewer = let long = length-append next (n ∷ []) in omega (arith, long, p.fewer);
    quiet = λ same. let long = length-append next (n ∷ []) in unready_more (omega (arith, same, long)) unready;
  }

  pub tried_taken : (took : Bool) (new : List Bool) (after : List Step) → took ≡ true → Offers goal took known new steps after → IsPassing goals left next rest old new before after (seen + 1)
  tried_taken took new after e offers =
      let taken = subst (λ (t : Bool). TakesOr goal t known new steps after) e offers.taken in
      passing_taken new after taken.0 taken.1 taken.2

  pub tried_kept : (took : Bool) (new : List Bool) (after : List Step) (next_after : List ℕ) → took ≡ false → Offers goal took known new steps after → n < length goals → next_after ≡ next ++ n ∷ []
      → IsPassing goals left next_after rest old new before after (seen + 1)
  tried_kept took new after next_after e offers less pushed =
      let stays = subst (λ (t : Bool). TakesOr goal t known new steps after) e offers.taken in
      subst (λ (l : List ℕ). IsPassing goals left l rest old new before after (seen + 1)) (sym pushed)
      (subst (λ (l : List Step). IsPassing goals left (next ++ n ∷ []) rest old new before l (seen + 1)) (sym stays.1)
      (subst (λ (k : List Bool). IsPassing goals left (next ++ n ∷ []) rest old k before steps (seen + 1)) (sym stays.0)
      (passing_kept less (sym offers.where_ready ∙ e))))
